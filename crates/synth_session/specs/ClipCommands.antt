-- The commands of clips, `.copy`, `.cut` and `.insert`.
use Rattle.std.specs.Prelude.{ℕ, if◌then◌else◌, List, Option, Some, None, option_map}
use Rattle.std.specs.Option.{option_map_or}
use Rattle.template_tree.specs.Positions.Path.{node_at}
use Rattle.template_tree.specs.Programs.PlainTree.{PlainTree}
use Rattle.template_tree.specs.Positions.Stop.{PlainStop}
use Rattle.clip_store.specs.ClipLimit.{is_full}
use Rattle.clip_store.specs.PlainClips.{clip_named, with_clip}
use Rattle.clip_store.specs.PlainFragment.{PlainFragment, slots_of, whole_fragment}
use Rattle.session_edit.specs.Edited.{Edited, edited}
use Rattle.session_edit.specs.Here.{takes_at}
use Rattle.session_edit.specs.PlainEdit.{PlainEdit}
use Rattle.synth_session.specs.declared.answer.ClipRefusal.{ClipRefusal}
use Rattle.synth_session.specs.declared.answer.Refusal.TheVariants as why
use Rattle.synth_session.specs.EditCommands.{edit_refusal, edited_by, edited_session}
use Rattle.synth_session.specs.KeyOutcome.{KeyOutcome, edit_acceptance_outcome, line_acceptance_outcome, refusal_outcome}
use Rattle.synth_session.specs.PlainSession.{PlainSession}
use Rattle.synth_session.specs.TypedLine.{cursor_phrase}

-- the fragment that the commands of clips, `.copy` and `.cut`, take at a stop: the phrase in a part, or else the node
abbrev pub fragment_there : PlainTree → PlainStop → Option ℕ → Option PlainFragment
fragment_there tree stop None = option_map PlainFragment.node (node_at tree.items stop.path)
fragment_there tree stop (Some part) = option_map PlainFragment.phrase (cursor_phrase tree stop)

-- how many slots the fragment at a stop has that `.copy` and `.cut` take
abbrev pub slots_there : PlainTree → PlainStop → ℕ
slots_there tree stop = option_map_or slots_of (fragment_there tree stop stop.part) 0

-- what comes of copying what stands at the cursor into the clip of this name, with nothing elided in it
abbrev pub copy_outcome : PlainSession → List ℕ → Option PlainFragment → KeyOutcome
copy_outcome s name None = refusal_outcome s why.NotHere
copy_outcome s name (Some fragment) =
    line_acceptance_outcome (record s { clips = with_clip name (whole_fragment fragment) s.clips })

-- what `.copy` does: what could be taken out at the cursor is copied into the clip of this name, where the clips have
-- room
abbrev pub copied_to_clip : PlainSession → List ℕ → KeyOutcome
copied_to_clip s name =
    if takes_at s.tree s.stop
    then (if is_full name (slots_there s.tree s.stop) s.clips
    then refusal_outcome s (why.Clip ClipRefusal.Full)
    else copy_outcome s name (fragment_there s.tree s.stop s.stop.part))
    else refusal_outcome s why.NotHere

-- what comes of taking out what stands at the cursor into the clip of this name, with nothing elided in it
abbrev pub cut_outcome : PlainSession → List ℕ → Edited → Option PlainFragment → KeyOutcome
cut_outcome s name (Edited.refused fault) fragment = refusal_outcome s (edit_refusal fault)
cut_outcome s name (Edited.became tree stop taken what slot) None = refusal_outcome s why.NotHere
cut_outcome s name (Edited.became tree stop taken what slot) (Some fragment) =
    edit_acceptance_outcome s.tree what slot
    (record (edited_session s tree stop taken what slot) { clips = with_clip name (whole_fragment fragment) s.clips })

-- what `.cut` does: what stands at the cursor is taken out into the clip of this name, where the clips have room
abbrev pub cut_to_clip : PlainSession → List ℕ → KeyOutcome
cut_to_clip s name =
    if takes_at s.tree s.stop
    then (if is_full name (slots_there s.tree s.stop) s.clips
    then refusal_outcome s (why.Clip ClipRefusal.Full)
    else cut_outcome s name (edited s.tree s.stop PlainEdit.take) (fragment_there s.tree s.stop s.stop.part))
    else refusal_outcome s why.NotHere

-- a copy of the fragment in a clip, as it is there, comes in at the cursor, where there is such a clip
abbrev pub fragment_inserted : PlainSession → Option PlainFragment → KeyOutcome
fragment_inserted s None = refusal_outcome s (why.Clip ClipRefusal.NoClip)
fragment_inserted s (Some fragment) = edited_by s (PlainEdit.insert fragment)

-- what `.insert` does: a copy of the clip of this name comes in at the cursor
abbrev pub clip_inserted : PlainSession → List ℕ → KeyOutcome
clip_inserted s name = fragment_inserted s (clip_named name s.clips)
