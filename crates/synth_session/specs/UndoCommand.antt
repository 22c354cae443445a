-- The command that takes back the newest edit that is kept.
use Rattle.std.specs.Prelude.{List, [], ◌∷◌, bytes_eq, if◌then◌else◌, Option, Some, None, option_and_then}
use Rattle.template_tree.specs.Edits.Reversal.{Back}
use Rattle.template_tree.specs.Positions.Path.{slot_at}
use Rattle.template_tree.specs.Positions.Stop.{PlainStop}
use Rattle.template_tree.specs.Programs.PlainTree.{PlainTree}
use Rattle.edit_undo.specs.EarlierTree.{EarlierTree}
use Rattle.session_edit.specs.ShownStop.{shown_at}
use Rattle.synth_session.specs.declared.answer.Refusal.TheVariants as why
use Rattle.synth_session.specs.EditCommands.{session_with}
use Rattle.synth_session.specs.KeyOutcome.{KeyOutcome, edit_acceptance_outcome, refusal_outcome}
use Rattle.synth_session.specs.PlainSession.{PlainSession}

-- where the cursor goes for a stop of which the node is shown there: to the stop itself, where that is its own place,
-- and else there
abbrev pub stop_shown_at : PlainStop → Option PlainStop → PlainStop
stop_shown_at stop None = stop
stop_shown_at stop (Some shown) = if bytes_eq shown.path stop.path then stop else shown

-- where the cursor goes for a stop of the tree: to that stop, or, where it is hidden, to the outermost elided comment
-- round it
abbrev pub stop_or_comment : PlainTree → PlainStop → PlainStop
stop_or_comment tree stop = stop_shown_at stop (option_and_then (shown_at tree) (slot_at tree.items stop.path))

-- a session that went back to an earlier tree, before which these are
abbrev pub session_back_at : PlainSession → EarlierTree → List EarlierTree → PlainSession
session_back_at s latest others =
    let tree : PlainTree = Back s.tree latest.tree in
    record (session_with s tree (stop_or_comment tree latest.stop)) { earlier = others }

-- what comes of going back to the latest of these earlier trees, if there is one
abbrev pub undone_to : PlainSession → List EarlierTree → KeyOutcome
undone_to s [] = refusal_outcome s why.NothingToUndo
undone_to s (latest ∷ others) =
    edit_acceptance_outcome s.tree latest.what latest.slot (session_back_at s latest others)

-- what `.undo` does: the tree before the newest edit that is kept comes back, with as many slots drawn as are now, and
-- with each comment that stands now elided as it is now. The undoing isn't kept itself
abbrev pub undo_outcome : PlainSession → KeyOutcome
undo_outcome s = undone_to s s.earlier
