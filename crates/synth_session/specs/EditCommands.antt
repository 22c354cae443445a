-- The commands that edit the program at the cursor.
use Rattle.std.specs.Prelude.{ℕ, List, ◌∷◌, Option, option_map}
use Rattle.template_tree.specs.Programs.PlainTree.{PlainNode, PlainTree}
use Rattle.template_tree.specs.Positions.Stop.{PlainStop}
use Rattle.template_tree.specs.declared.change.What.{What}
use Rattle.template_tree.specs.declared.tree_fault.TreeFault.{TreeFault}
use Rattle.template_tree.specs.Edits.Reversal.{reverse_of}
use Rattle.edit_undo.specs.EarlierTree.{EarlierTree, as_kept, kept_trees}
use Rattle.edit_undo.specs.EditLimit.{edit_weight}
use Rattle.session_edit.specs.Edited.{Edited, edited}
use Rattle.session_edit.specs.PlainEdit.{PlainEdit}
use Rattle.synth_session.specs.declared.answer.Refusal.{Refusal}
use Rattle.synth_session.specs.declared.answer.Refusal.TheVariants as why
use Rattle.synth_session.specs.KeyOutcome.{KeyOutcome, edit_acceptance_outcome, refusal_outcome}
use Rattle.synth_session.specs.PlainRun.{without_earlier}
use Rattle.synth_session.specs.PlainSession.{PlainSession}

-- the refusal of a command that edits the program at the cursor, where the edit isn't made for this fault
abbrev pub edit_refusal : TreeFault → Refusal
edit_refusal TreeFault.NotHere = why.NotHere
edit_refusal TreeFault.TooDeep = why.Tree TreeFault.TooDeep
edit_refusal TreeFault.TooLarge = why.Tree TreeFault.TooLarge
edit_refusal TreeFault.SlotsUsedUp = why.Tree TreeFault.SlotsUsedUp
edit_refusal TreeFault.OutOfMemory = why.Tree TreeFault.OutOfMemory

-- a session whose program became this tree, with the cursor at this stop: a run that stands goes back no more
abbrev pub session_with : PlainSession → PlainTree → PlainStop → PlainSession
session_with s tree stop = record s { tree = tree; stop = stop; run = option_map without_earlier s.run }

-- the tree of a session as it is kept once an edit that did this in the slot made this tree of it, with the cursor
-- where it stood, with the weight of the node that the edit took out, if it took one out, and with what going back does
abbrev pub kept_before : PlainSession → PlainTree → Option PlainNode → What → (slot : ℕ) → EarlierTree
kept_before s tree taken what slot = record {
  tree = as_kept tree s.tree;
  stop = s.stop;
  weight = edit_weight taken;
  what = reverse_of what;
  slot = slot;
}

-- the earlier trees to which a session can go back once an edit that did this in the slot made this tree of its own:
-- its own is the latest, and the oldest are dropped until as few stand and weigh as little together as may be
abbrev pub earlier_after : PlainSession → PlainTree → Option PlainNode → What → (slot : ℕ) → List EarlierTree
earlier_after s tree taken what slot = kept_trees (kept_before s tree taken what slot ∷ s.earlier)

-- a session whose program was edited by what was done in the slot: it is this tree, with the cursor at this stop, and
-- the tree before is kept
abbrev pub edited_session : PlainSession → PlainTree → PlainStop → Option PlainNode → What → (slot : ℕ) → PlainSession
edited_session s tree stop taken what slot =
    record (session_with s tree stop) { earlier = earlier_after s tree taken what slot }

-- what comes of an edit of the program: the tree and the cursor after it, or its refusal
abbrev pub edit_outcome : PlainSession → Edited → KeyOutcome
edit_outcome s (Edited.became tree stop taken what slot) =
    edit_acceptance_outcome s.tree what slot (edited_session s tree stop taken what slot)
edit_outcome s (Edited.refused fault) = refusal_outcome s (edit_refusal fault)

-- what comes of a command or of phrase text that edits the program: the edit is made at the cursor
unfoldable pub edited_by : PlainSession → PlainEdit → KeyOutcome
edited_by s edit = edit_outcome s (edited s.tree s.stop edit)
