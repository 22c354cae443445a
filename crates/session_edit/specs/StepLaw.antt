-- The law of steps for edits at a stop: what is answered to one says that it is a step, or that nothing was done.
use Rattle.std.specs.Prelude.{Bool, Result}
use Rattle.template_tree.specs.declared.tree_fault.TreeFault.{TreeFault}
use Rattle.template_tree.specs.Programs.PlainTree.{PlainTree, roomless_tree}
use Rattle.template_tree.specs.Positions.Stop.{PlainStop}
use Rattle.template_tree.specs.Programs.Tree.{IsTree}
use Rattle.tree_steps.specs.EditStep.{CameByEdits, IsEditStep}
use Rattle.session_edit.specs.declared.applied.Applied.{Applied}
use Rattle.session_edit.specs.AppliedEdit.{IsAnswer, IsApplied}
use Rattle.session_edit.specs.Edited.{edited}
use Rattle.session_edit.specs.PlainEdit.{PlainEdit}

-- an edit that was made at a stop is one step from the tree before it to the tree after it
abbrev pub EditsAtStopsAreSteps : Type 0
EditsAtStopsAreSteps =
    (before after : PlainTree) (stop : PlainStop) (edit : PlainEdit) (applied : Applied) → IsTree before
    → IsApplied (edited (roomless_tree before) stop edit) before after applied
    → IsEditStep before after

-- whatever is answered to an edit at a stop, the tree then came by edits from the one before: by that edit, or by none
abbrev pub AnswersComeByEdits : Type 0
AnswersComeByEdits =
    (before after : PlainTree) (stop : PlainStop) (edit : PlainEdit) (takes_memory : Bool)
    (answer : Result Applied TreeFault)
    → IsTree before
    → IsAnswer takes_memory (edited (roomless_tree before) stop edit) before after answer
    → CameByEdits before after
