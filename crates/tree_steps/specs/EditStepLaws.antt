-- The laws of steps: each edit is one, and those that follow one another make one way.
use Rattle.std.specs.Prelude.{◌≡◌, List, Option, Some, ℕ}
use Rattle.plcs_grammar.specs.declared.node_kind.NodeKind.{NodeKind}
use Rattle.plcs_grammar.specs.declared.template.Template.{Template}
use Rattle.plcs_grammar.specs.PlainPhrase.{PlainPhrase}
use Rattle.template_tree.specs.declared.side.Side.{Side}
use Rattle.template_tree.specs.Edits.EditAnswer.{Edits, IsHoleFor, IsListItem, IsSpareHole, TakesAssignment, TakesAtStop, TakesOut}
use Rattle.template_tree.specs.Edits.Elision.{with_toggled_at}
use Rattle.template_tree.specs.Edits.FreshNode.{assignment_node, fresh_node}
use Rattle.template_tree.specs.Positions.Path.{node_at}
use Rattle.template_tree.specs.Programs.PlainTree.{PlainNode, PlainTree, roomless_tree}
use Rattle.template_tree.specs.Edits.Receipt.{PlainReceipt}
use Rattle.template_tree.specs.Programs.Tree.{IsTree}
use Rattle.template_tree.specs.Edits.TreeEdit.{TreeEdit}
use Rattle.tree_steps.specs.EditStep.{CameByEdits, IsSameTree, IsEditStep}

-- ---- each edit is a step

-- a hole that was filled with a template is a step
abbrev pub FillIsEditStep : Type 0
FillIsEditStep =
    (before after : PlainTree) (receipt : PlainReceipt) (path : List ℕ) (template : Template) → IsTree before
    → Edits (TreeEdit.put (fresh_node (NodeKind.Filled template))) (node_at before.items path)
    (IsHoleFor (NodeKind.Filled template)) before after receipt
    → IsEditStep before after

-- a hole or an assignment that became an assignment is a step
abbrev pub FillAssignIsEditStep : Type 0
FillAssignIsEditStep =
    (before after : PlainTree) (receipt : PlainReceipt) (path : List ℕ) (phrase : PlainPhrase) → IsTree before
    → Edits (TreeEdit.put (assignment_node phrase)) (node_at before.items path)
    (TakesAssignment phrase) before after receipt
    → IsEditStep before after

-- a hole that became a node is a step
abbrev pub InsertIsEditStep : Type 0
InsertIsEditStep =
    (before after : PlainTree) (receipt : PlainReceipt) (path : List ℕ) (node : PlainNode) → IsTree before
    → Edits (TreeEdit.put node) (node_at before.items path) (IsHoleFor node.label.kind) before after receipt
    → IsEditStep before after

-- a part that was set is a step
abbrev pub SetPhraseIsEditStep : Type 0
SetPhraseIsEditStep =
    (before after : PlainTree) (receipt : PlainReceipt) (path : List ℕ) (part : ℕ) (place : Option PlainPhrase)
    → IsTree before
    → Edits (TreeEdit.set_part part place) (node_at before.items path) (TakesAtStop part place) before after receipt
    → IsEditStep before after

-- a node that was taken out is a step
abbrev pub TakeIsEditStep : Type 0
TakeIsEditStep =
    (before after : PlainTree) (receipt : PlainReceipt) (path : List ℕ) (node : PlainNode) → IsTree before
    → node_at before.items path ≡ Some node → TakesOut node before after receipt
    → IsEditStep before after

-- a hole that was added is a step
abbrev pub AddHoleIsEditStep : Type 0
AddHoleIsEditStep =
    (before after : PlainTree) (receipt : PlainReceipt) (path : List ℕ) (side : Side) → IsTree before
    → Edits (TreeEdit.add side) (node_at before.items path) (IsListItem before.items path) before after receipt
    → IsEditStep before after

-- a hole that was dropped is a step
abbrev pub DropHoleIsEditStep : Type 0
DropHoleIsEditStep =
    (before after : PlainTree) (receipt : PlainReceipt) (path : List ℕ) → IsTree before
    → Edits TreeEdit.drop (node_at before.items path) (IsSpareHole before.items path) before after receipt
    → IsEditStep before after

-- ---- what is no step

-- a turned comment leaves the same tree, and is no edit step
abbrev pub TogglesAreNoEdits : Type 0
TogglesAreNoEdits = (tree : PlainTree) (path : List ℕ) → IsSameTree tree (with_toggled_at path tree)

-- room is no edit step: trees that are the same without room are the same tree
abbrev pub RoomIsNoEdit : Type 0
RoomIsNoEdit = (one other : PlainTree) → roomless_tree one ≡ roomless_tree other → IsSameTree one other

-- ---- steps in turn

-- a tree that a step made of another came from it by edits: by that one
abbrev pub EditStepsAreWays : Type 0
EditStepsAreWays = (before after : PlainTree) → IsEditStep before after → CameByEdits before after

-- edits that follow edits make one way with them; the last tree is one
abbrev pub EditsFollow : Type 0
EditsFollow =
    (first second third : PlainTree) → IsTree third → CameByEdits first second → CameByEdits second third
    → CameByEdits first third
