-- Each edit of a tree is a step, and steps in turn are one way.
-- What a call answers names the node at its path, its edit and the tree after it without room; its condition there
-- gives the sort.
use Rattle.std.specs.Prelude.{◌≡◌, refl, ℕ, zero, suc, List, Option, Some, None, Bool, true, false, if◌then◌else◌, is_some, unwrap_or}
use Rattle.std.proofs.Common.{ap, sym, ◌∙◌, inl, inr}
use Rattle.std.proofs.lemmas.Option.{none-some}
use Rattle.plcs_grammar.specs.declared.node_kind.NodeKind.{NodeKind}
use Rattle.plcs_grammar.specs.declared.node_kind.Sort.{Sort}
use Rattle.plcs_grammar.specs.PlainPhrase.{PlainPhrase}
use Rattle.template_tree.specs.Edits.Hole.{hole_left, hole_of, is_hole}
use Rattle.template_tree.specs.Edits.EditAnswer.{Edits, IsHoleFor, IsListItem, IsSpareHole, TakesAssignment, TakesAtStop, hole_in_place}
use Rattle.template_tree.specs.Edits.FreshNode.{assignment_node, fresh_node}
use Rattle.template_tree.specs.Positions.Path.{node_at}
use Rattle.template_tree.specs.Programs.PlainTree.{PlainNode, PlainTree}
use Rattle.template_tree.specs.Programs.Program.{sort_of}
use Rattle.template_tree.specs.Edits.Receipt.{PlainReceipt}
use Rattle.template_tree.specs.Programs.Tree.{IsTree}
use Rattle.template_tree.specs.Edits.TreeEdit.{TreeEdit, tree_after}
use Rattle.tree_steps.specs.EditStep.{BringsSort, CameByEdits, CameIn, IsSameTree, IsEditStep}
use Rattle.tree_steps.specs.EditStepLaws.{AddHoleIsEditStep, DropHoleIsEditStep, EditsFollow, FillAssignIsEditStep, FillIsEditStep, InsertIsEditStep, RoomIsNoEdit, SetPhraseIsEditStep, EditStepsAreWays, TakeIsEditStep, TogglesAreNoEdits}
use Rattle.tree_steps.proofs.Substances.{roomless_same, substance_turned}

-- ---- the same tree

pub turns_are_no_edits : TogglesAreNoEdits
turns_are_no_edits tree path = record { items = sym (substance_turned path tree.items); drawn = refl }

pub room_is_no_edit : RoomIsNoEdit
room_is_no_edit one other same =
    record {
      items = roomless_same one.items other.items (ap (λ (tree : PlainTree). tree.items) same);
      drawn = ap (λ (tree : PlainTree). tree.drawn) same;
    }

-- ---- each call

-- the edit at the node that is there, whose sort its condition gives
edit_is_step : (edit : TreeEdit) (Here : PlainNode → Type 0) → ((node : PlainNode) → Here node → BringsSort edit node)
    → (there : Option PlainNode) (path : List ℕ) (before after : PlainTree) (receipt : PlainReceipt) → IsTree before
    → node_at before.items path ≡ there → Edits edit there Here before after receipt → IsEditStep before after
edit_is_step edit Here sorts None path before after receipt is e edits = absurd edits.here
edit_is_step edit Here sorts (Some node) path before after receipt is e edits =
    record {
      edit = edit;
      path = path;
      node = node;
      there = e;
      sort = sorts node edits.here;
      tree_before = is;
      tree = edits.is_edit.tree;
      became = room_is_no_edit after (tree_after edit before node.label.slot) edits.is_edit.became;
    }

-- what holds of the three holes holds of each
abbrev kind_there : NodeKind → Option NodeKind → NodeKind
kind_there kind None = kind
kind_there kind (Some there) = there

-- the hole of a sort has the sort
hole_sort : (sort : Sort) (kind : NodeKind) → hole_of sort ≡ Some kind → sort_of kind ≡ sort
hole_sort Sort.Main kind e = absurd (none-some kind e)
hole_sort Sort.Procedure kind e = ap sort_of (sym (ap (kind_there kind) e))
hole_sort Sort.Declaration kind e = ap sort_of (sym (ap (kind_there kind) e))
hole_sort Sort.Statement kind e = ap sort_of (sym (ap (kind_there kind) e))

-- a hole for a kind has its sort
for_kind : (kind : NodeKind) (node : PlainNode) → IsHoleFor kind node → sort_of kind ≡ sort_of node.label.kind
for_kind kind node e = sym (hole_sort (sort_of kind) node.label.kind e)

pub fill_is_step : FillIsEditStep
fill_is_step before after receipt path template is edits =
    edit_is_step (TreeEdit.put (fresh_node (NodeKind.Filled template))) (IsHoleFor (NodeKind.Filled template)) (for_kind (NodeKind.Filled template)) (node_at before.items path) path before after
    receipt is refl edits

-- what takes an assignment is a statement
for_assignment : (phrase : PlainPhrase) (node : PlainNode) → TakesAssignment phrase node → sort_of NodeKind.Assign ≡ sort_of node.label.kind
for_assignment phrase node (inl hole, category) = ap sort_of (sym hole)
for_assignment phrase node (inr assignment, category) = ap sort_of (sym assignment)

pub fill_assign_is_step : FillAssignIsEditStep
fill_assign_is_step before after receipt path phrase is edits =
    edit_is_step (TreeEdit.put (assignment_node phrase)) (TakesAssignment phrase) (for_assignment phrase) (node_at before.items path) path before after receipt is refl edits

pub insert_is_step : InsertIsEditStep
insert_is_step before after receipt path node is edits =
    edit_is_step (TreeEdit.put node) (IsHoleFor node.label.kind) (for_kind node.label.kind) (node_at before.items path) path before after receipt is refl edits

pub set_phrase_is_step : SetPhraseIsEditStep
set_phrase_is_step before after receipt path part place is edits =
    edit_is_step (TreeEdit.set_part part place) (TakesAtStop part place) (λ node here. tt) (node_at before.items path) path before after receipt is refl edits

pub add_hole_is_step : AddHoleIsEditStep
add_hole_is_step before after receipt path side is edits =
    edit_is_step (TreeEdit.add side) (IsListItem before.items path) (λ node here. tt) (node_at before.items path) path before after receipt is refl edits

pub drop_hole_is_step : DropHoleIsEditStep
drop_hole_is_step before after receipt path is edits =
    edit_is_step TreeEdit.drop (IsSpareHole before.items path) (λ node here. tt) (node_at before.items path) path before after receipt is refl edits

-- the hole that is left has the sort
left_sort : (hole : Option NodeKind) (kind : NodeKind) → is_some hole ≡ true
    → ((left : NodeKind) → hole ≡ Some left → sort_of left ≡ sort_of kind) → sort_of (unwrap_or hole kind) ≡ sort_of kind
left_sort None kind some sorts = refl
left_sort (Some left) kind some sorts = sorts left refl

-- a hole in place of a kind has its sort
in_place : (b : Bool) (kind left : NodeKind) → (if b then None else hole_of (sort_of kind)) ≡ Some left → sort_of left ≡ sort_of kind
in_place true kind left e = absurd (none-some left e)
in_place false kind left e = hole_sort (sort_of kind) left e

pub take_is_step : TakeIsEditStep
take_is_step before after receipt path node is there takes =
    record {
      edit = TreeEdit.put (hole_in_place node.label.kind);
      path = path;
      node = node;
      there = there;
      sort = left_sort (hole_left node.label.kind) node.label.kind takes.may_take (in_place (is_hole node.label.kind) node.label.kind);
      tree_before = is;
      tree = takes.is_edit.tree;
      became = room_is_no_edit after (tree_after (TreeEdit.put (hole_in_place node.label.kind)) before node.label.slot) takes.is_edit.became;
    }

-- ---- steps in turn

-- the same tree as one that is the same as a third
same_follow : (one two three : PlainTree) → IsSameTree one two → IsSameTree two three → IsSameTree one three
same_follow one two three a b = record { items = a.items ∙ b.items; drawn = a.drawn ∙ b.drawn }

same_back : (one two : PlainTree) → IsSameTree one two → IsSameTree two one
same_back one two a = record { items = sym a.items; drawn = sym a.drawn }

-- the last tree may be another one that is the same
same_after : (n : ℕ) (first second third : PlainTree) → IsTree third → CameIn n first second → IsSameTree second third → CameIn n first third
same_after zero first second third is came same = same_follow first second third came same
same_after (suc n) first second third is (between, came, step) same = (
  between,
  came,
  record {
    edit = step.edit;
    path = step.path;
    node = step.node;
    there = step.there;
    sort = step.sort;
    tree_before = step.tree_before;
    tree = is;
    became = same_follow third second (tree_after step.edit between step.node.label.slot) (same_back second third same) step.became;
  },
)

follow : (n : ℕ) (first second third : PlainTree) → IsTree third → CameByEdits first second → CameIn n second third → CameByEdits first third
follow zero first second third is came same = (came.0, same_after came.0 first second third is came.1 same)
follow (suc n) first second third is came (between, more, step) =
    let to_between = follow n first second between step.tree_before came more in
    (suc to_between.0, (between, to_between.1, step))

pub edits_follow : EditsFollow
edits_follow first second third is one two = follow two.0 first second third is one two.1

pub steps_are_ways : EditStepsAreWays
steps_are_ways before after step = (1, (before, record { items = refl; drawn = refl }, step))
