-- What comes of an edit at a stop is a step: an edit at a node of the tree, of which its condition there gives the
-- sort. The edit and the node are those of the tree without room; with room the same edit at the node there makes the
-- same tree.
use Rattle.std.specs.Prelude.{◌≡◌, refl, ℕ, zero, Bool, true, false, ◌&&◌, if◌then◌else◌, is_none, List, Option, Some, None, option_map, Ok, Err}
use Rattle.std.proofs.Common.{ap, sym, ◌∙◌, subst}
use Rattle.std.proofs.Math.Bool.{false≢true}
use Rattle.std.proofs.lemmas.Bool.{and_parts}
use Rattle.std.proofs.lemmas.Option.{none-some}
use Rattle.plcs_grammar.specs.declared.node_kind.NodeKind.{NodeKind}
use Rattle.plcs_grammar.specs.declared.node_kind.Sort.{Sort}
use Rattle.plcs_grammar.specs.declared.template.Template.{Template}
use Rattle.plcs_grammar.specs.PlainPhrase.{PlainPhrase}
use Rattle.template_tree.specs.declared.side.Side.{Side}
use Rattle.template_tree.specs.declared.tree_fault.TreeFault.{TreeFault}
use Rattle.template_tree.specs.Edits.Hole.{hole_left, hole_of, is_hole, lone}
use Rattle.template_tree.specs.Edits.FreshNode.{fresh_node}
use Rattle.template_tree.specs.Positions.Path.{added_path, node_at}
use Rattle.template_tree.specs.Programs.PlainTree.{PlainNode, PlainTree, roomless, roomless_node, roomless_tree}
use Rattle.template_tree.specs.Programs.Program.{sort_of}
use Rattle.template_tree.specs.Laws.RoomLaws.{EditsIgnoreRoom, NodesIgnoreRoom}
use Rattle.template_tree.specs.Listings.Section.{same_sort}
use Rattle.template_tree.specs.Positions.Stop.{PlainStop, node_stop}
use Rattle.template_tree.specs.Programs.Tree.{IsTree}
use Rattle.template_tree.specs.Edits.TreeEdit.{TreeEdit, changed_slot, tree_after, what_of}
use Rattle.tree_steps.specs.EditStep.{BringsSort, IsEditStep, substance}
use Rattle.tree_steps.specs.EditStepLaws.{EditStepsAreWays, RoomIsNoEdit}
use Rattle.clip_store.specs.PlainFragment.{PlainFragment}
use Rattle.session_edit.specs.Edited.{Edited, at_node, comes, edited, limit_reached, not_here, outcome_at_node, outcome_of_deletion, outcome_of_fill, outcome_of_hole_beside, outcome_of_insertion, outcome_of_node_taking, outcome_of_phrase_entry, outcome_of_phrase_insertion, outcome_of_taking, phrase_entry, unless}
use Rattle.session_edit.specs.Here.{can_take, category_in, enclosing_item, is_spare_hole, is_typed, is_wanted, takes_nodes, takes_phrase}
use Rattle.session_edit.specs.PlainEdit.{PlainEdit}
use Rattle.session_edit.specs.StepLaw.{AnswersComeByEdits, EditsAtStopsAreSteps}

-- ---- sorts

sort_is : (one other : Sort) → same_sort one other ≡ true → one ≡ other
sort_is Sort.Main Sort.Main e = refl
sort_is Sort.Procedure Sort.Procedure e = refl
sort_is Sort.Declaration Sort.Declaration e = refl
sort_is Sort.Statement Sort.Statement e = refl
sort_is one other e = absurd (false≢true e)

-- what a hole at the cursor takes has its sort
taken_sort : (kind : NodeKind) (part : Option ℕ) (node : PlainNode) → takes_nodes kind part node ≡ true → sort_of kind ≡ sort_of node.label.kind
taken_sort kind part node e =
    let hole = and_parts (is_none part) (is_hole node.label.kind && same_sort (sort_of node.label.kind) (sort_of kind)) e in
    sym (sort_is (sort_of node.label.kind) (sort_of kind)
    (and_parts (is_hole node.label.kind) (same_sort (sort_of node.label.kind) (sort_of kind)) hole.1).1)

-- an assignment is typed at statements alone
typed_sort : (kind : NodeKind) → is_typed kind ≡ true → sort_of NodeKind.Assign ≡ sort_of kind
typed_sort NodeKind.StatementHole e = refl
typed_sort NodeKind.Assign e = refl
typed_sort other e = absurd (false≢true e)

wanted_sort : (phrase : PlainPhrase) (kind : NodeKind) → is_wanted phrase (category_in None kind) ≡ true → sort_of NodeKind.Assign ≡ sort_of kind
wanted_sort phrase kind = by (is_typed kind) refl
  where
    by : (b : Bool) → is_typed kind ≡ b → is_wanted phrase (category_in None kind) ≡ true → sort_of NodeKind.Assign ≡ sort_of kind
    by true typed e = typed_sort kind typed
    by false typed e = absurd (false≢true (rw typed at e))

abbrev kind_there : NodeKind → Option NodeKind → NodeKind
kind_there kind None = kind
kind_there kind (Some there) = there

hole_sort : (sort : Sort) (kind : NodeKind) → hole_of sort ≡ Some kind → sort_of kind ≡ sort
hole_sort Sort.Main kind e = absurd (none-some kind e)
hole_sort Sort.Procedure kind e = ap sort_of (sym (ap (kind_there kind) e))
hole_sort Sort.Declaration kind e = ap sort_of (sym (ap (kind_there kind) e))
hole_sort Sort.Statement kind e = ap sort_of (sym (ap (kind_there kind) e))

-- the hole that is left has the sort of what is taken out
left_sort : (b : Bool) (kind left : NodeKind) → (if b then None else hole_of (sort_of kind)) ≡ Some left → sort_of left ≡ sort_of kind
left_sort true kind left e = absurd (none-some left e)
left_sort false kind left e = hole_sort (sort_of kind) left e

-- ---- what comes of an edit

-- what comes of an edit of the tree is by an edit at one of its nodes
abbrev IsOfNode : PlainTree → Edited → Type 0
IsOfNode tree (Edited.became after stop taken what slot) =
    (edit : TreeEdit) × (path : List ℕ) × (node : PlainNode) × (node_at tree.items path ≡ Some node) × BringsSort edit node
    × (after ≡ roomless_tree (tree_after edit tree node.label.slot))
IsOfNode tree (Edited.refused fault) = Unit {0}

module _ (tree : PlainTree) where
  of_limit : (limit : Option TreeFault) (outcome : Edited) → IsOfNode tree outcome → IsOfNode tree (unless limit outcome)
  of_limit None outcome is = is
  of_limit (Some fault) outcome is = tt

  of_if : (b : Bool) (outcome : Edited) → (b ≡ true → IsOfNode tree outcome) → IsOfNode tree (if b then outcome else not_here)
  of_if true outcome is = is refl
  of_if false outcome is = tt

  of_either : (b : Bool) (one other : Edited) → IsOfNode tree one → IsOfNode tree other → IsOfNode tree (if b then one else other)
  of_either true one other is else_is = is
  of_either false one other is else_is = else_is

  of_comes : (edit : TreeEdit) (path : List ℕ) (node : PlainNode) (stop : PlainStop) (taken : Option PlainNode)
      → node_at tree.items path ≡ Some node → BringsSort edit node → IsOfNode tree (comes edit tree node.label.slot stop taken)
  of_comes edit path node stop taken at sort =
      let after : PlainTree = roomless_tree (tree_after edit tree node.label.slot) in
      let outcome : Edited = Edited.became after stop taken (what_of edit) (changed_slot edit tree node.label.slot) in
      let is : IsOfNode tree outcome = (edit, path, node, at, sort, refl) in
      of_limit (limit_reached after) outcome is

  of_found : (outcome : PlainNode → Edited) (found : Option PlainNode)
      → ((node : PlainNode) → found ≡ Some node → IsOfNode tree (outcome node)) → IsOfNode tree (at_node outcome found)
  of_found outcome None is = tt
  of_found outcome (Some node) is = is node refl

  of_beside : (side : Side) (item : Option (List ℕ)) → IsOfNode tree (outcome_of_hole_beside tree side item)
  of_beside side None = tt
  of_beside side (Some path) =
      of_found (λ node. comes (TreeEdit.add side) tree node.label.slot (node_stop (added_path side path)) None) (node_at tree.items path)
      (λ node at. of_comes (TreeEdit.add side) path node (node_stop (added_path side path)) None at tt)

  module _ (stop : PlainStop) (node : PlainNode) (at : node_at tree.items stop.path ≡ Some node) where
    of_fill : (template : Template) → IsOfNode tree (outcome_of_fill tree stop template node)
    of_fill template =
        of_if (takes_nodes (NodeKind.Filled template) stop.part node) _
        (λ e. of_comes (TreeEdit.put (fresh_node (NodeKind.Filled template))) stop.path node _ None at (taken_sort (NodeKind.Filled template) stop.part node e))

    entry_sort : (phrase : PlainPhrase) (part : Option ℕ) → is_wanted phrase (category_in part node.label.kind) ≡ true
        → BringsSort (phrase_entry part phrase) node
    entry_sort phrase None e = wanted_sort phrase node.label.kind e
    entry_sort phrase (Some part) e = tt

    of_entry : (phrase : PlainPhrase) → IsOfNode tree (outcome_of_phrase_entry tree stop phrase node)
    of_entry phrase =
        of_if (is_wanted phrase (category_in stop.part node.label.kind)) _
        (λ e. of_comes (phrase_entry stop.part phrase) stop.path node _ None at (entry_sort phrase stop.part e))

    of_phrase : (phrase : PlainPhrase) (part : Option ℕ) → IsOfNode tree (outcome_of_phrase_insertion tree stop phrase part node)
    of_phrase phrase None = tt
    of_phrase phrase (Some part) =
        of_if (takes_phrase phrase part node) _ (λ e. of_comes (TreeEdit.set_part part (Some phrase)) stop.path node stop None at tt)

    of_insertion : (fragment : PlainFragment) → IsOfNode tree (outcome_of_insertion tree stop fragment node)
    of_insertion (PlainFragment.node new) =
        of_if (takes_nodes new.label.kind stop.part node) _
        (λ e. of_comes (TreeEdit.put new) stop.path node stop None at (taken_sort new.label.kind stop.part node e))
    of_insertion (PlainFragment.phrase phrase) = of_phrase phrase stop.part

    of_node : (hole : Option NodeKind) → ((left : NodeKind) → hole ≡ Some left → sort_of left ≡ sort_of node.label.kind)
        → IsOfNode tree (outcome_of_node_taking tree stop hole node)
    of_node None sorts = tt
    of_node (Some left) sorts = of_comes (TreeEdit.put (lone 0 left)) stop.path node stop (Some node) at (sorts left refl)

    of_taking : (part : Option ℕ) → IsOfNode tree (outcome_of_taking tree stop part node)
    of_taking None = of_node (hole_left node.label.kind) (left_sort (is_hole node.label.kind) node.label.kind)
    of_taking (Some part) = of_if (can_take (Some part) node) _ (λ e. of_comes (TreeEdit.set_part part None) stop.path node stop None at tt)

    of_deletion : IsOfNode tree (outcome_of_deletion tree stop node)
    of_deletion =
        of_either (is_spare_hole tree.items stop node) _ _ (of_comes TreeEdit.drop stop.path node _ None at tt) (of_taking stop.part)

    of_edit : (edit : PlainEdit) → IsOfNode tree (outcome_at_node tree stop edit node)
    of_edit (PlainEdit.fill template) = of_fill template
    of_edit (PlainEdit.enter phrase) = of_entry phrase
    of_edit (PlainEdit.insert fragment) = of_insertion fragment
    of_edit PlainEdit.delete = of_deletion
    of_edit PlainEdit.take = of_taking stop.part
    of_edit (PlainEdit.beside side) = of_beside side (enclosing_item tree.items stop.path)

  of_edited : (stop : PlainStop) (edit : PlainEdit) → IsOfNode tree (edited tree stop edit)
  unfolding edited
  of_edited stop edit =
      of_found (outcome_at_node tree stop edit) (node_at tree.items stop.path) (λ node at. of_edit stop node at edit)

-- ---- the same with room

sort_with_room : (edit : TreeEdit) (node : PlainNode) → BringsSort edit (roomless_node node) → BringsSort edit node
sort_with_room (TreeEdit.put new) node sort = sort
sort_with_room (TreeEdit.add side) node sort = tt
sort_with_room TreeEdit.drop node sort = tt
sort_with_room (TreeEdit.set_part part place) node sort = tt

abbrev or_node : PlainNode → Option PlainNode → PlainNode
or_node node None = node
or_node node (Some there) = there

-- the node with room that is this one without it
with_room : (found : Option PlainNode) (node : PlainNode) → option_map roomless_node found ≡ Some node
    → (there : PlainNode) × (found ≡ Some there) × (node ≡ roomless_node there)
with_room None node e = absurd (none-some node e)
with_room (Some there) node e = (there, refl, sym (ap (or_node node) e))

module _ (nodes : NodesIgnoreRoom) (edits : EditsIgnoreRoom) (room : RoomIsNoEdit) where
  step_with_room : (before after : PlainTree) → IsTree before → IsTree after
      → (edit : TreeEdit) (path : List ℕ) (node : PlainNode) → node_at (roomless before.items) path ≡ Some node → BringsSort edit node
      → roomless_tree after ≡ roomless_tree (tree_after edit (roomless_tree before) node.label.slot) → IsEditStep before after
  step_with_room before after is after_is edit path node at sort became =
      let found = with_room (node_at before.items path) node (sym (nodes before.items path) ∙ at) in
      let there = found.0 in
      let same : roomless_tree after ≡ roomless_tree (tree_after edit before there.label.slot) =
      became
      ∙ (ap (λ (n : PlainNode). roomless_tree (tree_after edit (roomless_tree before) n.label.slot)) found.2
      ∙ sym (edits edit edit before there.label.slot refl).tree) in
      record {
        edit = edit;
        path = path;
        node = there;
        there = found.1;
        sort = sort_with_room edit there (subst (BringsSort edit) found.2 sort);
        tree_before = is;
        tree = after_is;
        became = room after (tree_after edit before there.label.slot) same;
      }

  pub edit_steps : EditsAtStopsAreSteps
  edit_steps before after stop edit applied is made =
      let of = subst (IsOfNode (roomless_tree before)) made.became (of_edited (roomless_tree before) stop edit) in
      step_with_room before after is made.tree of.0 of.1 of.2 of.3 of.4 of.5

  pub answer_comes : EditStepsAreWays → AnswersComeByEdits
  answer_comes ways before after stop edit takes_memory (Ok applied) is answer = ways before after (edit_steps before after stop edit applied is answer)
  answer_comes ways before after stop edit takes_memory (Err fault) is answer =
      (zero, record { items = ap (λ (tree : PlainTree). substance tree.items) (sym answer.1); drawn = ap (λ (tree : PlainTree). tree.drawn) (sym answer.1) })
