-- A part that was set is an edit of the tree, whose receipt undoes it.
use Rattle.std.specs.Prelude.{◌≡◌, refl, ℕ, zero, suc, ◌<◌, ◌≤◌, List, [], ◌∷◌, Option, ◌+◌, Some, None, IfSome, slice_get, slice_set}
use Rattle.std.proofs.Common.{ap, sym, ◌∙◌, subst, arith}
use Rattle.std.proofs.lemmas.Option.{none-some}
use Rattle.plcs_base.specs.declared.place.Slot.{Slot}
use Rattle.plcs_grammar.specs.declared.node_kind.NodeKind.{NodeKind}
use Rattle.plcs_grammar.specs.PlainPhrase.{PlainPhrase}
use Rattle.plcs_grammar.specs.Template.{row_of}
use Rattle.template_tree.specs.declared.change.What.{What}
use Rattle.template_tree.specs.Programs.PlainTree.{Forest, PlainNode, PlainTree, roomless, roomless_tree}
use Rattle.template_tree.specs.Programs.Part.{IsPhrasePlace, Takes, part_category, with_part}
use Rattle.template_tree.specs.Programs.Program.{parts_of}
use Rattle.template_tree.specs.Positions.Stop.{part_stops}
use Rattle.template_tree.specs.Positions.Path.{node_at}
use Rattle.template_tree.specs.Programs.Slots.{times}
use Rattle.template_tree.specs.Programs.Tree.{IsTree}
use Rattle.template_tree.specs.Edits.Lend.{with_node}
use Rattle.template_tree.specs.Edits.Edit.{Part, DifferBy, Differs, edit_at, edit_slot, procedure_of}
use Rattle.template_tree.specs.Edits.TreeEdit.{TreeEdit}
use Rattle.template_tree.specs.Edits.Receipt.{PlainUndoing, PlainReceipt, undone}
use Rattle.template_tree.specs.Edits.EditAnswer.{IsEdit}
use Rattle.template_tree.specs.Edits.Reversal.{coming, comments}
use Rattle.template_tree.specs.Private.Exchange.{first_item}
use Rattle.template_tree.proofs.Edits.SameEdits.{edits_alike}
use Rattle.template_tree.proofs.Edits.SlotEdits.{slot_edit_is_path_edit}
use Rattle.template_tree.proofs.Parts.PartLists.{takes_there}
use Rattle.template_tree.proofs.Parts.KeptTrees.{part_keeps_tree}
use Rattle.template_tree.proofs.Room.RoomlessEdits.{roomless_edit}
use Rattle.template_tree.proofs.Room.RoomlessTrees.{tree_without_room}
use Rattle.template_tree.proofs.Edits.EditedNodes.{edit_twice, edit_same, node_there}
use Rattle.template_tree.proofs.Edits.Procedures.{procedure_after}
use Rattle.template_tree.proofs.Reversals.CommentCounts.{comments_few, comments_replaced}
use Rattle.template_tree.proofs.Reversals.RevertibleEdits.{edit_can_revert, stands_undone}

-- what is there
abbrev taken : {A : Type 0} → A → Option A → A
taken item None = item
taken item (Some there) = there

some_is : {A : Type 0} (item there : A) → Some item ≡ Some there → item ≡ there
some_is item there e = ap (taken item) e

-- what was there before comes back
pub set_back : {A : Type 0} (items : List A) (k : ℕ) (new old : A) → slice_get items k ≡ Some old → slice_set (slice_set items k new) k old ≡ items
set_back [] k new old e = absurd (none-some old e)
set_back (item ∷ items) zero new old e = ap (λ i. i ∷ items) (sym (some_is item old e))
set_back (item ∷ items) (suc k) new old e = ap (λ rest. item ∷ rest) (set_back items k new old e)

-- a tree in which a node comes back as it was is as it was
pub with_node_same : (tree : PlainTree) (path : List ℕ) (node : PlainNode) → node_at tree.items path ≡ Some node → with_node tree path node ≡ tree
with_node_same tree path node e =
    ap (λ (items : Forest). let t : PlainTree = record tree { items = items } in t) (edit_same node tree.items path e)

-- the tree with the node whose part was set is the tree with that part set in its slot
pub part_is : (tree : PlainTree) (path : List ℕ) (node : PlainNode) (part : ℕ) (place : Option PlainPhrase) → IsTree tree
    → node_at tree.items path ≡ Some node → Takes (part_category node.label.kind part) place → IsPhrasePlace place
    → with_node tree path (with_part part place node) ≡ Part tree node.label.slot part place
part_is tree path node part place t there takes place_is =
    let change : PlainNode → List PlainNode = λ n. with_part part place n ∷ [] in
    let items : edit_at (λ _. with_part part place node ∷ []) path tree.items ≡ edit_slot node.label.slot change tree.items =
    edits_alike (λ _. with_part part place node ∷ []) change tree.items path node there refl
    ∙ sym (slot_edit_is_path_edit change tree.items path node (t.once node.label.slot) there) in
    let live = (part_keeps_tree tree path node part place t there takes place_is).1 in
    λ i. record { items = items i; spare = tree.spare; drawn = tree.drawn; live = sym live i }

-- a part that takes something is a stop, where the node is no assignment
pub part_stop : (kind : NodeKind) (part : ℕ) (place : Option PlainPhrase) → (kind ≡ NodeKind.Assign → ⊥) → Takes (part_category kind part) place
    → part < part_stops kind
part_stop NodeKind.Assign part place another takes = absurd (another refl)
part_stop NodeKind.DeclarationHole part place another takes = takes_there (parts_of (row_of NodeKind.DeclarationHole).line) part place takes
part_stop NodeKind.StatementHole part place another takes = takes_there (parts_of (row_of NodeKind.StatementHole).line) part place takes
part_stop NodeKind.ProcedureHole part place another takes = takes_there (parts_of (row_of NodeKind.ProcedureHole).line) part place takes
part_stop NodeKind.Main part place another takes = takes_there (parts_of (row_of NodeKind.Main).line) part place takes
part_stop (NodeKind.Filled template) part place another takes = takes_there (parts_of (row_of (NodeKind.Filled template)).line) part place takes

-- the whole of it
pub part_edit : (tree : PlainTree) (path : List ℕ) (node : PlainNode) (part : ℕ) (place old : Option PlainPhrase) (after : PlainTree)
    (slot procedure : Slot) (receipt : PlainReceipt) → IsTree tree → node_at tree.items path ≡ Some node
    → Takes (part_category node.label.kind part) place → IsPhrasePlace place → slice_get node.label.parts part ≡ Some old
    → after ≡ with_node tree path (with_part part place node) → slot.0 ≡ node.label.slot
    → IfSome (first_item tree.items path) (λ item. procedure.0 ≡ item.label.slot)
    → receipt
    ≡ record {
      change = record { slot = slot; procedure = procedure; what = What.Part part };
      path = path;
      undoing = PlainUndoing.set_part part old;
      drawn = tree.drawn;
      live = tree.live;
    }
    → IsEdit (TreeEdit.set_part part place) node.label.slot tree after receipt None
part_edit tree path node part place old after slot procedure receipt t there takes place_is held is slot_is first receipt_is =
    let new : PlainNode = with_part part place node in
    let back : PlainNode → List PlainNode = λ n. with_part part old n ∷ [] in
    let become : after ≡ Part tree node.label.slot part place = is ∙ part_is tree path node part place t there takes place_is in
    let kept : IsTree (Part tree node.label.slot part place) = (part_keeps_tree tree path node part place t there takes place_is).0 in
    let by_path : after.items ≡ edit_at (λ _. new ∷ []) path tree.items = ap (λ (s : PlainTree). s.items) is in
    let once : times node.label.slot (edit_at (λ _. new ∷ []) path tree.items) ≤ 1 =
    subst (λ (s : PlainTree). times node.label.slot s.items ≤ 1) (sym become ∙ is) (kept.once node.label.slot) in
    let within : procedure_of after.items node.label.slot ≡ Some procedure.0 =
    ap (λ f. procedure_of f node.label.slot) by_path ∙ procedure_after tree.items path node new procedure.0 there refl once first in
    let restored : with_part part old new ≡ node =
    ap (λ parts. let n : PlainNode = record node { label = record node.label { parts = parts } } in n) (set_back node.label.parts part place old held) in
    let items : edit_at back path (roomless after.items) ≡ roomless tree.items =
    sym (roomless_edit back back (λ _. refl) path after.items)
    ∙ ap roomless
    (ap (edit_at back path) by_path
    ∙ (edit_twice back new tree.items path
    ∙ (ap (λ n. edit_at (λ _. n ∷ []) path tree.items) restored ∙ edit_same node tree.items path there)))
    in
    let own : PlainReceipt =
    record {
      change = record { slot = slot; procedure = procedure; what = What.Part part };
      path = path;
      undoing = PlainUndoing.set_part part old;
      drawn = tree.drawn;
      live = tree.live;
    } in
    let undoes : undone own None (roomless_tree after) ≡ roomless_tree tree =
    ap (λ (f : Forest). let s : PlainTree = record (roomless_tree tree) { items = f } in s) items
    in
    let differs : Differs tree after own.change =
    record {
      by = subst (λ s. DifferBy (What.Part part) s tree.items after.items) (sym slot_is) (place, ap (λ (s : PlainTree). roomless s.items) become);
      within = subst (λ s. procedure_of after.items s ≡ Some procedure.0) (sym slot_is) within;
    }
    in
    let kept_after : IsTree after = subst IsTree (sym become) kept in
    let stands : node_at after.items path ≡ Some new = ap (λ f. node_at f path) by_path ∙ node_there node new tree.items path there in
    let apart : (slot : ℕ) → comments slot after.items + comments slot (coming own.undoing None) ≤ 1 =
    λ slot.
    omega (
      arith,
      ap (comments slot) by_path,
      comments_replaced slot tree.items path node new there,
      comments_few slot tree.items,
      t.once slot,
    )
    in
    let drawn : tree.drawn ≤ after.drawn = omega (arith, ap (λ (s : PlainTree). s.drawn) is) in
    subst (λ r. IsEdit (TreeEdit.set_part part place) node.label.slot tree after r None) (sym receipt_is)
    record {
      became = ap roomless_tree become;
      tree = kept_after;
      what = refl;
      slot_is = slot_is;
      differs = differs;
      undoes = undoes;
      can_undo = record { room = tt; before = subst IsTree (sym undoes) (tree_without_room tree t) };
      can_revert =
          edit_can_revert tree after own None t kept_after undoes differs refl
          (stands_undone after.items path new slot.0 node.label.slot own.undoing None stands slot_is refl) apart drawn;
      drawn = drawn;
    }
