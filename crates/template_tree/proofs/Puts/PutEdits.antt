-- A node that came in place of another is an edit of the tree, whose receipt undoes it.
use Rattle.std.specs.Prelude.{◌≡◌, refl, ℕ, ◌+◌, ◌-◌, ◌≤◌, List, [], ◌∷◌, Option, Some, None, IfSome, IsSomeAnd}
use Rattle.std.proofs.Common.{ap, sym, ◌∙◌, subst, arith}
use Rattle.plcs_base.specs.declared.place.Slot.{Slot}
use Rattle.template_tree.specs.declared.change.Change.{Change}
use Rattle.template_tree.specs.declared.change.What.{What}
use Rattle.template_tree.specs.Programs.PlainTree.{Forest, PlainNode, PlainTree, forest, roomless, roomless_node, roomless_tree}
use Rattle.template_tree.specs.Positions.Path.{node_at}
use Rattle.template_tree.specs.Programs.Slots.{count, times}
use Rattle.template_tree.specs.Programs.Tree.{IsTree}
use Rattle.template_tree.specs.Edits.Lend.{with_node}
use Rattle.template_tree.specs.Edits.Edit.{Put, Differs, DifferBy, changed_in, edit_at, node_in_slot, procedure_of, whole}
use Rattle.template_tree.specs.Edits.TreeEdit.{TreeEdit}
use Rattle.template_tree.specs.Edits.Receipt.{PlainUndoing, PlainReceipt, HasRoomBack, items_before, undone}
use Rattle.template_tree.specs.Edits.EditAnswer.{Edits, IsEdit, slot_in}
use Rattle.template_tree.specs.Edits.Reversal.{IsUndoneIn, coming, comments, what_undone}
use Rattle.template_tree.specs.Private.Exchange.{MayReplace, IsChangeOf, first_item}
use Rattle.template_tree.proofs.Edits.SlotEdits.{slot_edit_is_path_edit}
use Rattle.template_tree.proofs.Puts.PutTrees.{put_keeps_tree}
use Rattle.template_tree.proofs.Trees.DrawnSlots.{count_numbered}
use Rattle.template_tree.proofs.Room.RoomlessEdits.{count_whole, roomless_edit, roomless_put}
use Rattle.template_tree.proofs.Room.RoomlessTrees.{tree_without_room}
use Rattle.template_tree.proofs.Edits.EditedNodes.{count_after, edit_back, node_there}
use Rattle.template_tree.proofs.Edits.Procedures.{procedure_after}
use Rattle.template_tree.proofs.Reversals.CommentCounts.{come_few, comments_replaced, comments_roomless}
use Rattle.template_tree.proofs.Reversals.RevertibleEdits.{edit_can_revert, stands_undone}

-- what is asked of the node that is there holds of it
pub of_there : (there : Option PlainNode) (Holds : PlainNode → Type 0) (node : PlainNode) → there ≡ Some node → IsSomeAnd there Holds → Holds node
of_there there Holds node e h = subst (λ o. IsSomeAnd o Holds) e h

-- the node that comes into the slot of another
abbrev pub come : PlainTree → PlainNode → PlainNode → PlainNode
come tree old new = node_in_slot old.label.slot tree.drawn new

-- by path it comes where it comes by slot
pub put_by_path : (tree : PlainTree) (path : List ℕ) (old new : PlainNode) → IsTree tree → node_at tree.items path ≡ Some old
    → (Put tree old.label.slot new).items ≡ edit_at (λ _. come tree old new ∷ []) path tree.items
put_by_path tree path old new t there =
    slot_edit_is_path_edit (λ _. come tree old new ∷ []) tree.items path old (t.once old.label.slot) there

-- as many slots are live as there were, but for those that went and those that came
pub live_after : (tree : PlainTree) (path : List ℕ) (old new : PlainNode) → IsTree tree → node_at tree.items path ≡ Some old
    → (Put tree old.label.slot new).live + count old.inner ≡ tree.live + count new.inner
live_after tree path old new t there =
    let inside : count (come tree old new).inner ≡ count new.inner = count_numbered tree.drawn _ ∙ count_whole new.inner in
    omega (
      arith,
      ap count (put_by_path tree path old new t there),
      count_after old (come tree old new) tree.items path there,
      inside,
      t.live,
    )

-- what is seen of a tree where a node came, and its counts were set
pub exchanged_is : (tree : PlainTree) (path : List ℕ) (old new came : PlainNode) (seen : PlainTree) (next live slots : ℕ)
    → IsTree tree → node_at tree.items path ≡ Some old → seen ≡ with_node tree path came → came ≡ come tree old new
    → next ≡ tree.drawn + count new.inner → slots ≡ count old.inner + 1 → live ≡ tree.live - slots + 1 + (next - tree.drawn)
    → slots ≤ tree.live
    → record { items = seen.items; spare = seen.spare; drawn = next; live = live } ≡ Put tree old.label.slot new
exchanged_is tree path old new came seen next live slots t there is came_is next_is slots_is live_is few =
    let items : seen.items ≡ (Put tree old.label.slot new).items =
    ap (λ (s : PlainTree). s.items) is
    ∙ (ap (λ n. edit_at (λ _. n ∷ []) path tree.items) came_is ∙ sym (put_by_path tree path old new t there)) in
    let spare : seen.spare ≡ tree.spare = ap (λ (s : PlainTree). s.spare) is in
    let lives : live ≡ (Put tree old.label.slot new).live =
    omega (arith, live_after tree path old new t there, next_is, slots_is, live_is, few)
    in
    λ i. record { items = items i; spare = spare i; drawn = next_is i; live = lives i }

-- a node that may come makes a tree of the tree
pub put_tree : (tree : PlainTree) (path : List ℕ) (old new : PlainNode) → IsTree tree → node_at tree.items path ≡ Some old
    → MayReplace tree new old → IsTree (Put tree old.label.slot new)
put_tree tree path old new t there may =
    (put_keeps_tree tree path old new t there may.subtree may.sort may.within.shallow may.within.few may.within.drawn_few).0

-- what is said of the change
pub put_change : (tree : PlainTree) (path : List ℕ) (old new : PlainNode) (after : PlainTree) (slot procedure : Slot) (change : Change)
    → IsTree tree → node_at tree.items path ≡ Some old → MayReplace tree new old → after ≡ Put tree old.label.slot new
    → slot.0 ≡ old.label.slot → IfSome (first_item tree.items path) (λ item. procedure.0 ≡ item.label.slot)
    → change ≡ record { slot = slot; procedure = procedure; what = What.Node }
    → IsChangeOf after old.label.slot What.Node change
put_change tree path old new after slot procedure change t there may is slot_is first change_is =
    let by_path : after.items ≡ edit_at (λ _. come tree old new ∷ []) path tree.items =
    ap (λ (s : PlainTree). s.items) is ∙ put_by_path tree path old new t there in
    let once : times old.label.slot (edit_at (λ _. come tree old new ∷ []) path tree.items) ≤ 1 =
    subst (λ f. times old.label.slot f ≤ 1) (put_by_path tree path old new t there) ((put_tree tree path old new t there may).once old.label.slot)
    in
    record {
      slot_is = ap (λ (c : Change). c.slot.0) change_is ∙ slot_is;
      what_is = ap (λ (c : Change). c.what) change_is;
      within =
          ap (λ f. procedure_of f old.label.slot) by_path
          ∙ (procedure_after tree.items path old (come tree old new) procedure.0 there refl once first
          ∙ sym (ap (λ (c : Change). Some c.procedure.0) change_is));
    }

-- how the trees differ
put_differs : (tree : PlainTree) (old new : PlainNode) (after : PlainTree) (change : Change) → after ≡ Put tree old.label.slot new
    → IsChangeOf after old.label.slot What.Node change → Differs tree after change
put_differs tree old new after change is changed =
    let by : DifferBy What.Node old.label.slot tree.items after.items =
    (come tree old new, refl, ap (λ (s : PlainTree). roomless s.items) is)
    in
    record {
      by = subst (λ w. DifferBy w change.slot.0 tree.items after.items) (sym changed.what_is)
          (subst (λ s. DifferBy What.Node s tree.items after.items) (sym changed.slot_is) by);
      within = subst (λ w. procedure_of (changed_in w tree.items after.items) change.slot.0 ≡ Some change.procedure.0) (sym changed.what_is)
          (subst (λ s. procedure_of after.items s ≡ Some change.procedure.0) (sym changed.slot_is) changed.within);
    }

-- the whole of it
pub put_edit : (tree : PlainTree) (path : List ℕ) (old new : PlainNode) (after : PlainTree) (change : Change) (undoing : PlainUndoing) (back : Option PlainNode)
    → IsTree tree → node_at tree.items path ≡ Some old → MayReplace tree new old → after ≡ Put tree old.label.slot new
    → IsChangeOf after old.label.slot What.Node change
    → items_before undoing back ≡ (λ _. roomless_node old ∷ []) → what_undone undoing ≡ What.Node
    → IsUndoneIn old.label.slot undoing back (roomless_node (come tree old new)) → coming undoing back ≡ forest (roomless_node old ∷ [])
    → ((room : ℕ) → HasRoomBack undoing room)
    → IsEdit (TreeEdit.put new) old.label.slot tree after
    record { change = change; path = path; undoing = undoing; drawn = tree.drawn; live = tree.live } back
put_edit tree path old new after change undoing back t there may is changed gives what at out room =
    let receipt : PlainReceipt = record { change = change; path = path; undoing = undoing; drawn = tree.drawn; live = tree.live } in
    let by_path : after.items ≡ edit_at (λ _. come tree old new ∷ []) path tree.items =
    ap (λ (s : PlainTree). s.items) is ∙ put_by_path tree path old new t there in
    let items : edit_at (items_before undoing back) path (roomless after.items) ≡ roomless tree.items =
    ap (λ f. edit_at f path (roomless after.items)) gives
    ∙ (sym (roomless_edit (λ _. old ∷ []) (λ _. roomless_node old ∷ []) (λ _. refl) path after.items)
    ∙ ap roomless (ap (edit_at (λ _. old ∷ []) path) by_path ∙ edit_back old (come tree old new) tree.items path there))
    in
    let undoes : undone receipt back (roomless_tree after) ≡ roomless_tree tree =
    ap (λ (f : Forest). let s : PlainTree = record (roomless_tree tree) { items = f } in s) items
    in
    let kept : IsTree after = subst IsTree (sym is) (put_tree tree path old new t there may) in
    let differs : Differs tree after change = put_differs tree old new after change is changed in
    let came : PlainNode = come tree old new in
    let stands : node_at after.items path ≡ Some came = ap (λ f. node_at f path) by_path ∙ node_there old came tree.items path there in
    let apart : (slot : ℕ) → comments slot after.items + comments slot (coming undoing back) ≤ 1 =
    λ slot.
    omega (
      arith,
      ap (comments slot) by_path,
      comments_replaced slot tree.items path old came there,
      come_few slot tree.drawn tree.items path old came (whole new.inner) there refl refl may.apart t.drawn (t.once slot),
      ap (comments slot) out,
      comments_roomless slot (forest (old ∷ [])),
    )
    in
    let drawn : tree.drawn ≤ after.drawn = omega (arith, ap (λ (s : PlainTree). s.drawn) is) in
    record {
      became = ap roomless_tree is;
      tree = kept;
      what = changed.what_is;
      slot_is = changed.slot_is;
      differs = differs;
      undoes = undoes;
      can_undo = record { room = room _; before = subst IsTree (sym undoes) (tree_without_room tree t) };
      can_revert =
          edit_can_revert tree after receipt back t kept undoes differs (changed.what_is ∙ sym what)
          (stands_undone after.items path came change.slot.0 old.label.slot undoing back stands changed.slot_is at) apart drawn;
      drawn = drawn;
    }

-- the same of a receipt as it is seen
pub put_receipt : (tree : PlainTree) (path : List ℕ) (old new : PlainNode) (after : PlainTree) (change : Change) (undoing : PlainUndoing) (back : Option PlainNode)
    (receipt : PlainReceipt) → IsTree tree → node_at tree.items path ≡ Some old → MayReplace tree new old → after ≡ Put tree old.label.slot new
    → IsChangeOf after old.label.slot What.Node change
    → items_before undoing back ≡ (λ _. roomless_node old ∷ []) → what_undone undoing ≡ What.Node
    → IsUndoneIn old.label.slot undoing back (roomless_node (come tree old new)) → coming undoing back ≡ forest (roomless_node old ∷ [])
    → ((room : ℕ) → HasRoomBack undoing room) → receipt ≡ record { change = change; path = path; undoing = undoing; drawn = tree.drawn; live = tree.live }
    → IsEdit (TreeEdit.put new) old.label.slot tree after receipt back
put_receipt tree path old new after change undoing back receipt t there may is changed gives what at out room receipt_is =
    subst (λ r. IsEdit (TreeEdit.put new) old.label.slot tree after r back) (sym receipt_is)
    (put_edit tree path old new after change undoing back t there may is changed gives what at out room)

-- what holds of the node that is there
pub at_there : (there : Option PlainNode) (Holds : PlainNode → Type 0) (node : PlainNode) → there ≡ Some node → Holds node → IsSomeAnd there Holds
at_there there Holds node e h = subst (λ o. IsSomeAnd o Holds) (sym e) h

-- a node is as good as one that is the same but for the room of its lists
pub edit_like : (one other : PlainNode) (slot : ℕ) (before after : PlainTree) (receipt : PlainReceipt) (back : Option PlainNode)
    → roomless_node one ≡ roomless_node other → IsEdit (TreeEdit.put one) slot before after receipt back
    → IsEdit (TreeEdit.put other) slot before after receipt back
edit_like one other slot before after receipt back same e =
    record {
      became = e.became ∙ roomless_put before slot one other same;
      tree = e.tree;
      what = e.what;
      slot_is = e.slot_is;
      differs = e.differs;
      undoes = e.undoes;
      can_undo = e.can_undo;
      can_revert = e.can_revert;
      drawn = e.drawn;
    }

-- an edit at the node that is there
pub edits_at : (edit : TreeEdit) (there : Option PlainNode) (Here : PlainNode → Type 0) (before after : PlainTree) (receipt : PlainReceipt) (node : PlainNode)
    → there ≡ Some node → Here node → IsEdit edit node.label.slot before after receipt None → Edits edit there Here before after receipt
edits_at edit there Here before after receipt node e h is =
    record { here = at_there there Here node e h; is_edit = subst (λ o. IsEdit edit (slot_in o) before after receipt None) (sym e) is }

-- an edit in the slot of the node that is there
pub edit_there : (edit : TreeEdit) (there : Option PlainNode) (before after : PlainTree) (receipt : PlainReceipt) (back : Option PlainNode) (node : PlainNode)
    → there ≡ Some node → IsEdit edit node.label.slot before after receipt back → IsEdit edit (slot_in there) before after receipt back
edit_there edit there before after receipt back node e is = subst (λ o. IsEdit edit (slot_in o) before after receipt back) (sym e) is
