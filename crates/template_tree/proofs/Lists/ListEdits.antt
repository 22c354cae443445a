-- A hole that came beside an item, or left its list, is an edit of the tree, whose receipt undoes it.
use Rattle.std.specs.Prelude.{◌≡◌, refl, ℕ, zero, suc, pred, ◌+◌, ◌-◌, ◌<◌, ◌≤◌, true, List, [], ◌∷◌, length, Option, Some, None, IfSome, IsSome, option_map, slice_get}
use Rattle.std.specs.Option.{option_map_or}
use Rattle.std.proofs.Common.{ap, sym, ◌∙◌, subst, arith}
use Rattle.std.proofs.Math.Bool.{false≢true}
use Rattle.std.proofs.lemmas.Bool.{eq-eqb}
use Rattle.std.proofs.lemmas.Option.{none-some}
use Rattle.plcs_grammar.specs.declared.node_kind.NodeKind.{NodeKind}
use Rattle.template_tree.specs.declared.side.Side.{Side}
use Rattle.template_tree.specs.declared.tree_fault.TreeFault.{TreeFault}
use Rattle.template_tree.specs.declared.change.Change.{Change}
use Rattle.template_tree.specs.declared.change.What.{What}
use Rattle.template_tree.specs.Programs.PlainTree.{Forest, PlainNode, PlainTree, forest, nodes, roomless, roomless_node, roomless_tree}
use Rattle.template_tree.specs.Programs.Program.{sorts, sort_of}
use Rattle.template_tree.specs.Positions.Path.{added_path, last_child_number, node_at, with_last}
use Rattle.template_tree.specs.Programs.Slots.{count, depth, times}
use Rattle.template_tree.specs.Programs.Limit.{most_slots, most_drawn_slots}
use Rattle.template_tree.specs.Programs.Tree.{IsTree}
use Rattle.template_tree.specs.Edits.Edit.{Add, Drop, Differs, DifferBy, changed_in, edit_at, edit_below, edit_slot, give_way, procedure_of}
use Rattle.template_tree.specs.Edits.Hole.{hole_of, lone}
use Rattle.template_tree.specs.Edits.TreeEdit.{TreeEdit}
use Rattle.template_tree.specs.Edits.Receipt.{PlainUndoing, PlainReceipt, list_room, undone, with_beside}
use Rattle.template_tree.specs.Edits.EditAnswer.{IsEdit, IsListItem, IsOverTreeLimit, IsSpareHole, IsWithin}
use Rattle.template_tree.specs.Edits.Reversal.{IsUndoneIn, coming, comments}
use Rattle.template_tree.specs.Edits.ListItem.{siblings_at}
use Rattle.template_tree.specs.Private.Exchange.{MeetsLimit, first_item}
use Rattle.template_tree.specs.Private.Restored.{side_of}
use Rattle.template_tree.proofs.Edits.SameEdits.{taken}
use Rattle.template_tree.proofs.Edits.SlotEdits.{present, slot_edit_is_path_edit}
use Rattle.template_tree.proofs.Trees.Counts.{sorts_length}
use Rattle.template_tree.proofs.Room.Rooms.{count_roomless, times_roomless}
use Rattle.template_tree.proofs.Room.RoomlessEdits.{roomless_edit, roomless_edit_slot}
use Rattle.template_tree.proofs.Room.RoomlessTrees.{tree_with_room, tree_without_room}
use Rattle.template_tree.proofs.Edits.Procedures.{on_the_way, procedure_there}
use Rattle.template_tree.proofs.Puts.PutTrees.{none_above}
use Rattle.template_tree.proofs.Lists.FilledLists.{many_few}
use Rattle.template_tree.proofs.Lists.ListChanges.{beside_same}
use Rattle.template_tree.proofs.Lists.ListTrees.{add_by_path, add_keeps_tree, drop_by_path, drop_keeps_tree, grown, one_if, shrunk, sibling_there}
use Rattle.template_tree.proofs.Puts.Holes.{hole_no_comment}
use Rattle.template_tree.proofs.Reversals.CommentCounts.{comments_beside, comments_few, comments_left, comments_roomless, lone_none}
use Rattle.template_tree.proofs.Reversals.RevertibleEdits.{edit_can_revert, some_and, some_place, stands_undone}

-- a hole that came before a node is where the node was
there_before : (hole : PlainNode) (items : Forest) (path : List ℕ) (node : PlainNode) → node_at items path ≡ Some node
    → node_at (edit_at (with_beside Side.Before hole) path items) path ≡ Some hole
there_before hole items [] node e = absurd (none-some node e)
there_before hole Forest.nil (k ∷ path) node e = absurd (none-some node e)
there_before hole (Forest.cons label inner rest) (zero ∷ []) node e = refl
there_before hole (Forest.cons label inner rest) (zero ∷ (j ∷ path)) node e = there_before hole inner (j ∷ path) node e
there_before hole (Forest.cons label inner rest) (suc k ∷ path) node e = there_before hole rest (k ∷ path) node e

-- one that came behind it is next to it
there_after : (hole : PlainNode) (items : Forest) (path : List ℕ) (node : PlainNode) → node_at items path ≡ Some node
    → node_at (edit_at (with_beside Side.After hole) path items) (with_last suc path) ≡ Some hole
there_after hole items [] node e = absurd (none-some node e)
there_after hole Forest.nil (k ∷ path) node e = absurd (none-some node e)
there_after hole (Forest.cons label inner rest) (zero ∷ []) node e = refl
there_after hole (Forest.cons label inner rest) (zero ∷ (j ∷ [])) node e = there_after hole inner (j ∷ []) node e
there_after hole (Forest.cons label inner rest) (zero ∷ (j ∷ (l ∷ path))) node e = there_after hole inner (j ∷ (l ∷ path)) node e
there_after hole (Forest.cons label inner rest) (suc k ∷ []) node e = there_after hole rest (k ∷ []) node e
there_after hole (Forest.cons label inner rest) (suc k ∷ (j ∷ path)) node e = there_after hole rest (k ∷ (j ∷ path)) node e

pub hole_there : (side : Side) (hole : PlainNode) (items : Forest) (path : List ℕ) (node : PlainNode) → node_at items path ≡ Some node
    → node_at (edit_at (with_beside side hole) path items) (added_path side path) ≡ Some hole
hole_there Side.Before hole items path node e = there_before hole items path node e
hole_there Side.After hole items path node e = there_after hole items path node e

-- taken out again, it leaves the nodes as they were
again_before : (hole : PlainNode) (items : Forest) (path : List ℕ) (node : PlainNode) → node_at items path ≡ Some node
    → edit_at (λ _. []) path (edit_at (with_beside Side.Before hole) path items) ≡ items
again_before hole items [] node e = absurd (none-some node e)
again_before hole Forest.nil (k ∷ path) node e = absurd (none-some node e)
again_before hole (Forest.cons label inner rest) (zero ∷ []) node e = refl
again_before hole (Forest.cons label inner rest) (zero ∷ (j ∷ path)) node e =
    ap (λ inside. Forest.cons label inside rest) (again_before hole inner (j ∷ path) node e)
again_before hole (Forest.cons label inner rest) (suc k ∷ path) node e = ap (Forest.cons label inner) (again_before hole rest (k ∷ path) node e)

again_after : (hole : PlainNode) (items : Forest) (path : List ℕ) (node : PlainNode) → node_at items path ≡ Some node
    → edit_at (λ _. []) (with_last suc path) (edit_at (with_beside Side.After hole) path items) ≡ items
again_after hole items [] node e = absurd (none-some node e)
again_after hole Forest.nil (k ∷ path) node e = absurd (none-some node e)
again_after hole (Forest.cons label inner rest) (zero ∷ []) node e = refl
again_after hole (Forest.cons label inner rest) (zero ∷ (j ∷ [])) node e =
    ap (λ inside. Forest.cons label inside rest) (again_after hole inner (j ∷ []) node e)
again_after hole (Forest.cons label inner rest) (zero ∷ (j ∷ (l ∷ path))) node e =
    ap (λ inside. Forest.cons label inside rest) (again_after hole inner (j ∷ (l ∷ path)) node e)
again_after hole (Forest.cons label inner rest) (suc k ∷ []) node e = ap (Forest.cons label inner) (again_after hole rest (k ∷ []) node e)
again_after hole (Forest.cons label inner rest) (suc k ∷ (j ∷ path)) node e =
    ap (Forest.cons label inner) (again_after hole rest (k ∷ (j ∷ path)) node e)

pub taken_again : (side : Side) (hole : PlainNode) (items : Forest) (path : List ℕ) (node : PlainNode) → node_at items path ≡ Some node
    → edit_at (λ _. []) (added_path side path) (edit_at (with_beside side hole) path items) ≡ items
taken_again Side.Before hole items path node e = again_before hole items path node e
taken_again Side.After hole items path node e = again_after hole items path node e

-- a node put back behind the one before it
behind : (hole : PlainNode) (items : Forest) (k : ℕ) → slice_get (nodes items) (suc k) ≡ Some hole
    → give_way (edit_below (with_beside Side.After hole) []) k (give_way (edit_below (λ _. []) []) (suc k) items) ≡ items
behind hole Forest.nil k e = absurd (none-some hole e)
behind hole (Forest.cons label inner Forest.nil) zero e = absurd (none-some hole e)
behind hole (Forest.cons label inner (Forest.cons l i rest)) zero e =
    let same : record { label = l; inner = i } ≡ hole = ap (taken hole) e in
    ap (λ (n : PlainNode). Forest.cons label inner (Forest.cons n.label n.inner rest)) (sym same)
behind hole (Forest.cons label inner rest) (suc k) e = ap (Forest.cons label inner) (behind hole rest k e)

-- and the first before the next one
put_first : (hole : PlainNode) (items : Forest) (k : ℕ) → slice_get (nodes items) k ≡ Some hole → 2 ≤ length (nodes items)
    → give_way (edit_below (with_beside (side_of k) hole) []) (pred k) (give_way (edit_below (λ _. []) []) k items) ≡ items
put_first hole Forest.nil zero e two = absurd (none-some hole e)
put_first hole (Forest.cons label inner Forest.nil) zero e two = absurd (omega (arith, two))
put_first hole (Forest.cons label inner (Forest.cons l i rest)) zero e two =
    let same : record { label = label; inner = inner } ≡ hole = ap (taken hole) e in
    ap (λ (n : PlainNode). Forest.cons n.label n.inner (Forest.cons l i rest)) (sym same)
put_first hole items (suc k) e two = behind hole items k e

-- so a node that left is put back
pub put_again : (hole : PlainNode) (items : Forest) (path : List ℕ) → node_at items path ≡ Some hole → 2 ≤ length (nodes (siblings_at items path))
    → edit_at (with_beside (side_of (last_child_number path)) hole) (with_last pred path) (edit_at (λ _. []) path items) ≡ items
put_again hole items [] e two = absurd (none-some hole e)
put_again hole items (k ∷ []) e two = put_first hole items k (sibling_there items (k ∷ []) hole e) two
put_again hole Forest.nil (k ∷ (j ∷ path)) e two = absurd (none-some hole e)
put_again hole (Forest.cons label inner rest) (zero ∷ (j ∷ [])) e two =
    ap (λ inside. Forest.cons label inside rest) (put_again hole inner (j ∷ []) e two)
put_again hole (Forest.cons label inner rest) (zero ∷ (j ∷ (l ∷ path))) e two =
    ap (λ inside. Forest.cons label inside rest) (put_again hole inner (j ∷ (l ∷ path)) e two)
put_again hole (Forest.cons label inner rest) (suc k ∷ (j ∷ path)) e two =
    ap (Forest.cons label inner) (put_again hole rest (k ∷ (j ∷ path)) e two)

-- the room of a list is that at each of its items
same_choice : (o : Option PlainNode) (one other : PlainNode → ℕ) → ((node : PlainNode) → one node ≡ other node)
    → option_map_or one o 0 ≡ option_map_or other o 0
same_choice None one other law = refl
same_choice (Some node) one other law = law node

pub room_beside : (other : ℕ → ℕ) (spare : ℕ) (items : Forest) (path : List ℕ) → list_room spare items (with_last other path) ≡ list_room spare items path
room_beside other spare items [] = refl
room_beside other spare items (k ∷ []) = refl
room_beside other spare items (k ∷ (j ∷ [])) = refl
room_beside other spare items (k ∷ (j ∷ (l ∷ path))) =
    same_choice (slice_get (nodes items) k) (λ node. list_room node.label.spare node.inner (j ∷ with_last other (l ∷ path)))
    (λ node. list_room node.label.spare node.inner (j ∷ (l ∷ path)))
    (λ node. room_beside other node.label.spare node.inner (j ∷ (l ∷ path)))

-- the node at a path, without room
pub there_roomless : (items : Forest) (path : List ℕ) → node_at (roomless items) path ≡ option_map roomless_node (node_at items path)
there_roomless items [] = refl
there_roomless Forest.nil (k ∷ path) = refl
there_roomless (Forest.cons label inner rest) (zero ∷ []) = refl
there_roomless (Forest.cons label inner rest) (zero ∷ (j ∷ path)) = there_roomless inner (j ∷ path)
there_roomless (Forest.cons label inner rest) (suc k ∷ path) = there_roomless rest (k ∷ path)

pub with_room : (o : Option PlainNode) (hole : PlainNode) → option_map roomless_node o ≡ Some hole
    → (node : PlainNode) × (o ≡ Some node) × (roomless_node node ≡ hole)
with_room None hole e = absurd (none-some hole e)
with_room (Some node) hole e = (node, refl, ap (taken hole) e)

-- a first item stands on the way to a hole that was added
pub added_way : (side : Side) (hole node : PlainNode) (before after : Forest) (path : List ℕ) → node_at before path ≡ Some node
    → roomless after ≡ edit_at (with_beside side hole) path (roomless before) → IsSome (first_item after (added_path side path))
added_way side hole node before after path there others =
    let added = added_path side path in
    let was : node_at (roomless before) path ≡ Some (roomless_node node) = there_roomless before path ∙ ap (option_map roomless_node) there in
    let is : node_at (roomless after) added ≡ Some hole =
    ap (λ f. node_at f added) others ∙ hole_there side hole (roomless before) path (roomless_node node) was in
    let found = with_room (node_at after added) hole (sym (there_roomless after added) ∙ is) in
    on_the_way after added found.0 found.1

-- the first item on the way has the slot that is told of it
first_there : (items : Forest) (path : List ℕ) (node : PlainNode) (slot : ℕ) → node_at items path ≡ Some node
    → IfSome (first_item items path) (λ item. slot ≡ item.label.slot) → option_map (λ item. item.label.slot) (first_item items path) ≡ Some slot
first_there items [] node slot e told = absurd (none-some node e)
first_there Forest.nil (k ∷ path) node slot e told = absurd (none-some node e)
first_there (Forest.cons label inner rest) (zero ∷ path) node slot e told = ap Some (sym told)
first_there (Forest.cons label inner rest) (suc k ∷ path) node slot e told = first_there rest (k ∷ path) node slot e told

-- a last number is below the number of nodes
pub last_small : (items : Forest) (path : List ℕ) (node : PlainNode) → node_at items path ≡ Some node → last_child_number path < count items
last_small items [] node e = absurd (none-some node e)
last_small Forest.nil (k ∷ path) node e = absurd (none-some node e)
last_small (Forest.cons label inner rest) (zero ∷ []) node e = omega arith
last_small (Forest.cons label inner rest) (zero ∷ (j ∷ path)) node e = omega (arith, last_small inner (j ∷ path) node e)
last_small (Forest.cons label inner rest) (suc k ∷ []) node e = omega (arith, last_small rest (k ∷ []) node e)
last_small (Forest.cons label inner rest) (suc k ∷ (j ∷ path)) node e = omega (arith, last_small rest (k ∷ (j ∷ path)) node e)

-- what is said of a change
pub record Says (change : Change) (slot : ℕ) (what : What) (items : Forest) (path : List ℕ) : Type 0 where
  pub slot_is : change.slot.0 ≡ slot
  pub what_is : change.what ≡ what
  pub first : IfSome (first_item items path) (λ item. change.procedure.0 ≡ item.label.slot)

differ_so : (change : Change) (slot : ℕ) (what : What) (before after : PlainTree) → change.slot.0 ≡ slot → change.what ≡ what
    → DifferBy what slot before.items after.items → procedure_of (changed_in what before.items after.items) slot ≡ Some change.procedure.0
    → Differs before after change
differ_so change slot what before after slot_is what_is by within =
    record {
      by = subst (λ w. DifferBy w change.slot.0 before.items after.items) (sym what_is)
          (subst (λ s. DifferBy what s before.items after.items) (sym slot_is) by);
      within = subst (λ w. procedure_of (changed_in w before.items after.items) change.slot.0 ≡ Some change.procedure.0) (sym what_is)
          (subst (λ s. procedure_of (changed_in what before.items after.items) s ≡ Some change.procedure.0) (sym slot_is) within);
    }

-- a hole left its list
pub drop_edit : (tree : PlainTree) (path : List ℕ) (node : PlainNode) (after : PlainTree) (change : Change) → IsTree tree
    → node_at tree.items path ≡ Some node → IsSpareHole tree.items path node
    → roomless after.items ≡ edit_at (λ _. []) path (roomless tree.items) → after.drawn ≡ tree.drawn → after.live ≡ tree.live - 1
    → 0 < list_room after.spare after.items path → Says change node.label.slot What.Dropped tree.items path
    → IsEdit TreeEdit.drop node.label.slot tree after
    record {
      change = change;
      path = with_last pred path;
      undoing = PlainUndoing.put_in (side_of (last_child_number path)) (roomless_node node);
      drawn = tree.drawn;
      live = tree.live;
    }
    None
drop_edit tree path node after change t there spare others drawn_is live_is room says =
    let side = side_of (last_child_number path) in
    let left : Forest = edit_at (λ _. []) path tree.items in
    let receipt : PlainReceipt =
    record { change = change; path = with_last pred path; undoing = PlainUndoing.put_in side (roomless_node node); drawn = tree.drawn; live = tree.live }
    in
    let law = drop_keeps_tree tree path node t there spare in
    let same : roomless after.items ≡ roomless left = others ∙ sym (roomless_edit (λ _. []) (λ _. []) (λ _. refl) path tree.items) in
    let by_slot : roomless after.items ≡ roomless (Drop tree node.label.slot).items =
    same ∙ ap roomless (sym (drop_by_path tree path node t there)) in
    let lives : after.live ≡ (Drop tree node.label.slot).live = omega (arith, law.1, live_is) in
    let became : roomless_tree after ≡ roomless_tree (Drop tree node.label.slot) =
    λ i. record { items = by_slot i; spare = 0; drawn = drawn_is i; live = lives i } in
    let two : 2 ≤ length (nodes (siblings_at tree.items path)) =
    omega (arith, spare.others, many_few (sort_of node.label.kind) (sorts (siblings_at tree.items path)), sorts_length (siblings_at tree.items path)) in
    let items : edit_at (with_beside side (roomless_node node)) (with_last pred path) (roomless after.items) ≡ roomless tree.items =
    ap (edit_at (with_beside side (roomless_node node)) (with_last pred path)) same
    ∙ (sym (roomless_edit (with_beside side node) (with_beside side (roomless_node node)) (beside_same side node) (with_last pred path) left)
    ∙ ap roomless (put_again node tree.items path there two)) in
    let undoes : undone receipt None (roomless_tree after) ≡ roomless_tree tree =
    ap (λ (f : Forest). let s : PlainTree = record (roomless_tree tree) { items = f } in s) items in
    let kept : IsTree after = tree_with_room after (subst IsTree (sym became) (tree_without_room (Drop tree node.label.slot) law.0)) in
    let differs : Differs tree after change =
    differ_so change node.label.slot What.Dropped tree after says.slot_is says.what_is
    (omega (arith, t.once node.label.slot, present tree.items path node there), by_slot)
    (procedure_there tree.items path node there (t.once node.label.slot) ∙ first_there tree.items path node change.procedure.0 there says.first)
    in
    let fewer = (shrunk tree.items path node there).count_is in
    let stands : IsSome (node_at (roomless after.items) (with_last pred path)) =
    some_place (with_beside side (roomless_node node)) (roomless after.items) (with_last pred path)
    (node_at (roomless after.items) (with_last pred path)) refl
    (λ none.
    omega (
      arith,
      fewer,
      count_roomless left,
      ap count same,
      ap count (sym none ∙ items),
      count_roomless tree.items,
    )) in
    let apart : (slot : ℕ) → comments slot after.items + comments slot (coming receipt.undoing None) ≤ 1 =
    λ slot.
    omega (
      arith,
      comments_roomless slot after.items,
      ap (comments slot) same,
      comments_roomless slot left,
      comments_left slot tree.items path node there,
      comments_roomless slot (forest (node ∷ [])),
      comments_few slot tree.items,
      t.once slot,
    )
    in
    record {
      became = became;
      tree = kept;
      what = says.what_is;
      slot_is = says.slot_is;
      differs = differs;
      undoes = undoes;
      can_revert =
          edit_can_revert tree after receipt None t kept undoes differs says.what_is
          (some_and (node_at (roomless after.items) (with_last pred path)) (IsUndoneIn change.slot.0 receipt.undoing None) stands
          (λ _. sym says.slot_is)) apart (omega (arith, drawn_is));
      drawn = omega (arith, drawn_is);
      can_undo =
          record {
            room = omega (arith, room, room_beside pred after.spare after.items path);
            before = subst IsTree (sym undoes) (tree_without_room tree t);
          };
    }

-- as many slots are live as there were, and one more
pub add_live : (tree : PlainTree) (path : List ℕ) (node : PlainNode) (side : Side) (kind : NodeKind) → IsTree tree
    → node_at tree.items path ≡ Some node → hole_of (sort_of node.label.kind) ≡ Some kind
    → (Add tree node.label.slot side).live ≡ tree.live + 1
add_live tree path node side kind t there hole =
    omega (arith, ap count (add_by_path tree path node side kind t there hole), (grown side tree.drawn kind tree.items path node there).count_is, t.live)

same_one : (a : ℕ) → one_if a a ≡ 1
same_one a = rw (eq-eqb a a refl) refl

-- a hole came beside an item
pub add_edit : (tree : PlainTree) (path : List ℕ) (node : PlainNode) (side : Side) (kind : NodeKind) (after : PlainTree) (change : Change)
    → IsTree tree → node_at tree.items path ≡ Some node → IsListItem tree.items path node → hole_of (sort_of node.label.kind) ≡ Some kind
    → tree.live + 1 ≤ most_slots → tree.drawn + 1 ≤ most_drawn_slots
    → roomless after.items ≡ edit_at (with_beside side (lone tree.drawn kind)) path (roomless tree.items)
    → after.drawn ≡ tree.drawn + 1 → after.live ≡ tree.live + 1
    → Says change tree.drawn What.Added after.items (added_path side path)
    → IsEdit (TreeEdit.add side) node.label.slot tree after
    record { change = change; path = added_path side path; undoing = PlainUndoing.take_out; drawn = tree.drawn; live = tree.live } None
add_edit tree path node side kind after change t there listed hole_is few drawn_few others drawn_is live_is says =
    let hole = lone tree.drawn kind in
    let d : ℕ = tree.drawn in
    let more : Forest = edit_at (with_beside side hole) path tree.items in
    let receipt : PlainReceipt =
    record { change = change; path = added_path side path; undoing = PlainUndoing.take_out; drawn = tree.drawn; live = tree.live }
    in
    let live = add_live tree path node side kind t there hole_is in
    let law = add_keeps_tree tree path node side t there listed (omega (arith, live, few)) drawn_few in
    let same : roomless after.items ≡ roomless more =
    others ∙ sym (roomless_edit (with_beside side hole) (with_beside side hole) (beside_same side hole) path tree.items) in
    let by_slot : roomless after.items ≡ roomless (Add tree node.label.slot side).items =
    same ∙ ap roomless (sym (add_by_path tree path node side kind t there hole_is)) in
    let lives : after.live ≡ (Add tree node.label.slot side).live = live_is ∙ sym live in
    let became : roomless_tree after ≡ roomless_tree (Add tree node.label.slot side) =
    λ i. record { items = by_slot i; spare = 0; drawn = drawn_is i; live = lives i } in
    let own : IsTree after = tree_with_room after (subst IsTree (sym became) (tree_without_room (Add tree node.label.slot side) law.0)) in
    let g = grown side d kind tree.items path node there in
    let once : times d more ≡ 1 = omega (arith, g.times_are d, none_above d d tree.items (omega arith) t.drawn, same_one d) in
    let stands : times d after.items ≡ 1 = omega (arith, times_roomless d after.items, ap (times d) same, times_roomless d more, once) in
    let at = hole_there side hole tree.items path node there in
    let back : edit_slot d (λ _. []) more ≡ tree.items =
    slot_edit_is_path_edit (λ _. []) more (added_path side path) hole (omega (arith, once)) at
    ∙ taken_again side hole tree.items path node there in
    let without : roomless (edit_slot d (λ _. []) after.items) ≡ roomless tree.items =
    roomless_edit_slot d (λ _. []) (λ _. []) (λ _. refl) after.items
    ∙ (ap (edit_slot d (λ _. [])) same
    ∙ (sym (roomless_edit_slot d (λ _. []) (λ _. []) (λ _. refl) more) ∙ ap roomless back)) in
    let items : edit_at (λ _. []) (added_path side path) (roomless after.items) ≡ roomless tree.items =
    ap (edit_at (λ _. []) (added_path side path)) same
    ∙ (sym (roomless_edit (λ _. []) (λ _. []) (λ _. refl) (added_path side path) more)
    ∙ ap roomless (taken_again side hole tree.items path node there)) in
    let undoes : undone receipt None (roomless_tree after) ≡ roomless_tree tree =
    ap (λ (f : Forest). let s : PlainTree = record (roomless_tree tree) { items = f } in s) items in
    let seen = with_room (node_at after.items (added_path side path)) hole
    (sym (there_roomless after.items (added_path side path))
    ∙ (ap (λ f. node_at f (added_path side path)) same
    ∙ (there_roomless more (added_path side path) ∙ ap (option_map roomless_node) at))) in
    let slot : seen.0.label.slot ≡ d = ap (λ (n : PlainNode). n.label.slot) seen.2 in
    let within : procedure_of after.items d ≡ Some change.procedure.0 =
    ap (procedure_of after.items) (sym slot)
    ∙ (procedure_there after.items (added_path side path) seen.0 seen.1 (own.once seen.0.label.slot)
    ∙ first_there after.items (added_path side path) seen.0 change.procedure.0 seen.1 says.first) in
    let differs : Differs tree after change =
    differ_so change d What.Added tree after says.slot_is says.what_is (stands, sym without) within in
    let apart : (slot : ℕ) → comments slot after.items + comments slot (coming receipt.undoing None) ≤ 1 =
    λ slot.
    omega (
      arith,
      comments_roomless slot after.items,
      ap (comments slot) same,
      comments_roomless slot more,
      comments_beside slot side hole tree.items path node there,
      lone_none slot d kind (hole_no_comment (sort_of node.label.kind) kind hole_is),
      comments_few slot tree.items,
      t.once slot,
    )
    in
    record {
      became = became;
      tree = own;
      what = says.what_is;
      slot_is = says.slot_is;
      differs = differs;
      undoes = undoes;
      can_revert =
          edit_can_revert tree after receipt None t own undoes differs says.what_is
          (stands_undone after.items (added_path side path) seen.0 change.slot.0 d receipt.undoing None seen.1 says.slot_is slot) apart
          (omega (arith, drawn_is));
      drawn = omega (arith, drawn_is);
      can_undo = record { room = tt; before = subst IsTree (sym undoes) (tree_without_room tree t) };
    }

-- a hole beside an item leaves a tree as deep as it was
pub add_depth : (tree : PlainTree) (path : List ℕ) (node : PlainNode) (side : Side) (kind : NodeKind) → IsTree tree
    → node_at tree.items path ≡ Some node → hole_of (sort_of node.label.kind) ≡ Some kind
    → depth (Add tree node.label.slot side).items ≡ depth tree.items
add_depth tree path node side kind t there hole =
    ap depth (add_by_path tree path node side kind t there hole) ∙ (grown side tree.drawn kind tree.items path node there).depth_is

-- the first limit that is met is the one that the tree would be over
pub add_over : (fault : TreeFault) (tree : PlainTree) (path : List ℕ) (node : PlainNode) (side : Side) (kind : NodeKind) → IsTree tree
    → node_at tree.items path ≡ Some node → hole_of (sort_of node.label.kind) ≡ Some kind
    → MeetsLimit true (tree.live + 1) (tree.drawn + 1) fault → IsOverTreeLimit fault (Add tree node.label.slot side)
add_over TreeFault.NotHere tree path node side kind t there hole meets = meets
add_over TreeFault.TooDeep tree path node side kind t there hole meets = absurd (false≢true (sym meets))
add_over TreeFault.TooLarge tree path node side kind t there hole meets = (
  omega (arith, add_depth tree path node side kind t there hole, t.shallow),
  omega (arith, add_live tree path node side kind t there hole, meets.1),
)
add_over TreeFault.SlotsUsedUp tree path node side kind t there hole meets = (
  omega (arith, add_depth tree path node side kind t there hole, t.shallow),
  omega (arith, add_live tree path node side kind t there hole, meets.1),
  meets.2,
)
add_over TreeFault.OutOfMemory tree path node side kind t there hole meets = absurd meets

-- and none is met where the tree is within them
pub add_within : (tree : PlainTree) (path : List ℕ) (node : PlainNode) (side : Side) (kind : NodeKind) → IsTree tree
    → node_at tree.items path ≡ Some node → hole_of (sort_of node.label.kind) ≡ Some kind
    → tree.live + 1 ≤ most_slots → tree.drawn + 1 ≤ most_drawn_slots → IsWithin (Add tree node.label.slot side)
add_within tree path node side kind t there hole few drawn_few =
    record {
      shallow = omega (arith, add_depth tree path node side kind t there hole, t.shallow);
      few = omega (arith, add_live tree path node side kind t there hole, few);
      drawn_few = drawn_few;
    }
