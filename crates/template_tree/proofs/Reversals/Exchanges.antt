-- What comes back at a path in place of what was there, and is taken back again.
use Rattle.std.specs.Prelude.{◌≡◌, refl, ℕ, zero, suc, pred, ◌+◌, ◌<◌, ◌≤◌, List, [], ◌∷◌, length, Option, Some, None, IsSome, IsSomeAnd, option_map}
use Rattle.std.proofs.Common.{ap, sym, ◌∙◌, subst, arith, length-append}
use Rattle.std.proofs.lemmas.Option.{none-some}
use Rattle.plcs_grammar.specs.declared.node_kind.Sort.{Sort}
use Rattle.plcs_grammar.specs.declared.row.Amount.{Amount}
use Rattle.plcs_grammar.specs.PlainPhrase.{PlainPhrase}
use Rattle.plcs_grammar.specs.Template.{PlainSection, program_sections, row_of}
use Rattle.template_tree.specs.declared.side.Side.{Side}
use Rattle.template_tree.specs.Edits.Edit.{edit_at, give_way}
use Rattle.template_tree.specs.Edits.Lend.{with_node}
use Rattle.template_tree.specs.Edits.ListItem.{siblings_at}
use Rattle.template_tree.specs.Edits.Receipt.{PlainUndoing, list_room, with_beside}
use Rattle.template_tree.specs.Edits.Reversal.{IsUndoneIn, comments}
use Rattle.template_tree.specs.Positions.Path.{added_path, last_child_number, node_at, with_last}
use Rattle.template_tree.specs.Private.Exchanged.{IsExchanged}
use Rattle.template_tree.specs.Private.Restored.{side_of, with_edit}
use Rattle.template_tree.specs.Programs.Part.{with_part}
use Rattle.template_tree.specs.Programs.PlainTree.{Forest, PlainNode, PlainTree, forest, nodes, roomless, roomless_node, roomless_tree}
use Rattle.template_tree.specs.Programs.Program.{AreItems, AreNodes, Fill, IsProgram, sorts}
use Rattle.template_tree.specs.Programs.Slots.{count}
use Rattle.template_tree.proofs.Edits.EditedNodes.{edit_back, edit_same, edit_twice, node_there}
use Rattle.template_tree.proofs.Edits.SameEdits.{edits_alike}
use Rattle.template_tree.proofs.Lists.ListEdits.{hole_there, put_again, room_beside, taken_again}
use Rattle.template_tree.proofs.Lists.ListTrees.{shrunk}
use Rattle.template_tree.proofs.Reversals.CommentCounts.{comments_beside, comments_left, comments_replaced}
use Rattle.template_tree.proofs.Reversals.RevertibleEdits.{some_and, some_place, some_roomless, some_with_room}
use Rattle.template_tree.proofs.Room.RoomlessEdits.{roomless_twice, stays, with_edit_is}
use Rattle.template_tree.proofs.Room.RoomlessNodes.{node_roomless}
use Rattle.template_tree.proofs.Trees.Counts.{sorts_length}

-- the tree with these items, without room
abbrev with_bare_items : PlainTree → Forest → PlainTree
with_bare_items tree items = record (roomless_tree tree) { items = items }

-- ---- a node for a node

-- what was swapped in a tree
pub node_came : (node : PlainNode) (path : List ℕ) (before after : PlainTree) → after ≡ with_node before path node
    → roomless_tree after ≡ with_edit (λ _. roomless_node node ∷ []) path (roomless_tree before)
node_came node path before after is =
    ap roomless_tree is ∙ with_edit_is (λ _. node ∷ []) (λ _. roomless_node node ∷ []) (λ _. refl) path before

-- and what is swapped back
pub node_comes_back : (node there : PlainNode) (path : List ℕ) (before after : PlainTree) → after ≡ with_node before path node
    → node_at before.items path ≡ Some there
    → with_edit (λ _. roomless_node there ∷ []) path (roomless_tree after) ≡ roomless_tree before
node_comes_back node there path before after is e =
    ap (λ (t : PlainTree). with_edit (λ _. roomless_node there ∷ []) path (roomless_tree t)) is
    ∙ (sym (with_edit_is (λ _. there ∷ []) (λ _. roomless_node there ∷ []) (λ _. refl) path (with_node before path node))
    ∙ ap (λ items. with_bare_items before (roomless items)) (edit_back there node before.items path e))

pub node_stands : (node there : PlainNode) (path : List ℕ) (before after : PlainTree) → after ≡ with_node before path node
    → node_at before.items path ≡ Some there → node_at after.items path ≡ Some node
node_stands node there path before after is e =
    ap (λ (t : PlainTree). node_at t.items path) is ∙ node_there there node before.items path e

-- ---- a part for a part

pub part_came : (part : ℕ) (place : Option PlainPhrase) (node : PlainNode) (path : List ℕ) (before after : PlainTree)
    → after ≡ with_node before path (with_part part place node) → node_at before.items path ≡ Some node
    → roomless_tree after ≡ with_edit (λ item. with_part part place item ∷ []) path (roomless_tree before)
part_came part place node path before after is e =
    let change : PlainNode → List PlainNode = λ item. with_part part place item ∷ [] in
    ap roomless_tree is
    ∙ (ap (λ items. with_bare_items before (roomless items))
    (edits_alike (λ _. with_part part place node ∷ []) change before.items path node e refl)
    ∙ with_edit_is change change (λ _. refl) path before)

pub part_comes_back : (part : ℕ) (place held : Option PlainPhrase) (node : PlainNode) (path : List ℕ) (before after : PlainTree)
    → after ≡ with_node before path (with_part part place node) → with_part part held (with_part part place node) ≡ node
    → node_at before.items path ≡ Some node
    → with_edit (λ item. with_part part held item ∷ []) path (roomless_tree after) ≡ roomless_tree before
part_comes_back part place held node path before after is back e =
    let new : PlainNode = with_part part place node in
    let change : PlainNode → List PlainNode = λ item. with_part part held item ∷ [] in
    ap (λ (t : PlainTree). with_edit change path (roomless_tree t)) is
    ∙ (sym (with_edit_is change change (λ _. refl) path (with_node before path new))
    ∙ ap (λ items. with_bare_items before (roomless items))
    (edit_twice change new before.items path
    ∙ (ap (λ n. edit_at (λ _. n ∷ []) path before.items) back ∙ edit_same node before.items path e)))

-- ---- an item that leaves its list

-- as many items are left
items_left : (items : Forest) (k : ℕ) (node : PlainNode) → node_at items (k ∷ []) ≡ Some node
    → length (nodes (give_way (λ _. []) k items)) + 1 ≡ length (nodes items)
items_left Forest.nil k node e = absurd (none-some node e)
items_left (Forest.cons label inner rest) zero node e = omega arith
items_left (Forest.cons label inner rest) (suc k) node e = omega (arith, items_left rest k node e)

-- a section has an item
section_some : (amount : Amount) (sort : Sort) (own : List Sort) → AreItems amount sort own → 1 ≤ length own
section_some Amount.One sort own is = omega (arith, ap length is)
section_some Amount.Many sort own is = is.0

filled_some : (section : PlainSection) (sections : List PlainSection) (items : List Sort) → Fill (section ∷ sections) items → 1 ≤ length items
filled_some section sections items fill =
    omega (arith, section_some section.amount section.sort fill.0 fill.3, ap length fill.2, length-append fill.0 fill.1)

-- two items stand in a list that is one without one of them, too
flat_two : (sections : List PlainSection) (items : Forest) (k : ℕ) (node : PlainNode) → node_at items (k ∷ []) ≡ Some node
    → Fill sections (sorts items) → Fill sections (sorts (edit_at (λ _. []) (k ∷ []) items)) → 2 ≤ length (nodes items)
flat_two [] items k node e fill left =
    absurd (omega (arith, ap length fill, sorts_length items, items_left items k node e))
flat_two (section ∷ sections) items k node e fill left =
    let after : Forest = give_way (λ _. []) k items in
    omega (arith, filled_some section sections (sorts after) left, sorts_length after, items_left items k node e)

deep_two : (items : Forest) (k j : ℕ) (path : List ℕ) (node : PlainNode) → node_at items (k ∷ (j ∷ path)) ≡ Some node → AreNodes items
    → AreNodes (edit_at (λ _. []) (k ∷ (j ∷ path)) items) → 2 ≤ length (nodes (siblings_at items (k ∷ (j ∷ path))))
deep_two Forest.nil k j path node e sound left = absurd (none-some node e)
deep_two (Forest.cons label inner rest) zero j [] node e sound left =
    flat_two (row_of label.kind).sections inner j node e sound.0.inner left.0.inner
deep_two (Forest.cons label inner rest) zero j (l ∷ path) node e sound left = deep_two inner j l path node e sound.1 left.1
deep_two (Forest.cons label inner rest) (suc k) j path node e sound left = deep_two rest k j path node e sound.2 left.2

pub two_stand : (items : Forest) (path : List ℕ) (node : PlainNode) → node_at items path ≡ Some node → IsProgram items
    → IsProgram (edit_at (λ _. []) path items) → 2 ≤ length (nodes (siblings_at items path))
two_stand items [] node e program left = absurd (none-some node e)
two_stand items (k ∷ []) node e program left = flat_two program_sections items k node e program.listed left.listed
two_stand items (k ∷ (j ∷ path)) node e program left = deep_two items k j path node e program.sound left.sound

-- what is put back beside the item before it
pub item_comes_back : (item : PlainNode) (path : List ℕ) (before after : PlainTree) → node_at before.items path ≡ Some item
    → IsProgram (roomless_tree before).items → IsProgram (with_edit (λ _. []) path (roomless_tree before)).items
    → roomless_tree after ≡ with_edit (λ _. []) path (roomless_tree before)
    → with_edit (with_beside (side_of (last_child_number path)) (roomless_node item)) (with_last pred path) (roomless_tree after)
    ≡ roomless_tree before
item_comes_back item path before after e program left is =
    let bare : Forest = roomless before.items in
    let there : node_at bare path ≡ Some (roomless_node item) = node_roomless before.items path ∙ ap (option_map roomless_node) e in
    let change = with_beside (side_of (last_child_number path)) (roomless_node item) in
    ap (with_edit change (with_last pred path)) is
    ∙ ap (with_bare_items before) (put_again (roomless_node item) bare path there (two_stand bare path (roomless_node item) there program left))

-- there is an item beside which it comes back
pub item_beside : (item : PlainNode) (path : List ℕ) (before after : PlainTree) → node_at before.items path ≡ Some item
    → roomless_tree after ≡ with_edit (λ _. []) path (roomless_tree before)
    → with_edit (with_beside (side_of (last_child_number path)) (roomless_node item)) (with_last pred path) (roomless_tree after)
    ≡ roomless_tree before
    → IsSome (node_at after.items (with_last pred path))
item_beside item path before after e is back =
    let bare : Forest = roomless before.items in
    let left : Forest = roomless after.items in
    let there : node_at bare path ≡ Some (roomless_node item) = node_roomless before.items path ∙ ap (option_map roomless_node) e in
    let change = with_beside (side_of (last_child_number path)) (roomless_node item) in
    let fewer : count left + count (roomless_node item).inner + 1 ≡ count bare =
    ap (λ (t : PlainTree). count t.items + count (roomless_node item).inner + 1) is ∙ (shrunk bare path (roomless_node item) there).count_is
    in
    some_with_room after.items (with_last pred path)
    (some_place change left (with_last pred path) (node_at left (with_last pred path)) refl
    (λ same. omega (arith, fewer, ap count same, ap (λ (t : PlainTree). count t.items) back)))

-- ---- an item that comes into its list

-- what is taken out again
pub item_leaves_again : (side : Side) (item node : PlainNode) (path : List ℕ) (before after : PlainTree) → node_at before.items path ≡ Some node
    → roomless_tree after ≡ with_edit (with_beside side (roomless_node item)) path (roomless_tree before)
    → with_edit (λ _. []) (added_path side path) (roomless_tree after) ≡ roomless_tree before
item_leaves_again side item node path before after e is =
    let bare : Forest = roomless before.items in
    let there : node_at bare path ≡ Some (roomless_node node) = node_roomless before.items path ∙ ap (option_map roomless_node) e in
    ap (with_edit (λ _. []) (added_path side path)) is
    ∙ ap (with_bare_items before) (taken_again side (roomless_node item) bare path (roomless_node node) there)

-- ---- the exchanges

-- what is undone at a node is so at another one
moved : (one other : Option PlainNode) (node new : PlainNode) (Was Is : PlainNode → Type 0) → one ≡ Some node → other ≡ Some new
    → (Was node → Is new) → IsSomeAnd one Was → IsSomeAnd other Is
moved one other node new Was Is e there law h = subst (λ o. IsSomeAnd o Is) (sym there) (law (subst (λ o. IsSomeAnd o Was) e h))

-- a node without room is the same without room
node_twice : (node : PlainNode) → roomless_node (roomless_node node) ≡ roomless_node node
node_twice node =
    ap (λ (inner : Forest). let n : PlainNode = record { label = record node.label { spare = 0 }; inner = inner } in n) (roomless_twice node.inner)

bare_there : (items : Forest) (path : List ℕ) (node : PlainNode) → node_at items path ≡ Some node
    → node_at (roomless items) path ≡ Some (roomless_node node)
bare_there items path node e = node_roomless items path ∙ ap (option_map roomless_node) e

-- comments in nodes of which one was swapped
swapped_comments : (slot : ℕ) (path : List ℕ) (old new : PlainNode) (before after : PlainTree)
    → roomless_tree after ≡ with_edit (λ _. new ∷ []) path (roomless_tree before) → node_at (roomless before.items) path ≡ Some old
    → comments slot (roomless after.items) + comments slot (forest (old ∷ [])) ≡ comments slot (roomless before.items) + comments slot (forest (new ∷ []))
swapped_comments slot path old new before after is e =
    omega (
      arith,
      ap (λ (t : PlainTree). comments slot t.items) is,
      comments_replaced slot (roomless before.items) path old new e,
    )

pub put_exchanged : (node there : PlainNode) (back : Option PlainNode) (path : List ℕ) (before after : PlainTree)
    → after ≡ with_node before path node → node_at before.items path ≡ Some there
    → IsExchanged path (PlainUndoing.put (roomless_node node)) back before after path (PlainUndoing.put (roomless_node there)) back
put_exchanged node there back path before after is e =
    let came = node_came node path before after is in
    let was = bare_there before.items path there e in
    let now = bare_there after.items path node (node_stands node there path before after is e) in
    record {
      became = came;
      again = node_comes_back node there path before after is e;
      what = refl;
      in_slot =
          λ slot.
          moved (node_at (roomless before.items) path) (node_at (roomless after.items) path) (roomless_node there) (roomless_node node)
          (IsUndoneIn slot (PlainUndoing.put (roomless_node node)) back) (IsUndoneIn slot (PlainUndoing.put (roomless_node there)) back) was now
          (λ h. (h.1, h.0));
      comments_stay = λ slot. swapped_comments slot path (roomless_node there) (roomless_node node) before after came was;
      room = tt;
      out_is = refl;
      out_again = refl;
    }

pub back_exchanged : (node there : PlainNode) (path : List ℕ) (before after : PlainTree)
    → after ≡ with_node before path node → node_at before.items path ≡ Some there
    → IsExchanged path PlainUndoing.put_back (Some node) before after path PlainUndoing.put_back (Some there)
back_exchanged node there path before after is e =
    let came = node_came node path before after is in
    let was = bare_there before.items path there e in
    let now = bare_there after.items path node (node_stands node there path before after is e) in
    record {
      became = came;
      again = node_comes_back node there path before after is e;
      what = refl;
      in_slot =
          λ slot.
          moved (node_at (roomless before.items) path) (node_at (roomless after.items) path) (roomless_node there) (roomless_node node)
          (IsUndoneIn slot PlainUndoing.put_back (Some node)) (IsUndoneIn slot PlainUndoing.put_back (Some there)) was now
          (λ h. (h.1, h.0));
      comments_stay = λ slot. swapped_comments slot path (roomless_node there) (roomless_node node) before after came was;
      room = tt;
      out_is = sym (ap (option_map roomless_node) was ∙ ap Some (node_twice there));
      out_again = ap (option_map roomless_node) now ∙ ap Some (node_twice node);
    }

-- where no node comes back, none is given out
pub none_exchanged : (path : List ℕ) (before : PlainTree)
    → IsExchanged path PlainUndoing.put_back None before before path PlainUndoing.put_back None
none_exchanged path before =
    let same : with_edit (λ item. item ∷ []) path (roomless_tree before) ≡ roomless_tree before =
    ap (with_bare_items before) (stays path (roomless before.items)) in
    record {
      became = sym same;
      again = same;
      what = refl;
      in_slot = λ slot h. h;
      comments_stay = λ slot. refl;
      room = tt;
      out_is = refl;
      out_again = refl;
    }

pub part_exchanged : (part : ℕ) (place held : Option PlainPhrase) (node : PlainNode) (back : Option PlainNode) (path : List ℕ)
    (before after : PlainTree) → after ≡ with_node before path (with_part part place node)
    → with_part part held (with_part part place node) ≡ node → node_at before.items path ≡ Some node
    → IsExchanged path (PlainUndoing.set_part part place) back before after path (PlainUndoing.set_part part held) back
part_exchanged part place held node back path before after is set_back e =
    let new : PlainNode = with_part part place node in
    let whole = node_came new path before after is in
    let was = bare_there before.items path node e in
    let now = bare_there after.items path new (node_stands new node path before after is e) in
    record {
      became = part_came part place node path before after is e;
      again = part_comes_back part place held node path before after is set_back e;
      what = refl;
      in_slot =
          λ slot.
          moved (node_at (roomless before.items) path) (node_at (roomless after.items) path) (roomless_node node) (roomless_node new)
          (IsUndoneIn slot (PlainUndoing.set_part part place) back) (IsUndoneIn slot (PlainUndoing.set_part part held) back) was now (λ h. h);
      comments_stay = λ slot. omega (arith, swapped_comments slot path (roomless_node node) (roomless_node new) before after whole was);
      room = tt;
      out_is = refl;
      out_again = refl;
    }

pub taken_exchanged : (item : PlainNode) (back : Option PlainNode) (path : List ℕ) (before after : PlainTree) → node_at before.items path ≡ Some item
    → IsProgram (roomless_tree before).items → IsProgram (with_edit (λ _. []) path (roomless_tree before)).items
    → roomless_tree after ≡ with_edit (λ _. []) path (roomless_tree before) → 0 < list_room after.spare after.items path
    → IsExchanged path PlainUndoing.take_out back before after (with_last pred path)
    (PlainUndoing.put_in (side_of (last_child_number path)) (roomless_node item)) back
taken_exchanged item back path before after e program left is room =
    let was = bare_there before.items path item e in
    let again = item_comes_back item path before after e program left is in
    record {
      became = is;
      again = again;
      what = refl;
      in_slot =
          λ slot h.
          let at : (roomless_node item).label.slot ≡ slot =
          subst (λ o. IsSomeAnd o (IsUndoneIn slot PlainUndoing.take_out back)) was h in
          some_and (node_at (roomless after.items) (with_last pred path))
          (IsUndoneIn slot (PlainUndoing.put_in (side_of (last_child_number path)) (roomless_node item)) back)
          (some_roomless after.items (with_last pred path) (item_beside item path before after e is again)) (λ _. at);
      comments_stay =
          λ slot.
          omega (
            arith,
            ap (λ (t : PlainTree). comments slot t.items) is,
            comments_left slot (roomless before.items) path (roomless_node item) was,
          );
      room = omega (arith, room, room_beside pred after.spare after.items path);
      out_is = refl;
      out_again = refl;
    }

pub inserted_exchanged : (side : Side) (item node : PlainNode) (back : Option PlainNode) (path : List ℕ) (before after : PlainTree)
    → node_at before.items path ≡ Some node
    → roomless_tree after ≡ with_edit (with_beside side (roomless_node item)) path (roomless_tree before)
    → IsExchanged path (PlainUndoing.put_in side (roomless_node item)) back before after (added_path side path) PlainUndoing.take_out back
inserted_exchanged side item node back path before after e is =
    let was = bare_there before.items path node e in
    let added = added_path side path in
    let now : node_at (roomless after.items) added ≡ Some (roomless_node item) =
    ap (λ (t : PlainTree). node_at t.items added) is ∙ hole_there side (roomless_node item) (roomless before.items) path (roomless_node node) was in
    record {
      became = is;
      again = item_leaves_again side item node path before after e is;
      what = refl;
      in_slot =
          λ slot.
          moved (node_at (roomless before.items) path) (node_at (roomless after.items) added) (roomless_node node) (roomless_node item)
          (IsUndoneIn slot (PlainUndoing.put_in side (roomless_node item)) back) (IsUndoneIn slot PlainUndoing.take_out back) was now (λ h. h);
      comments_stay =
          λ slot.
          omega (
            arith,
            ap (λ (t : PlainTree). comments slot t.items) is,
            comments_beside slot side (roomless_node item) (roomless before.items) path (roomless_node node) was,
          );
      room = tt;
      out_is = refl;
      out_again = refl;
    }
