-- Holes dropped from their lists.
use Rattle.std.specs.Prelude.{◌≡◌, refl, ℕ, suc, pred, ◌+◌, ◌≤◌, Bool, true, false, ◌&&◌, nat_lt, if◌then◌else◌, List, [], ◌∷◌, length, Option, Some, None, IsSomeAnd, is_some, is_none, option_map, option_and_then, slice_get}
use Rattle.std.specs.Option.{option_map_or}
use Rattle.std.proofs.Common.{ap, sym, ◌∙◌, subst, arith}
use Rattle.std.proofs.lemmas.Bool.{false≢true, false_from_ne_true}
use Rattle.std.proofs.lemmas.Bool.Decides.{Decides-ltb}
use Rattle.std.proofs.lemmas.Option.{none-some, same_Some}
use Rattle.plcs_grammar.specs.declared.node_kind.Sort.{Sort}
use Rattle.plcs_grammar.specs.Template.{PlainSection, row_of, program_sections}
use Rattle.template_tree.specs.declared.stop.Stop.{Stop}
use Rattle.template_tree.specs.Edits.Hole.{is_hole}
use Rattle.template_tree.specs.Edits.EditAnswer.{Edits, IsEdit, IsListItem, IsSpareHole}
use Rattle.template_tree.specs.Edits.ListItem.{how_many, is_listed, sections_at, siblings_at}
use Rattle.template_tree.specs.Positions.Path.{below, node_at, with_last}
use Rattle.template_tree.specs.Programs.PlainTree.{Forest, PlainNode, PlainTree, nodes, roomless, roomless_node, roomless_tree}
use Rattle.template_tree.specs.Programs.Program.{sort_of, sorts}
use Rattle.template_tree.specs.Edits.Receipt.{PlainReceipt}
use Rattle.template_tree.specs.Listings.Section.{same_sort}
use Rattle.template_tree.specs.Positions.Stop.{IsStop, PlainStop, plain_stop, visible_at, node_stop}
use Rattle.template_tree.specs.Programs.Tree.{IsTree}
use Rattle.template_tree.specs.Edits.TreeEdit.{TreeEdit, tree_after}
use Rattle.template_tree.specs.Laws.TreeLaws.{SlotEditIsPathEdit}
use Rattle.template_tree.specs.Edits.Edit.{edit_at, give_way}
use Rattle.session_edit.specs.AppliedEdit.{IsApplied}
use Rattle.session_edit.specs.Cursor.{has_sort, path_after_drop}
use Rattle.session_edit.specs.Edited.{outcome_of_drop, edited, outcome_of_taking}
use Rattle.session_edit.specs.Here.{is_list_item, is_spare_hole}
use Rattle.session_edit.specs.PlainEdit.{PlainEdit}
use Rattle.session_edit.proofs.Outcomes.{Node, applied_is, edited_is, items_after, node_there, stands_after}
use Rattle.session_edit.proofs.PutCommands.{edit_there, of_found}
use Rattle.session_edit.specs.Private.RoomLaws.{RoomLaws}
use Rattle.session_edit.proofs.Room.{item_roomless, itself}
use Rattle.session_edit.proofs.VisibleEdits.{item_of, last_number, other_stays, seen_beside, seen_here, shelf, shelf_after, shelf_of}

-- the room of lists makes no difference to the sections and the neighbours of a node
sections_found : (path : List ℕ) (j : ℕ)
    → ((sections : List PlainSection) (items : Forest) → sections_at sections (roomless items) (j ∷ path) ≡ sections_at sections items (j ∷ path))
    → (found : Option PlainNode)
    → option_map_or (λ node. sections_at (row_of node.label.kind).sections node.inner (j ∷ path)) (option_map roomless_node found) []
    ≡ option_map_or (λ node. sections_at (row_of node.label.kind).sections node.inner (j ∷ path)) found []
sections_found path j same None = refl
sections_found path j same (Some node) = same (row_of node.label.kind).sections node.inner

pub sections_roomless : RoomLaws → (sections : List PlainSection) (items : Forest) (path : List ℕ)
    → sections_at sections (roomless items) path ≡ sections_at sections items path
sections_roomless room sections items [] = refl
sections_roomless room sections items (k ∷ []) = refl
sections_roomless room sections items (k ∷ (j ∷ path)) =
    ap (λ found. option_map_or (λ (node : PlainNode). sections_at (row_of node.label.kind).sections node.inner (j ∷ path)) found []) (item_roomless room items k)
    ∙ sections_found path j (λ s i. sections_roomless room s i (j ∷ path)) (slice_get (nodes items) k)

siblings_found : (path : List ℕ) (j : ℕ)
    → ((items : Forest) → siblings_at (roomless items) (j ∷ path) ≡ roomless (siblings_at items (j ∷ path)))
    → (found : Option PlainNode)
    → option_map_or (λ node. siblings_at node.inner (j ∷ path)) (option_map roomless_node found) Forest.nil
    ≡ roomless (option_map_or (λ node. siblings_at node.inner (j ∷ path)) found Forest.nil)
siblings_found path j same None = refl
siblings_found path j same (Some node) = same node.inner

siblings_roomless : RoomLaws → (items : Forest) (path : List ℕ) → siblings_at (roomless items) path ≡ roomless (siblings_at items path)
siblings_roomless room items [] = refl
siblings_roomless room items (k ∷ []) = refl
siblings_roomless room items (k ∷ (j ∷ path)) =
    ap (λ found. option_map_or (λ (node : PlainNode). siblings_at node.inner (j ∷ path)) found Forest.nil) (item_roomless room items k)
    ∙ siblings_found path j (λ i. siblings_roomless room i (j ∷ path)) (slice_get (nodes items) k)

sorts_roomless : (items : Forest) → sorts (roomless items) ≡ sorts items
sorts_roomless Forest.nil = refl
sorts_roomless (Forest.cons label inner rest) = ap (λ others. sort_of label.kind ∷ others) (sorts_roomless rest)

listed_found : (sections : List PlainSection) (found : Option PlainNode)
    → option_map_or (λ (node : PlainNode). is_listed (sort_of node.label.kind) sections) (option_map roomless_node found) false
    ≡ option_map_or (λ (node : PlainNode). is_listed (sort_of node.label.kind) sections) found false
listed_found sections None = refl
listed_found sections (Some node) = refl

-- whether an item of a list stands at a path, with and without room
pub item_roomless_is : RoomLaws → (items : Forest) (path : List ℕ) → is_list_item (roomless items) path ≡ is_list_item items path
item_roomless_is room items path =
    ap (λ s. option_map_or (λ (node : PlainNode). is_listed (sort_of node.label.kind) s) (node_at (roomless items) path) false)
    (sections_roomless room program_sections items path)
    ∙ (ap (λ found. option_map_or (λ (node : PlainNode). is_listed (sort_of node.label.kind) (sections_at program_sections items path)) found false)
    (room.nodes items path)
    ∙ listed_found (sections_at program_sections items path) (node_at items path))

pub item_true : (items : Forest) (path : List ℕ) (node : PlainNode) → node_at items path ≡ Some node → IsListItem items path node → is_list_item items path ≡ true
item_true items path node e h =
    ap (λ found. option_map_or (λ (n : PlainNode). is_listed (sort_of n.label.kind) (sections_at program_sections items path)) found false) e ∙ h

pub item_listed : (items : Forest) (path : List ℕ) (node : PlainNode) → node_at items path ≡ Some node → is_list_item items path ≡ true → IsListItem items path node
item_listed items path node e h =
    sym (ap (λ found. option_map_or (λ (n : PlainNode). is_listed (sort_of n.label.kind) (sections_at program_sections items path)) found false) e) ∙ h

many_is : RoomLaws → (tree : PlainTree) (path : List ℕ) (sort : Sort)
    → how_many sort (sorts (siblings_at (roomless tree.items) path)) ≡ how_many sort (sorts (siblings_at tree.items path))
many_is room tree path sort =
    ap (how_many sort) (ap sorts (siblings_roomless room tree.items path) ∙ sorts_roomless (siblings_at tree.items path))

spare_true : RoomLaws → (tree : PlainTree) (at : PlainStop) (n : Node tree at) → at.part ≡ None → IsSpareHole tree.items at.path n.node
    → is_spare_hole (roomless_tree tree).items at (roomless_node n.node) ≡ true
spare_true room tree at n part h =
    rw part
    (rw h.hole
    (rw (item_roomless_is room tree.items at.path ∙ item_true tree.items at.path n.node n.there h.listed)
    (ap (nat_lt 1) (many_is room tree at.path (sort_of n.node.label.kind)) ∙ (Decides-ltb 1 (how_many (sort_of n.node.label.kind) (sorts (siblings_at tree.items at.path)))).1 (omega (arith, h.others)))))

both : (a b : Bool) → (a && b) ≡ true → (a ≡ true) × (b ≡ true)
both true b e = (refl, e)
both false b e = absurd (false≢true e)

spare_false : RoomLaws → (tree : PlainTree) (at : PlainStop) (n : Node tree at) → (IsSpareHole tree.items at.path n.node → ⊥)
    → is_spare_hole (roomless_tree tree).items at (roomless_node n.node) ≡ false
spare_false room tree at n wrong =
    false_from_ne_true (is_spare_hole (roomless_tree tree).items at (roomless_node n.node))
    (λ e.
    let halves = both (is_none at.part && is_hole n.node.label.kind)
    (is_list_item (roomless tree.items) at.path
    && nat_lt 1 (how_many (sort_of n.node.label.kind) (sorts (siblings_at (roomless tree.items) at.path)))) e
    in
    let first = both (is_none at.part) (is_hole n.node.label.kind) halves.0 in
    let rest = both (is_list_item (roomless tree.items) at.path)
    (nat_lt 1 (how_many (sort_of n.node.label.kind) (sorts (siblings_at (roomless tree.items) at.path)))) halves.1
    in
    wrong
    record {
      hole = first.1;
      listed = item_listed tree.items at.path n.node n.there (sym (item_roomless_is room tree.items at.path) ∙ rest.0);
      others =
          let more = (Decides-ltb 1 (how_many (sort_of n.node.label.kind) (sorts (siblings_at tree.items at.path)))).0
          (ap (nat_lt 1) (sym (many_is room tree at.path (sort_of n.node.label.kind))) ∙ rest.1)
          in
          omega (arith, more);
    })

delete_if : RoomLaws → (tree : PlainTree) (at : PlainStop) (n : Node tree at) (b : Bool)
    → is_spare_hole (roomless_tree tree).items at (roomless_node n.node) ≡ b
    → edited (roomless_tree tree) at PlainEdit.delete
    ≡ (if b then outcome_of_drop (roomless_tree tree) at (roomless_node n.node) else outcome_of_taking (roomless_tree tree) at at.part (roomless_node n.node))
delete_if room tree at n b e =
    edited_is room tree at PlainEdit.delete n.node n.there
    ∙ ap
    (λ (b : Bool).
    if b then outcome_of_drop (roomless_tree tree) at (roomless_node n.node) else outcome_of_taking (roomless_tree tree) at at.part (roomless_node n.node))
    e

-- what isn't a hole in a list of two or more is taken out
pub deletes_as_take : RoomLaws → (tree : PlainTree) (at : PlainStop) (n : Node tree at) → is_spare_hole (roomless_tree tree).items at (roomless_node n.node) ≡ false
    → edited (roomless_tree tree) at PlainEdit.delete ≡ edited (roomless_tree tree) at PlainEdit.take
deletes_as_take room tree at n e = delete_if room tree at n false e ∙ sym (edited_is room tree at PlainEdit.take n.node n.there)

part_spares_none : (part : Option ℕ) (a b : Bool) → is_some part ≡ true → ((is_none part && a) && b) ≡ false
part_spares_none None a b e = absurd (false≢true e)
part_spares_none (Some k) a b e = refl

pub part_not_dropped : RoomLaws → (tree : PlainTree) (at : PlainStop) → IsStop (roomless_tree tree).items at → is_some at.part ≡ true
    → edited (roomless_tree tree) at PlainEdit.delete ≡ edited (roomless_tree tree) at PlainEdit.take
part_not_dropped room tree at stop e =
    let n = node_there room tree at stop in
    deletes_as_take room tree at n
    (part_spares_none at.part (is_hole n.node.label.kind)
    (is_list_item (roomless tree.items) at.path
    && nat_lt 1 (how_many (sort_of n.node.label.kind) (sorts (siblings_at (roomless tree.items) at.path)))) e)

pub not_dropped : RoomLaws → (tree : PlainTree) (at : PlainStop) → IsStop (roomless_tree tree).items at
    → (IsSomeAnd (node_at tree.items at.path) (IsSpareHole tree.items at.path) → ⊥)
    → edited (roomless_tree tree) at PlainEdit.delete ≡ edited (roomless_tree tree) at PlainEdit.take
not_dropped room tree at stop missing =
    let n = node_there room tree at stop in
    deletes_as_take room tree at n
    (spare_false room tree at n (λ h. missing (of_found (node_at tree.items at.path) (IsSpareHole tree.items at.path) n.node n.there h)))

-- a node stands where the cursor does
pub no_node : RoomLaws → (A : Type 0) (f : PlainNode → A) (tree : PlainTree) (at : PlainStop) → IsStop (roomless_tree tree).items at
    → None ≡ option_map f (node_at tree.items at.path) → ⊥
no_node room A f tree at stop e =
    let n = node_there room tree at stop in none-some (f n.node) (e ∙ ap (option_map f) n.there)

-- the node at a path, and its neighbours, among the visible ones
held_below : (b : Bool) (shelf_in : Option Forest) (list : Forest) → (if b then None else shelf_in) ≡ Some list → shelf_in ≡ Some list
held_below true shelf_in list e = absurd (none-some list e)
held_below false shelf_in list e = e

list_below : (j : ℕ) (path : List ℕ)
    → ((items list : Forest) → shelf items (j ∷ path) ≡ Some list → node_at items (j ∷ path) ≡ item_of (last_number (j ∷ path)) list)
    → (list : Forest) (found : Option PlainNode)
    → option_and_then (λ item. if item.label.elided then None else shelf item.inner (j ∷ path)) found ≡ Some list
    → option_and_then (λ item. below item (j ∷ path)) found ≡ item_of (last_number (j ∷ path)) list
list_below j path same list None e = absurd (none-some list e)
list_below j path same list (Some item) e = same item.inner list (held_below item.label.elided (shelf item.inner (j ∷ path)) list e)

on_list : (items : Forest) (path : List ℕ) (list : Forest) → shelf items path ≡ Some list → node_at items path ≡ item_of (last_number path) list
on_list items [] list e = absurd (none-some list e)
on_list items (k ∷ []) list e = itself (slice_get (nodes items) k) ∙ ap (item_of k) (same_Some items list e)
on_list items (k ∷ (j ∷ path)) list e = list_below j path (λ i l h. on_list i (j ∷ path) l h) list (slice_get (nodes items) k) e

siblings_below : (j : ℕ) (path : List ℕ)
    → ((items list : Forest) → shelf items (j ∷ path) ≡ Some list → siblings_at items (j ∷ path) ≡ list)
    → (list : Forest) (found : Option PlainNode)
    → option_and_then (λ item. if item.label.elided then None else shelf item.inner (j ∷ path)) found ≡ Some list
    → option_map_or (λ item. siblings_at item.inner (j ∷ path)) found Forest.nil ≡ list
siblings_below j path same list None e = absurd (none-some list e)
siblings_below j path same list (Some item) e = same item.inner list (held_below item.label.elided (shelf item.inner (j ∷ path)) list e)

on_siblings : (items : Forest) (path : List ℕ) (list : Forest) → shelf items path ≡ Some list → siblings_at items path ≡ list
on_siblings items [] list e = absurd (none-some list e)
on_siblings items (k ∷ []) list e = same_Some items list e
on_siblings items (k ∷ (j ∷ path)) list e = siblings_below j path (λ i l h. on_siblings i (j ∷ path) l h) list (slice_get (nodes items) k) e

one_more : (b : Bool) (n m : ℕ) → n ≤ m → (if b then 1 else 0) + n ≤ suc m
one_more true n m h = omega arith
one_more false n m h = omega arith

many_most : (sort : Sort) (items : Forest) → how_many sort (sorts items) ≤ length (nodes items)
many_most sort Forest.nil = omega arith
many_most sort (Forest.cons label inner rest) =
    one_more (same_sort sort (sort_of label.kind)) (how_many sort (sorts rest)) (length (nodes rest)) (many_most sort rest)

none_left : (sort : Sort) (found : Option PlainNode) → option_map roomless_node found ≡ None
    → option_map_or (λ (node : PlainNode). same_sort (sort_of node.label.kind) sort) found false ≡ false
none_left sort None e = refl
none_left sort (Some node) e = absurd (none-some (roomless_node node) (sym e))

sort_found : (sort : Sort) (found : Option PlainNode)
    → option_map_or (λ (node : PlainNode). same_sort (sort_of node.label.kind) sort) (option_map roomless_node found) false
    ≡ option_map_or (λ (node : PlainNode). same_sort (sort_of node.label.kind) sort) found false
sort_found sort None = refl
sort_found sort (Some node) = refl

sort_roomless : RoomLaws → (sort : Sort) (items : Forest) (path : List ℕ) → has_sort sort (roomless items) path ≡ has_sort sort items path
sort_roomless room sort items path =
    ap (λ found. option_map_or (λ (node : PlainNode). same_sort (sort_of node.label.kind) sort) found false) (room.nodes items path)
    ∙ sort_found sort (node_at items path)

abbrev left_list : Forest → ℕ → Forest
left_list list k = give_way (λ _. []) k list

-- where the cursor may stand after a hole was dropped
stop_left : RoomLaws → SlotEditIsPathEdit → (before after : PlainTree) (at : PlainStop) (n : Node before at) (receipt : PlainReceipt)
    → IsTree before → IsSpareHole before.items at.path n.node → IsEdit TreeEdit.drop n.node.label.slot before after receipt None
    → IsStop (roomless after.items) (node_stop (path_after_drop (sort_of n.node.label.kind) after.items at.path))
stop_left room law before after at n receipt tree spare edit = by_sort (has_sort (sort_of n.node.label.kind) after.items at.path) refl
  where
    stays : (path : List ℕ) (new : PlainNode) → visible_at (edit_at (λ _. []) at.path before.items) path ≡ Some new
        → IsStop (roomless after.items) (node_stop path)
    stays path new e =
        stands_after room law before after at.path n.node (λ _. []) before.drawn (node_stop path) new tree n.there edit.became e tt

    at_number : has_sort (sort_of n.node.label.kind) after.items at.path ≡ true → (l : Forest) → shelf before.items at.path ≡ Some l
        → (found : Option PlainNode) → item_of (last_number at.path) (left_list l (last_number at.path)) ≡ found
        → IsStop (roomless after.items) (node_stop at.path)
    at_number e l on None none =
        let gone : node_at (edit_at (λ _. []) at.path before.items) at.path ≡ None =
        on_list (edit_at (λ _. []) at.path before.items) at.path (left_list l (last_number at.path))
        (shelf_after (λ _. []) before.items at.path ∙ ap (option_map (give_way (λ _. []) (last_number at.path))) on)
        ∙ none
        in
        let after_none : option_map roomless_node (node_at after.items at.path) ≡ None =
        sym (room.nodes after.items at.path)
        ∙ (ap (λ items. node_at items at.path) (items_after law before after at.path n.node (λ _. []) before.drawn tree n.there edit.became)
        ∙ (room.nodes (edit_at (λ _. []) at.path before.items) at.path ∙ ap (option_map roomless_node) gone))
        in
        absurd (false≢true (sym (none_left (sort_of n.node.label.kind) (node_at after.items at.path) after_none) ∙ e))
    at_number e l on (Some new) some = stays at.path new (seen_here (λ _. []) before.items at.path l on ∙ some)

    by_sort : (b : Bool) → has_sort (sort_of n.node.label.kind) after.items at.path ≡ b
        → IsStop (roomless after.items) (node_stop (if b then at.path else with_last pred at.path))
    by_sort true e =
        let l = shelf_of before.items at.path n.node n.seen in
        at_number e l.0 l.1 (item_of (last_number at.path) (left_list l.0 (last_number at.path))) refl
    by_sort false e =
        let l = shelf_of before.items at.path n.node n.seen in
        let many = many_most (sort_of n.node.label.kind) l.0 in
        let long : 2 ≤ length (nodes l.0) =
        omega (arith, many, subst (λ (l : Forest). 2 ≤ how_many (sort_of n.node.label.kind) (sorts l)) (on_siblings before.items at.path l.0 l.1) spare.others)
        in
        let other = other_stays (last_number at.path) l.0 n.node l.2 long in
        stays (with_last pred at.path) other.0
        (seen_beside (λ _. []) pred before.items at.path l.0 l.1 ∙ other.1)

-- what is left where a hole was dropped is a tree
pub drop_is_tree : RoomLaws → (tree after : PlainTree) (at : PlainStop) (receipt : PlainReceipt) → IsStop (roomless_tree tree).items at
    → Edits TreeEdit.drop (node_at tree.items at.path) (IsSpareHole tree.items at.path) tree after receipt → IsTree after
drop_is_tree room tree after at receipt stop edits =
    let n = node_there room tree at stop in
    let made = edit_there TreeEdit.drop (node_at tree.items at.path) (IsSpareHole tree.items at.path) tree after receipt n.node n.there edits
    in
    made.1.tree

pub drop_applied : RoomLaws → SlotEditIsPathEdit → (tree after : PlainTree) (at : PlainStop) (receipt : PlainReceipt) (stop_after : Stop) (sort : Sort)
    → IsTree tree → IsStop (roomless_tree tree).items at → at.part ≡ None
    → Edits TreeEdit.drop (node_at tree.items at.path) (IsSpareHole tree.items at.path) tree after receipt
    → Some sort ≡ option_map (λ (node : PlainNode). sort_of node.label.kind) (node_at tree.items at.path)
    → plain_stop stop_after ≡ node_stop (path_after_drop sort after.items at.path)
    → IsApplied (edited (roomless_tree tree) at PlainEdit.delete) tree after record { receipt = receipt; taken = None; stop = stop_after }
drop_applied room law tree after at receipt stop_after sort is_tree stop part edits sort_is there =
    let n = node_there room tree at stop in
    let made = edit_there TreeEdit.drop (node_at tree.items at.path) (IsSpareHole tree.items at.path) tree after receipt n.node n.there edits
    in
    let kind : Sort = sort_of n.node.label.kind in
    let same_kind : sort ≡ kind =
    same_Some sort kind (sort_is ∙ ap (option_map (λ (node : PlainNode). sort_of node.label.kind)) n.there)
    in
    let left : PlainTree = roomless_tree (tree_after TreeEdit.drop (roomless_tree tree) n.node.label.slot) in
    let left_is : roomless_tree after ≡ left = made.1.became ∙ (room.edits TreeEdit.drop TreeEdit.drop tree n.node.label.slot refl).tree in
    let stop_is : plain_stop stop_after ≡ node_stop (path_after_drop kind after.items at.path) =
    there ∙ ap (λ s. node_stop (path_after_drop s after.items at.path)) same_kind
    in
    let in_left : path_after_drop kind after.items at.path ≡ path_after_drop kind left.items at.path =
    ap (λ (b : Bool). if b then at.path else with_last pred at.path)
    (sym (sort_roomless room kind after.items at.path) ∙ ap (λ (t : PlainTree). has_sort kind t.items at.path) left_is)
    in
    applied_is room (edited (roomless_tree tree) at PlainEdit.delete) TreeEdit.drop TreeEdit.drop n.node.label.slot tree after receipt None stop_after
    (node_stop (path_after_drop kind left.items at.path)) made.1 (room.edits TreeEdit.drop TreeEdit.drop tree n.node.label.slot refl)
    (delete_if room tree at n true (spare_true room tree at n part made.0)) (stop_is ∙ ap node_stop in_left)
    (subst (λ s. IsStop (roomless after.items) s) (sym stop_is) (stop_left room law tree after at n receipt is_tree made.0 made.1)) tt
