-- Lists changed by an item at the end of a path, level by level.
use Rattle.std.specs.Prelude.{◌≡◌, refl, ℕ, zero, suc, ◌<◌, ◌≤◌, List, [], ◌∷◌, length, Option, Some, None, IfSome, IfNone, IsSome, is_some, Result, Ok, Err, IfOk, IfErr, OnOk, option_and_then, slice_get, slice_set}
use Rattle.std.specs.List.{remove, insert}
use Rattle.std.specs.Option.{option_map_or}
use Rattle.std.proofs.Common.{ap, sym, ◌∙◌, subst, arith}
use Rattle.std.proofs.Math.Bool.{false≢true}
use Rattle.std.proofs.lemmas.Option.{none-some}
use Rattle.template_tree.specs.declared.side.Side.{Side}
use Rattle.template_tree.specs.Programs.PlainTree.{Label, Forest, PlainNode, PlainNodes, forest, nodes, nodes_forest, roomless, roomless_node}
use Rattle.template_tree.specs.Edits.Lend.{with_node_set, with_node_removed}
use Rattle.template_tree.specs.Positions.Path.{below, node_at}
use Rattle.template_tree.specs.Edits.Edit.{edit_at}
use Rattle.template_tree.specs.Edits.Receipt.{list_room, with_beside}
use Rattle.template_tree.proofs.Edits.SameEdits.{taken}
use Rattle.template_tree.proofs.Room.RoomlessEdits.{SameWithoutRoom, roomless_edit}

-- a node whose list was changed at a path is the node after an edit there, but for room
pub record Changed (change : PlainNode → List PlainNode) (path : List ℕ) (node new : PlainNode) : Type 0 where
  pub label : record new.label { spare = 0 } ≡ record node.label { spare = 0 }
  pub inner : roomless new.inner ≡ edit_at change path (roomless node.inner)

-- and so is the list in which it stands
pub level_up : (change : PlainNode → List PlainNode) (items : List PlainNode) (k j : ℕ) (path : List ℕ) (node new : PlainNode)
    → slice_get items k ≡ Some node → Changed change (j ∷ path) node new
    → roomless (forest (slice_set items k new)) ≡ edit_at change (k ∷ (j ∷ path)) (roomless (forest items))
level_up change [] k j path node new e c = absurd (none-some node e)
level_up change (item ∷ items) zero j path node new e c =
    let same : item ≡ node = ap (taken node) e in
    (λ i. Forest.cons (c.label i) (c.inner i) (roomless (forest items)))
    ∙ ap (λ (n : PlainNode). Forest.cons (record n.label { spare = 0 }) (edit_at change (j ∷ path) (roomless n.inner)) (roomless (forest items))) (sym same)
level_up change (item ∷ items) (suc k) j path node new e c =
    ap (Forest.cons (record item.label { spare = 0 }) (roomless item.inner)) (level_up change items k j path node new e c)

-- where no item is, nothing changes
pub no_item : (change : PlainNode → List PlainNode) (items : List PlainNode) (k : ℕ) (path : List ℕ) → slice_get items k ≡ None
    → roomless (forest items) ≡ edit_at change (k ∷ path) (roomless (forest items))
no_item change [] k path e = refl
no_item change (item ∷ items) zero path e = absurd (none-some item (sym e))
no_item change (item ∷ items) (suc k) path e =
    ap (Forest.cons (record item.label { spare = 0 }) (roomless item.inner)) (no_item change items k path e)

-- a node below an item stands in the list of the item
pub stands_below : (items : List PlainNode) (k j : ℕ) (path rest : List ℕ) (node : PlainNode) → path ≡ j ∷ rest → slice_get items k ≡ Some node
    → IsSome (node_at (forest items) (k ∷ path)) → IsSome (node_at node.inner (j ∷ rest))
stands_below items k j path rest node way e there =
    subst IsSome
    (ap (λ p. option_and_then (λ item. below item p) (slice_get (nodes (forest items)) k)) way
    ∙ ap (option_and_then (λ item. below item (j ∷ rest))) (ap (λ xs. slice_get xs k) (nodes_forest items) ∙ e))
    there

-- it has an item on the way
pub stands_in_item : (items : List PlainNode) (k : ℕ) (path : List ℕ) → slice_get items k ≡ None → IsSome (node_at (forest items) (k ∷ path)) → ⊥
stands_in_item items k path e there =
    false≢true
    (ap is_some (sym (ap (option_and_then (λ item. below item path)) (ap (λ xs. slice_get xs k) (nodes_forest items) ∙ e))) ∙ there)

-- without the item there is no room on the way
pub no_room : (spare : ℕ) (items : List PlainNode) (k j : ℕ) (path rest : List ℕ) → path ≡ j ∷ rest → slice_get items k ≡ None
    → list_room spare (forest items) (k ∷ path) ≡ 0
no_room spare items k j path rest way e =
    ap (λ p. list_room spare (forest items) (k ∷ p)) way
    ∙ ap (λ o. option_map_or (λ n. list_room n.label.spare n.inner (j ∷ rest)) o 0) (ap (λ xs. slice_get xs k) (nodes_forest items) ∙ e)

-- the room of the list at a path below an item
pub room_below : (spare : ℕ) (items : List PlainNode) (k j : ℕ) (path : List ℕ) (node : PlainNode) → slice_get items k ≡ Some node
    → list_room spare (forest items) (k ∷ (j ∷ path)) ≡ list_room node.label.spare node.inner (j ∷ path)
room_below spare items k j path node e =
    ap (λ o. option_map_or (λ n. list_room n.label.spare n.inner (j ∷ path)) o 0) (ap (λ xs. slice_get xs k) (nodes_forest items) ∙ e)

-- the same where an item was set
pub set_there : (items : List PlainNode) (k : ℕ) (node new : PlainNode) → slice_get items k ≡ Some node → slice_get (slice_set items k new) k ≡ Some new
set_there [] k node new e = absurd (none-some node e)
set_there (item ∷ items) zero node new e = refl
set_there (item ∷ items) (suc k) node new e = set_there items k node new e

-- an item taken out of a list
pub removed : (items : List PlainNode) (k : ℕ) (node : PlainNode) → slice_get items k ≡ Some node
    → roomless (forest (remove items k)) ≡ edit_at (λ _. []) (k ∷ []) (roomless (forest items))
removed [] k node e = absurd (none-some node e)
removed (item ∷ items) zero node e = refl
removed (item ∷ items) (suc k) node e = ap (Forest.cons (record item.label { spare = 0 }) (roomless item.inner)) (removed items k node e)

-- a node put in before an item, or behind it
pub put_before : (items : List PlainNode) (k : ℕ) (new : PlainNode) → k < length items
    → forest (insert items k new) ≡ edit_at (with_beside Side.Before new) (k ∷ []) (forest items)
put_before [] k new within = absurd (omega arith)
put_before (item ∷ items) zero new within = refl
put_before (item ∷ items) (suc k) new within = ap (Forest.cons item.label item.inner) (put_before items k new (omega (arith, within)))

pub put_behind : (items : List PlainNode) (k : ℕ) (new : PlainNode) → k < length items
    → forest (insert items (suc k) new) ≡ edit_at (with_beside Side.After new) (k ∷ []) (forest items)
put_behind [] k new within = absurd (omega arith)
put_behind (item ∷ items) zero new within = refl
put_behind (item ∷ items) (suc k) new within = ap (Forest.cons item.label item.inner) (put_behind items k new (omega (arith, within)))

-- where there is no item, none is put in
pub put_nowhere : (change : PlainNode → List PlainNode) (items : List PlainNode) (k : ℕ) → length items ≤ k
    → forest items ≡ edit_at change (k ∷ []) (forest items)
put_nowhere change [] k past = refl
put_nowhere change (item ∷ items) zero past = absurd (omega (arith, past))
put_nowhere change (item ∷ items) (suc k) past = ap (Forest.cons item.label item.inner) (put_nowhere change items k (omega (arith, past)))

-- a choice that is made is the choice
some_same : (o : Option PlainNode) → o ≡ option_and_then (λ item. Some item) o
some_same None = refl
some_same (Some item) = refl

-- the node at the path of one number is the item of the list
pub item_there : (items : List PlainNode) (k : ℕ) (path : List ℕ) → length path ≡ 0 → slice_get items k ≡ node_at (forest items) (k ∷ path)
item_there items k [] e =
    some_same (slice_get items k) ∙ ap (λ xs. option_and_then (λ item. Some item) (slice_get xs k)) (sym (nodes_forest items))
item_there items k (j ∷ path) e = absurd (omega (arith, e))

-- the list from which it was taken
taken_from : (o : Option PlainNode) (list new : PlainNodes) (k : ℕ) → o ≡ slice_get list.items k
    → IfSome o (λ _. new ≡ with_node_removed list k) → IfNone o (new ≡ list)
    → roomless (forest new.items) ≡ edit_at (λ _. []) (k ∷ []) (roomless (forest list.items))
taken_from None list new k e some none =
    ap (λ (l : PlainNodes). roomless (forest l.items)) none ∙ no_item (λ _. []) list.items k [] (sym e)
taken_from (Some node) list new k e some none =
    ap (λ (l : PlainNodes). roomless (forest l.items)) some ∙ removed list.items k node (sym e)

pub taken_here : (o : Option PlainNode) (list new : PlainNodes) (k : ℕ) (path : List ℕ) → length path ≡ 0 → o ≡ slice_get list.items k
    → IfSome o (λ _. new ≡ with_node_removed list k) → IfNone o (new ≡ list)
    → roomless (forest new.items) ≡ edit_at (λ _. []) (k ∷ path) (roomless (forest list.items))
taken_here o list new k [] empty e some none = taken_from o list new k e some none
taken_here o list new k (j ∷ path) empty e some none = absurd (omega (arith, empty))

-- it has room
has_room : (o : Option PlainNode) (list new : PlainNodes) (k : ℕ) → IfSome o (λ _. new ≡ with_node_removed list k) → IfSome o (λ _. 0 < new.spare)
has_room None list new k some = tt
has_room (Some node) list new k some = omega (arith, ap (λ (l : PlainNodes). l.spare) some)

pub room_here : (o : Option PlainNode) (list new : PlainNodes) (k : ℕ) (path : List ℕ) → length path ≡ 0
    → IfSome o (λ _. new ≡ with_node_removed list k) → IfSome o (λ _. 0 < list_room new.spare (forest new.items) (k ∷ path))
room_here o list new k [] empty some = has_room o list new k some
room_here o list new k (j ∷ path) empty some = absurd (omega (arith, empty))

-- the list in which a node's list was changed
pub level_of : (change : PlainNode → List PlainNode) (items : List PlainNode) (k j : ℕ) (path rest : List ℕ) (node new : PlainNode)
    → path ≡ j ∷ rest → slice_get items k ≡ Some node → Changed change (j ∷ rest) node new
    → roomless (forest (slice_set items k new)) ≡ edit_at change (k ∷ path) (roomless (forest items))
level_of change items k j path rest node new way e c =
    level_up change items k j rest node new e c ∙ ap (λ p. edit_at change (k ∷ p) (roomless (forest items))) (sym way)

-- an item set to itself
pub set_same : (items : List PlainNode) (k : ℕ) (node new : PlainNode) → slice_get items k ≡ Some node → new ≡ node → slice_set items k new ≡ items
set_same [] k node new e same = refl
set_same (item ∷ items) zero node new e same =
    let there : item ≡ node = ap (taken node) e in ap (λ n. n ∷ items) (same ∙ sym there)
set_same (item ∷ items) (suc k) node new e same = ap (λ rest. item ∷ rest) (set_same items k node new e same)

-- a list is as it was where the list of an item is
pub list_same : (list : PlainNodes) (k : ℕ) (label : Label) (before after : PlainNodes) (node : PlainNode)
    → slice_get list.items k ≡ Some node
    → node ≡ record { label = record label { spare = before.spare }; inner = forest before.items } → after ≡ before
    → with_node_set list k record { label = record label { spare = after.spare }; inner = forest after.items } ≡ list
list_same list k label before after node e node_is same =
    let new : PlainNode = record { label = record label { spare = after.spare }; inner = forest after.items } in
    let back : new ≡ node =
    ap (λ (l : PlainNodes). let n : PlainNode = record { label = record label { spare = l.spare }; inner = forest l.items } in n) same
    ∙ sym node_is
    in
    ap (λ items. let l : PlainNodes = record { items = items; spare = list.spare } in l) (set_same list.items k node new e back)

-- where nothing was taken out of the list of an item, the list is as it was
pub none_same : {A : Type 0} (o : Option A) (list : PlainNodes) (k : ℕ) (label : Label) (before after : PlainNodes) (node : PlainNode)
    → slice_get list.items k ≡ Some node
    → node ≡ record { label = record label { spare = before.spare }; inner = forest before.items } → IfNone o (after ≡ before)
    → IfNone o (with_node_set list k record { label = record label { spare = after.spare }; inner = forest after.items } ≡ list)
none_same None list k label before after node e node_is same = list_same list k label before after node e node_is same
none_same (Some a) list k label before after node e node_is same = tt

-- the room that a list below an item has
pub room_up : (spare : ℕ) (items : List PlainNode) (k j : ℕ) (path rest : List ℕ) (node new : PlainNode) → path ≡ j ∷ rest
    → slice_get items k ≡ Some node
    → list_room spare (forest (slice_set items k new)) (k ∷ path) ≡ list_room new.label.spare new.inner (j ∷ rest)
room_up spare items k j path rest node new way e =
    ap (λ p. list_room spare (forest (slice_set items k new)) (k ∷ p)) way
    ∙ room_below spare (slice_set items k new) k j rest new (set_there items k node new e)

pub some_room : {A : Type 0} (o : Option A) (one other : ℕ) → one ≡ other → IfSome o (λ _. 0 < other) → IfSome o (λ _. 0 < one)
some_room None one other same h = tt
some_room (Some a) one other same h = omega (arith, same, h)

-- a node beside another, with and without room
pub beside_same : (side : Side) (node : PlainNode) → SameWithoutRoom (with_beside side node) (with_beside side (roomless_node node))
beside_same Side.Before node = λ item. refl
beside_same Side.After node = λ item. refl

-- a list into which a node was put beside an item
pub beside_here : (side : Side) (node : PlainNode) (new items : Forest) (k : ℕ) (path : List ℕ) → length path ≡ 0
    → new ≡ edit_at (with_beside side node) (k ∷ []) items
    → roomless new ≡ edit_at (with_beside side (roomless_node node)) (k ∷ path) (roomless items)
beside_here side node new items k [] empty e =
    ap roomless e ∙ roomless_edit (with_beside side node) (with_beside side (roomless_node node)) (beside_same side node) (k ∷ []) items
beside_here side node new items k (j ∷ path) empty e = absurd (omega (arith, empty))

-- where a list below an item has room
pub room_of : (spare : ℕ) (items : List PlainNode) (k j : ℕ) (path rest : List ℕ) (node : PlainNode) → path ≡ j ∷ rest
    → slice_get items k ≡ Some node → list_room spare (forest items) (k ∷ path) ≡ list_room node.label.spare node.inner (j ∷ rest)
room_of spare items k j path rest node way e =
    ap (λ p. list_room spare (forest items) (k ∷ p)) way ∙ room_below spare items k j rest node e

-- a list at the end of a path has room
pub room_at_end : (spare : ℕ) (items : Forest) (k : ℕ) (path : List ℕ) → length path ≡ 0 → list_room spare items (k ∷ path) ≡ spare
room_at_end spare items k [] empty = refl
room_at_end spare items k (j ∷ path) empty = absurd (omega (arith, empty))

-- where something was put into the list of an item
pub level_ok : {A B : Type 0} (o : Result A B) (change : PlainNode → List PlainNode) (items : List PlainNode) (k j : ℕ) (path rest : List ℕ) (node new : PlainNode)
    → path ≡ j ∷ rest → slice_get items k ≡ Some node → record new.label { spare = 0 } ≡ record node.label { spare = 0 }
    → IfOk o (λ _. roomless new.inner ≡ edit_at change (j ∷ rest) (roomless node.inner))
    → IfOk o (λ _. roomless (forest (slice_set items k new)) ≡ edit_at change (k ∷ path) (roomless (forest items)))
level_ok (Ok a) change items k j path rest node new way e same h = level_of change items k j path rest node new way e record { label = same; inner = h }
level_ok (Err b) change items k j path rest node new way e same h = tt

-- where nothing was put in, the list is as it was
pub err_same : {A B : Type 0} (o : Result A B) (list : PlainNodes) (k : ℕ) (label : Label) (before after : PlainNodes) (node : PlainNode)
    → slice_get list.items k ≡ Some node
    → node ≡ record { label = record label { spare = before.spare }; inner = forest before.items } → IfErr o (λ _. after ≡ before)
    → IfErr o (λ _. with_node_set list k record { label = record label { spare = after.spare }; inner = forest after.items } ≡ list)
err_same (Ok a) list k label before after node e node_is same = tt
err_same (Err b) list k label before after node e node_is same = list_same list k label before after node e node_is same

-- where a list at the end of a path has room
pub room_where : {A B : Type 0} (o : Result A B) (one other : ℕ) → one ≡ other → OnOk o (0 < other) → OnOk o (0 < one)
room_where (Ok a) one other same h = omega (arith, same, h)
room_where (Err b) one other same h = tt

-- nothing but the room of the list of an item is changed
pub room_alone : (items : List PlainNode) (k : ℕ) (node new : PlainNode) → slice_get items k ≡ Some node → roomless_node new ≡ roomless_node node
    → roomless (forest (slice_set items k new)) ≡ roomless (forest items)
room_alone [] k node new e same = absurd (none-some node e)
room_alone (item ∷ items) zero node new e same =
    let there : item ≡ node = ap (taken node) e in
    ap (λ (n : PlainNode). Forest.cons n.label n.inner (roomless (forest items))) (same ∙ ap roomless_node (sym there))
room_alone (item ∷ items) (suc k) node new e same =
    ap (Forest.cons (record item.label { spare = 0 }) (roomless item.inner)) (room_alone items k node new e same)
