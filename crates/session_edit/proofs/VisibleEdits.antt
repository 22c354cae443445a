-- What is visible after an edit at a path.
use Rattle.std.specs.Prelude.{◌≡◌, refl, ℕ, zero, suc, pred, ◌≤◌, Bool, true, false, if◌then◌else◌, List, [], ◌∷◌, length, Option, Some, None, option_map, option_and_then, slice_get}
use Rattle.std.proofs.Common.{ap, sym, ◌∙◌, arith}
use Rattle.std.proofs.lemmas.Option.{none-some}
use Rattle.template_tree.specs.Programs.PlainTree.{Forest, PlainNode, nodes, forest, join}
use Rattle.template_tree.specs.Edits.Edit.{edit_at, give_way}
use Rattle.template_tree.specs.Positions.Path.{below, node_at, with_last}
use Rattle.template_tree.specs.Positions.Stop.{visible_below, visible_at}

-- the last number of a path
abbrev pub last_number : List ℕ → ℕ
last_number [] = 0
last_number (k ∷ []) = k
last_number (k ∷ (j ∷ path)) = last_number (j ∷ path)

-- the nodes among which the node at a path stands, where nothing on the way is elided
abbrev pub shelf : Forest → List ℕ → Option Forest
shelf items [] = None
shelf items (k ∷ []) = Some items
shelf items (k ∷ (j ∷ path)) =
    option_and_then (λ item. if item.label.elided then None else shelf item.inner (j ∷ path)) (slice_get (nodes items) k)

-- the item of this number among nodes
abbrev pub item_of : ℕ → Forest → Option PlainNode
item_of k items = slice_get (nodes items) k

itself : (found : Option PlainNode) → option_and_then (λ item. visible_below item []) found ≡ found
itself None = refl
itself (Some node) = refl

unless_elided : (b : Bool) (one : Option PlainNode) (other : Option Forest) (k : ℕ) → one ≡ option_and_then (item_of k) other
    → (if b then None else one) ≡ option_and_then (item_of k) (if b then None else other)
unless_elided true one other k same = refl
unless_elided false one other k same = same

on_shelf_below : (j : ℕ) (path : List ℕ) (k : ℕ)
    → ((items : Forest) → visible_at items (j ∷ path) ≡ option_and_then (item_of k) (shelf items (j ∷ path)))
    → (found : Option PlainNode)
    → option_and_then (λ item. visible_below item (j ∷ path)) found
    ≡ option_and_then (item_of k) (option_and_then (λ item. if item.label.elided then None else shelf item.inner (j ∷ path)) found)
on_shelf_below j path k same None = refl
on_shelf_below j path k same (Some item) =
    unless_elided item.label.elided (visible_at item.inner (j ∷ path)) (shelf item.inner (j ∷ path)) k (same item.inner)

-- the visible node at a path is the one of its last number there
on_shelf : (items : Forest) (path : List ℕ) → visible_at items path ≡ option_and_then (item_of (last_number path)) (shelf items path)
on_shelf items [] = refl
on_shelf items (k ∷ []) = itself (slice_get (nodes items) k)
on_shelf items (k ∷ (j ∷ path)) =
    on_shelf_below j path (last_number (j ∷ path)) (λ inner. on_shelf inner (j ∷ path)) (slice_get (nodes items) k)

-- a node that gives way to another one
gives_one : (change : PlainNode → PlainNode) (k : ℕ) (items : Forest)
    → slice_get (nodes (give_way (λ node. change node ∷ []) k items)) k ≡ option_map change (slice_get (nodes items) k)
gives_one change k Forest.nil = refl
gives_one change zero (Forest.cons label inner rest) = refl
gives_one change (suc k) (Forest.cons label inner rest) = gives_one change k rest

shelf_unless : (b : Bool) (give : Forest → Forest) (one other : Option Forest) → one ≡ option_map give other
    → (if b then None else one) ≡ option_map give (if b then None else other)
shelf_unless true give one other same = refl
shelf_unless false give one other same = same

shelf_below : (change : PlainNode → List PlainNode) (j : ℕ) (path : List ℕ) (give : Forest → Forest)
    → ((items : Forest) → shelf (edit_at change (j ∷ path) items) (j ∷ path) ≡ option_map give (shelf items (j ∷ path)))
    → (found : Option PlainNode)
    → option_and_then (λ item. if item.label.elided then None else shelf item.inner (j ∷ path))
    (option_map (λ (item : PlainNode). let new : PlainNode = record item { inner = edit_at change (j ∷ path) item.inner } in new) found)
    ≡ option_map give (option_and_then (λ item. if item.label.elided then None else shelf item.inner (j ∷ path)) found)
shelf_below change j path give same None = refl
shelf_below change j path give same (Some item) =
    shelf_unless item.label.elided give (shelf (edit_at change (j ∷ path) item.inner) (j ∷ path)) (shelf item.inner (j ∷ path)) (same item.inner)

-- the nodes among which a path leads after the edit at it
pub shelf_after : (change : PlainNode → List PlainNode) (items : Forest) (path : List ℕ)
    → shelf (edit_at change path items) path ≡ option_map (give_way change (last_number path)) (shelf items path)
shelf_after change items [] = refl
shelf_after change items (k ∷ []) = refl
shelf_after change items (k ∷ (j ∷ path)) =
    ap (option_and_then (λ item. if item.label.elided then None else shelf item.inner (j ∷ path)))
    (gives_one (λ item. record item { inner = edit_at change (j ∷ path) item.inner }) k items)
    ∙ shelf_below change j path (give_way change (last_number (j ∷ path))) (λ inner. shelf_after change inner (j ∷ path)) (slice_get (nodes items) k)

same_after : (one other : PlainNode → Option Forest) → ((node : PlainNode) → one node ≡ other node) → (found : Option PlainNode)
    → option_and_then one found ≡ option_and_then other found
same_after one other same None = refl
same_after one other same (Some node) = same node

if_else : (b : Bool) (one other : Option Forest) → one ≡ other → (if b then None else one) ≡ (if b then None else other)
if_else true one other same = refl
if_else false one other same = same

-- a path with another last number leads among the same nodes
shelf_last : (change : ℕ → ℕ) (items : Forest) (path : List ℕ) → shelf items (with_last change path) ≡ shelf items path
shelf_last change items [] = refl
shelf_last change items (k ∷ []) = refl
shelf_last change items (k ∷ (j ∷ [])) = refl
shelf_last change items (k ∷ (j ∷ (m ∷ path))) =
    same_after (λ item. if item.label.elided then None else shelf item.inner (with_last change (j ∷ (m ∷ path))))
    (λ item. if item.label.elided then None else shelf item.inner (j ∷ (m ∷ path)))
    (λ item. if_else item.label.elided (shelf item.inner (with_last change (j ∷ (m ∷ path)))) (shelf item.inner (j ∷ (m ∷ path)))
    (shelf_last change item.inner (j ∷ (m ∷ path))))
    (slice_get (nodes items) k)

last_changed : (change : ℕ → ℕ) (k : ℕ) (path : List ℕ) → last_number (with_last change (k ∷ path)) ≡ change (last_number (k ∷ path))
last_changed change k [] = refl
last_changed change k (j ∷ []) = refl
last_changed change k (j ∷ (m ∷ path)) = last_changed change j (m ∷ path)

-- what is visible where an edit was made
pub seen_here : (change : PlainNode → List PlainNode) (items : Forest) (path : List ℕ) (list : Forest)
    → shelf items path ≡ Some list
    → visible_at (edit_at change path items) path ≡ item_of (last_number path) (give_way change (last_number path) list)
seen_here change items path list e =
    on_shelf (edit_at change path items) path
    ∙ ap (option_and_then (item_of (last_number path))) (shelf_after change items path ∙ ap (option_map (give_way change (last_number path))) e)

-- what is visible beside the place of an edit
pub seen_beside : (change : PlainNode → List PlainNode) (beside : ℕ → ℕ) (items : Forest) (path : List ℕ) (list : Forest)
    → shelf items path ≡ Some list
    → visible_at (edit_at change path items) (with_last beside path) ≡ item_of (beside (last_number path)) (give_way change (last_number path) list)
seen_beside change beside items [] list e = absurd (none-some list e)
seen_beside change beside items (k ∷ path) list e =
    on_shelf (edit_at change (k ∷ path) items) (with_last beside (k ∷ path))
    ∙ (ap (λ found. option_and_then (item_of (last_number (with_last beside (k ∷ path)))) found)
    (shelf_last beside (edit_at change (k ∷ path) items) (k ∷ path)
    ∙ (shelf_after change items (k ∷ path) ∙ ap (option_map (give_way change (last_number (k ∷ path)))) e))
    ∙ ap (λ n. item_of n (give_way change (last_number (k ∷ path)) list)) (last_changed beside k path))

-- the nodes among which a visible node stands
pub shelf_of : (items : Forest) (path : List ℕ) (node : PlainNode) → visible_at items path ≡ Some node
    → (list : Forest) × (shelf items path ≡ Some list) × (item_of (last_number path) list ≡ Some node)
shelf_of items path node e = on_some (shelf items path) refl (sym (on_shelf items path) ∙ e)
  where
    on_some : (found : Option Forest) → shelf items path ≡ found → option_and_then (item_of (last_number path)) found ≡ Some node
        → (list : Forest) × (shelf items path ≡ Some list) × (item_of (last_number path) list ≡ Some node)
    on_some None same e = absurd (none-some node e)
    on_some (Some list) same e = (list, same, e)

in_front : (list : List PlainNode) (new : PlainNode) (others : List PlainNode) (rest : Forest) → list ≡ new ∷ others
    → slice_get (nodes (join (forest list) rest)) 0 ≡ Some new
in_front list new others rest e = rw e refl

second : (list : List PlainNode) (first new : PlainNode) (rest : Forest) → list ≡ first ∷ (new ∷ [])
    → slice_get (nodes (join (forest list) rest)) 1 ≡ Some new
second list first new rest e = rw e refl

abbrev or_node : PlainNode → Option PlainNode → PlainNode
or_node node None = node
or_node node (Some there) = there

-- a node gives way: the first of what comes stands in its place
pub first_comes : (change : PlainNode → List PlainNode) (k : ℕ) (items : Forest) (node new : PlainNode) (others : List PlainNode)
    → item_of k items ≡ Some node → change node ≡ new ∷ others → item_of k (give_way change k items) ≡ Some new
first_comes change k Forest.nil node new others e came = absurd (none-some node e)
first_comes change zero (Forest.cons label inner rest) node new others e came =
    in_front (change record { label = label; inner = inner }) new others rest (ap (λ found. change (or_node node found)) e ∙ came)
first_comes change (suc k) (Forest.cons label inner rest) node new others e came = first_comes change k rest node new others e came

-- a node gives way: the second of what comes stands behind its place
pub second_comes : (change : PlainNode → List PlainNode) (k : ℕ) (items : Forest) (node first new : PlainNode)
    → item_of k items ≡ Some node → change node ≡ first ∷ (new ∷ []) → item_of (suc k) (give_way change k items) ≡ Some new
second_comes change k Forest.nil node first new e came = absurd (none-some node e)
second_comes change zero (Forest.cons label inner rest) node first new e came =
    second (change record { label = label; inner = inner }) first new rest (ap (λ found. change (or_node node found)) e ∙ came)
second_comes change (suc k) (Forest.cons label inner rest) node first new e came = second_comes change k rest node first new e came

-- a node was found
abbrev pub IsHeld : Option PlainNode → Type 0
IsHeld found = (node : PlainNode) × (found ≡ Some node)

-- where an item goes from a list of two or more, another stands before its place, or at it if it was the first
pub other_stays : (k : ℕ) (items : Forest) (node : PlainNode) → item_of k items ≡ Some node → 2 ≤ length (nodes items)
    → IsHeld (item_of (pred k) (give_way (λ _. []) k items))
other_stays k Forest.nil node e long = absurd (none-some node e)
other_stays zero (Forest.cons label inner Forest.nil) node e long = absurd (omega arith)
other_stays zero (Forest.cons label inner (Forest.cons label' inner' rest)) node e long = (record { label = label'; inner = inner' }, refl)
other_stays (suc zero) (Forest.cons label inner rest) node e long = (record { label = label; inner = inner }, refl)
other_stays (suc (suc k)) (Forest.cons label inner rest) node e long = stays k rest node e
  where
    stays : (k : ℕ) (items : Forest) (node : PlainNode) → item_of (suc k) items ≡ Some node
        → IsHeld (item_of k (give_way (λ _. []) (suc k) items))
    stays k Forest.nil node e = absurd (none-some node e)
    stays zero (Forest.cons label inner rest) node e = (record { label = label; inner = inner }, refl)
    stays (suc k) (Forest.cons label inner rest) node e = stays k rest node e

-- a visible node is the one at its path
pub visible_node : (items : Forest) (path : List ℕ) (node : PlainNode) → visible_at items path ≡ Some node → node_at items path ≡ Some node
visible_node items [] node e = e
visible_node items (k ∷ path) node e = in_item path (visible_in path) (slice_get (nodes items) k) node e
  where
    in_item : (path : List ℕ) → ((item node : PlainNode) → visible_below item path ≡ Some node → below item path ≡ Some node)
        → (found : Option PlainNode) (node : PlainNode)
        → option_and_then (λ item. visible_below item path) found ≡ Some node → option_and_then (λ item. below item path) found ≡ Some node
    in_item path same None node e = absurd (none-some node e)
    in_item path same (Some item) node e = same item node e

    shown : (b : Bool) (found : Option PlainNode) (node : PlainNode) → (if b then None else found) ≡ Some node → found ≡ Some node
    shown true found node e = absurd (none-some node e)
    shown false found node e = e

    visible_in : (path : List ℕ) (item node : PlainNode) → visible_below item path ≡ Some node → below item path ≡ Some node
    visible_in [] item node e = e
    visible_in (k ∷ path) item node e =
        in_item path (visible_in path) (slice_get (nodes item.inner) k) node
        (shown item.label.elided (option_and_then (λ i. visible_below i path) (slice_get (nodes item.inner) k)) node e)
