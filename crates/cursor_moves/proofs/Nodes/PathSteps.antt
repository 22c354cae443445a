-- Paths one step longer, and the last node below a node.
use Rattle.std.specs.Prelude.{◌≡◌, refl, ℕ, zero, suc, ◌+◌, ◌<◌, ◌≤◌, max, Bool, true, false, if◌then◌else◌, List, [], ◌∷◌, ◌++◌, length, Option, Some, None, option_and_then, option_map, slice_get, IsSomeAnd}
use Rattle.std.specs.Option.{option_map_or, option_or}
use Rattle.std.proofs.Common.{ap, sym, ◌∙◌, subst, arith}
use Rattle.std.proofs.lemmas.Option.{none-some, same_Some}
use Rattle.template_tree.specs.Programs.PlainTree.{Forest, PlainNode, nodes}
use Rattle.template_tree.specs.Positions.Path.{below, node_at}
use Rattle.template_tree.specs.Programs.Slots.{count, depth}
use Rattle.template_tree.specs.Positions.Stop.{visible_at, visible_below}
use Rattle.cursor_moves.specs.Private.NextPath.{LeadsOn, inner_of, item_behind, next_with}
use Rattle.cursor_moves.proofs.ListEnds.{map_map, map_or, or_assoc}

-- the node that is there
pub there : {X : Type 0} (P : X → Type 0) (o : Option X) → IsSomeAnd o P → (x : X) × (o ≡ Some x) × P x
there P None h = absurd h
there P (Some x) h = (x, refl, h)

-- what a function gives of the node that is there
pub stepped : {X Y : Type 0} (f : X → Option Y) (o : Option X) (y : Y) → option_and_then f o ≡ Some y → (x : X) × (o ≡ Some x) × (f x ≡ Some y)
stepped f None y e = absurd (none-some y e)
stepped f (Some x) y e = (x, refl, e)

-- what stands below a node that isn't elided
pub opened : {Y : Type 0} (elided : Bool) (o : Option Y) (y : Y) → (if elided then None else o) ≡ Some y → (elided ≡ false) × (o ≡ Some y)
opened true o y e = absurd (none-some y e)
opened false o y e = (refl, e)

-- a visible node is there
pub below_seen : (node : PlainNode) (path : List ℕ) (seen : PlainNode) → visible_below node path ≡ Some seen → below node path ≡ Some seen
below_seen node [] seen e = e
below_seen node (k ∷ path) seen e =
    let open_there = opened node.label.elided (option_and_then (λ item. visible_below item path) (slice_get (nodes node.inner) k)) seen e in
    let item = stepped (λ item. visible_below item path) (slice_get (nodes node.inner) k) seen open_there.1 in
    rw (item.1) (below_seen item.0 path seen item.2)

pub seen : (items : Forest) (path : List ℕ) (node : PlainNode) → visible_at items path ≡ Some node → node_at items path ≡ Some node
seen items [] node e = absurd (none-some node e)
seen items (k ∷ path) node e =
    let item = stepped (λ item. visible_below item path) (slice_get (nodes items) k) node e in
    rw (item.1) (below_seen item.0 path node item.2)

-- there is a node at each step of the path to one
leads_below : (node : PlainNode) (path : List ℕ) (end : PlainNode) → below node path ≡ Some end → LeadsOn node.inner path
leads_below node [] end e = tt
leads_below node (k ∷ path) end e =
    let item = stepped (λ item. below item path) (slice_get (nodes node.inner) k) end e in
    rw (item.1) (leads_below item.0 path end item.2)

pub leads_to : (items : Forest) (path : List ℕ) (node : PlainNode) → node_at items path ≡ Some node → LeadsOn items path
leads_to items [] node e = tt
leads_to items (k ∷ path) node e =
    let item = stepped (λ item. below item path) (slice_get (nodes items) k) node e in
    rw (item.1) (leads_below item.0 path node item.2)

-- an item has fewer nodes inside it than its list has, and they are less deep
pub item_smaller : (items : Forest) (k : ℕ) (item : PlainNode) → slice_get (nodes items) k ≡ Some item
    → (k + count item.inner < count items) × (depth item.inner < depth items)
item_smaller Forest.nil k item e = absurd (none-some item e)
item_smaller (Forest.cons label inner rest) zero item e =
    let same : record { label = label; inner = inner } ≡ item = same_Some _ item e in
    subst (λ (node : PlainNode). (0 + count node.inner < count inner + count rest + 1) × (depth node.inner < max (depth inner + 1) (depth rest)))
    same (omega arith, omega arith)
item_smaller (Forest.cons label inner rest) (suc k) item e =
    let smaller = item_smaller rest k item e in (omega (arith, smaller.0), omega (arith, smaller.1))

-- a path one step shorter leads on too, and the last number is less than the number of nodes
pub leads_shorter : (items : Forest) (path : List ℕ) (k : ℕ) → LeadsOn items (path ++ k ∷ []) → LeadsOn items path × (k < count items)
leads_shorter items [] k h =
    let item = there (λ item. Unit {0}) (slice_get (nodes items) k) h in
    let smaller = item_smaller items k item.0 item.1 in
    (tt, omega (arith, smaller.0))
leads_shorter items (j ∷ path) k h =
    let item = there (λ item. LeadsOn item.inner (path ++ k ∷ [])) (slice_get (nodes items) j) h in
    let smaller = item_smaller items j item.0 item.1 in
    let inner = leads_shorter item.0.inner path k item.2 in
    (rw (item.1) inner.0, omega (arith, smaller.0, inner.1))

-- a path is no longer than the nodes are deep
below_shallow : (node : PlainNode) (path : List ℕ) (end : PlainNode) → below node path ≡ Some end → length path + depth end.inner ≤ depth node.inner
below_shallow node [] end e = let same = same_Some node end e in omega (arith, ap (λ (n : PlainNode). depth n.inner) same)
below_shallow node (k ∷ path) end e =
    let item = stepped (λ item. below item path) (slice_get (nodes node.inner) k) end e in
    let smaller = item_smaller node.inner k item.0 item.1 in
    omega (arith, smaller.1, below_shallow item.0 path end item.2)

pub path_shallow : (items : Forest) (path : List ℕ) (node : PlainNode) → node_at items path ≡ Some node → length path + depth node.inner ≤ depth items
path_shallow items [] node e = absurd (none-some node e)
path_shallow items (k ∷ path) node e =
    let item = stepped (λ item. below item path) (slice_get (nodes items) k) node e in
    let smaller = item_smaller items k item.0 item.1 in
    omega (arith, smaller.1, below_shallow item.0 path node item.2)

-- what stands inside an item, one step on
inner_item : (o : Option PlainNode) (path : List ℕ) (k : ℕ)
    → option_and_then (λ item. below item (path ++ k ∷ [])) o ≡ node_at (option_map_or (λ item. item.inner) o Forest.nil) (path ++ k ∷ [])
inner_item None [] k = refl
inner_item None (j ∷ path) k = refl
inner_item (Some item) [] k = refl
inner_item (Some item) (j ∷ path) k = refl

-- what stands inside the item of a number, one step on
inner_step : (items : Forest) (j : ℕ) (path : List ℕ) (k : ℕ) → node_at items (j ∷ (path ++ k ∷ [])) ≡ node_at (inner_of items j) (path ++ k ∷ [])
inner_step items j path k = inner_item (slice_get (nodes items) j) path k

-- the next item of the program
first_climbed : (o : Option PlainNode) (k : ℕ)
    → option_map (λ _. (k + 1) ∷ []) o ≡ option_or (option_map (λ _. (k + 1) ∷ []) (option_and_then (λ item. below item []) o)) None
first_climbed None k = refl
first_climbed (Some item) k = refl

-- behind a path: the next item, or else what is behind the path one step shorter
pub climbed : (items : Forest) (path : List ℕ) (k : ℕ)
    → next_with None items (path ++ k ∷ [])
    ≡ option_or (option_map (λ _. path ++ (k + 1) ∷ []) (node_at items (path ++ (k + 1) ∷ []))) (next_with None items path)
climbed items [] k = first_climbed (slice_get (nodes items) (k + 1)) k
climbed items (j ∷ path) k =
    let inner = inner_of items j in
    let next = node_at inner (path ++ (k + 1) ∷ []) in
    let onto : List ℕ → List ℕ = λ way. j ∷ way in
    ap (λ o. option_or (option_map onto o) (item_behind items j)) (climbed inner path k)
    ∙ ap (λ o. option_or o (item_behind items j)) (map_or onto (option_map (λ _. path ++ (k + 1) ∷ []) next) (next_with None inner path))
    ∙ or_assoc (option_map onto (option_map (λ _. path ++ (k + 1) ∷ []) next)) (option_map onto (next_with None inner path)) (item_behind items j)
    ∙ ap (λ o. option_or o (next_with None items (j ∷ path)))
    (map_map onto (λ _. path ++ (k + 1) ∷ []) next ∙ ap (option_map (λ _. j ∷ (path ++ (k + 1) ∷ []))) (sym (inner_step items j path (k + 1))))

-- what stands first inside the node at a path comes next
pub entered : (way : List ℕ) (items : Forest) (path : List ℕ) → next_with (Some way) items path ≡ Some (path ++ way)
entered way items [] = refl
entered way items (k ∷ path) = ap (λ o. option_or (option_map (λ way. k ∷ way) o) (item_behind items k)) (entered way (inner_of items k) path)

-- a path that leads on is no longer than the nodes are deep
pub leads_shallow : (items : Forest) (path : List ℕ) → LeadsOn items path → length path ≤ depth items
leads_shallow items [] h = omega arith
leads_shallow items (k ∷ path) h =
    let item = there (λ item. LeadsOn item.inner path) (slice_get (nodes items) k) h in
    let smaller = item_smaller items k item.0 item.1 in
    omega (arith, smaller.1, leads_shallow item.0.inner path item.2)

-- where the next item is there, it comes behind
pub climbed_to : (items : Forest) (whole path : List ℕ) (k : ℕ) (node : PlainNode) → whole ≡ path ++ k ∷ []
    → node_at items (path ++ (k + 1) ∷ []) ≡ Some node → next_with None items whole ≡ Some (path ++ (k + 1) ∷ [])
climbed_to items whole path k node whole_is e =
    ap (next_with None items) whole_is
    ∙ climbed items path k
    ∙ ap (λ o. option_or (option_map (λ _. path ++ (k + 1) ∷ []) o) (next_with None items path)) e

-- where it isn't, what comes behind is that of the path one step shorter
pub climbed_on : (items : Forest) (whole path : List ℕ) (k : ℕ) → whole ≡ path ++ k ∷ []
    → node_at items (path ++ (k + 1) ∷ []) ≡ None → next_with None items whole ≡ next_with None items path
climbed_on items whole path k whole_is e =
    ap (next_with None items) whole_is
    ∙ climbed items path k
    ∙ ap (λ o. option_or (option_map (λ _. path ++ (k + 1) ∷ []) o) (next_with None items path)) e

-- there are no more items than nodes
pub items_few : (items : Forest) → length (nodes items) ≤ count items
items_few Forest.nil = omega arith
items_few (Forest.cons label inner rest) = omega (arith, items_few rest)
