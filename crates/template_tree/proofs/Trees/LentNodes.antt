-- A node lent at the end of two paths, the second below the first, is lent at the end of both.
use Rattle.std.specs.Prelude.{◌≡◌, refl, ℕ, List, [], ◌∷◌, ◌++◌, Option, Some, None, option_and_then, slice_get, slice_set, slice_index_or}
use Rattle.std.proofs.Common.{ap, sym, ◌∙◌}
use Rattle.std.proofs.lemmas.List.{set-get_or}
use Rattle.std.proofs.lemmas.Option.{none-some, get_or_from_slice_get}
use Rattle.template_tree.specs.Programs.PlainTree.{Label, PlainNode, PlainNodes, nodes, forest, forest_nodes, nodes_forest}
use Rattle.template_tree.specs.Positions.Path.{below}
use Rattle.template_tree.specs.Edits.Lend.{put_below, put_in, with_node_set}

-- what is there, or else the node
abbrev taken : PlainNode → Option PlainNode → PlainNode
taken node None = node
taken node (Some there) = there

-- the item through which a path goes
pub got : (o : Option PlainNode) (path : List ℕ) (node : PlainNode) → option_and_then (λ item. below item path) o ≡ Some node
    → (item : PlainNode) × (o ≡ Some item) × (below item path ≡ Some node)
got None path node e = absurd (none-some node e)
got (Some item) path node e = (item, refl, e)

-- the same through an item
pub lost_in : (front whole : List ℕ) → ((item : PlainNode) → None ≡ below item front → None ≡ below item whole)
    → (o : Option PlainNode) → None ≡ option_and_then (λ i. below i front) o → None ≡ option_and_then (λ i. below i whole) o
lost_in front whole step None e = refl
lost_in front whole step (Some item) e = step item e

-- where nothing stands, nothing stands below it
pub lost_below : (item : PlainNode) (front rest : List ℕ) → None ≡ below item front → None ≡ below item (front ++ rest)
lost_below item [] rest e = absurd (none-some item e)
lost_below item (k ∷ front) rest e = lost_in front (front ++ rest) (λ i. lost_below i front rest) (slice_get (nodes item.inner) k) e

-- the node below a node is below the item
pub joined_below : (item node : PlainNode) (front rest : List ℕ) → below item front ≡ Some node → below item (front ++ rest) ≡ below node rest
joined_below item node [] rest e = ap (λ n. below n rest) (ap (taken node) e)
joined_below item node (k ∷ front) rest e =
    let g = got (slice_get (nodes item.inner) k) front node e in
    rw g.1 (joined_below g.0 node front rest g.2)

-- putting further down, and what comes of it back, is putting at the whole path
pub put_joined : (item node new : PlainNode) (front rest : List ℕ) → below item front ≡ Some node
    → put_below front (put_below rest new node) item ≡ put_below (front ++ rest) new item
put_joined item node new [] rest e = ap (put_below rest new) (sym (ap (taken node) e))
put_joined item node new (k ∷ front) rest e =
    let g = got (slice_get (nodes item.inner) k) front node e in
    rw (get_or_from_slice_get (nodes item.inner) k g.0 (put_below rest new node) g.1, get_or_from_slice_get (nodes item.inner) k g.0 new g.1, put_joined g.0 node new front rest g.2)
    refl

-- putting back what stands there changes nothing
pub put_same : (item node : PlainNode) (path : List ℕ) → below item path ≡ Some node → put_below path node item ≡ item
put_same item node [] e = sym (ap (taken node) e)
put_same item node (k ∷ path) e =
    let g = got (slice_get (nodes item.inner) k) path node e in
    let kid : slice_index_or (nodes item.inner) k node ≡ g.0 = get_or_from_slice_get (nodes item.inner) k g.0 node g.1 in
    let inside : put_below path node (slice_index_or (nodes item.inner) k node) ≡ slice_index_or (nodes item.inner) k node =
    rw kid (put_same g.0 node path g.2)
    in
    let all : forest (slice_set (nodes item.inner) k (put_below path node (slice_index_or (nodes item.inner) k node))) ≡ item.inner =
    ap (λ i. forest (slice_set (nodes item.inner) k i)) inside
    ∙ (ap forest (set-get_or (nodes item.inner) k node) ∙ forest_nodes item.inner)
    in
    ap (λ inner. record item { inner = inner }) all

-- a node whose list of inner nodes was lent at the end of a path, with another node below one of them
abbrev pub with_below : Label → List PlainNode → ℕ → List ℕ → PlainNode → PlainNode
with_below label items middle back new =
    record { label = label; inner = forest (slice_set items middle (put_below back new (slice_index_or items middle new))) }

-- the same from a list
pub lent_twice : (list : PlainNodes) (k : ℕ) (front : List ℕ) (middle : ℕ) (back : List ℕ) (label : Label) (items : List PlainNode)
    → option_and_then (λ item. below item front) (slice_get list.items k) ≡ Some record { label = label; inner = forest items }
    → (new : PlainNode)
    → put_in list k front (with_below label items middle back new) ≡ put_in list k (front ++ (middle ∷ back)) new
lent_twice list k front middle back label items e new =
    let node : PlainNode = record { label = label; inner = forest items } in
    let g = got (slice_get list.items k) front node e in
    let same : put_below (middle ∷ back) new node ≡ with_below label items middle back new =
    ap (λ xs. record { label = label; inner = forest (slice_set xs middle (put_below back new (slice_index_or xs middle new))) }) (nodes_forest items)
    in
    rw (get_or_from_slice_get list.items k g.0 (with_below label items middle back new) g.1, get_or_from_slice_get list.items k g.0 new g.1)
    (ap (with_node_set list k) (ap (λ below_it. put_below front below_it g.0) (sym same) ∙ put_joined g.0 node new front (middle ∷ back) g.2))

-- the list is as it was where the lent node comes back as it was
pub lent_back : (list : PlainNodes) (k : ℕ) (path : List ℕ) (node : PlainNode)
    → option_and_then (λ item. below item path) (slice_get list.items k) ≡ Some node → put_in list k path node ≡ list
lent_back list k path node e =
    let g = got (slice_get list.items k) path node e in
    let kid : slice_index_or list.items k node ≡ g.0 = get_or_from_slice_get list.items k g.0 node g.1 in
    let inside : put_below path node (slice_index_or list.items k node) ≡ slice_index_or list.items k node =
    rw kid (put_same g.0 node path g.2)
    in
    ap (with_node_set list k) inside ∙ ap (λ items. record list { items = items }) (set-get_or list.items k node)

-- what stands further down is what stands at the whole path
pub found_twice : (items : List PlainNode) (k : ℕ) (front : List ℕ) (middle : ℕ) (back : List ℕ) (label : Label) (inner : List PlainNode)
    → option_and_then (λ item. below item front) (slice_get items k) ≡ Some record { label = label; inner = forest inner }
    → option_and_then (λ item. below item back) (slice_get inner middle)
    ≡ option_and_then (λ item. below item (front ++ (middle ∷ back))) (slice_get items k)
found_twice items k front middle back label inner e =
    let node : PlainNode = record { label = label; inner = forest inner } in
    let g = got (slice_get items k) front node e in
    let whole : option_and_then (λ item. below item (front ++ (middle ∷ back))) (slice_get items k) ≡ below node (middle ∷ back) =
    rw g.1 (joined_below g.0 node front (middle ∷ back) g.2)
    in
    sym (whole ∙ ap (λ xs. option_and_then (λ item. below item back) (slice_get xs middle)) (nodes_forest inner))

-- two arguments at once
pub both : {A B C : Type 0} (f : A → B → C) {a b : A} {c d : B} → a ≡ b → c ≡ d → f a c ≡ f b d
both f p q = λ i. f (p i) (q i)
