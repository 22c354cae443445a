-- Paths of visible nodes, one after the other in listing order.
use Rattle.std.specs.Prelude.{◌≡◌, ℕ, ◌+◌, false, if◌then◌else◌, List, [], ◌∷◌, Option, None, option_and_then, option_map, slice_get, IsSomeAnd}
use Rattle.std.specs.Option.{option_map_or, option_or}
use Rattle.template_tree.specs.Programs.PlainTree.{Forest, PlainNode, nodes}
use Rattle.template_tree.specs.Positions.Stop.{visible_at}

-- the nodes inside the item of this number, among which a next path goes on
abbrev pub inner_of : Forest → ℕ → Forest
inner_of items k = option_map_or (λ item. item.inner) (slice_get (nodes items) k) Forest.nil

-- the next path behind an item: that of the item behind the one of this number, if there is one
abbrev pub item_behind : Forest → ℕ → Option (List ℕ)
item_behind items k = option_map (λ _. (k + 1) ∷ []) (slice_get (nodes items) (k + 1))

-- the next path where it leads into a node: that of the node's first visible item, if there is one
abbrev pub first_inside : PlainNode → Option (List ℕ)
first_inside node = if node.label.elided then None else option_map (λ _. 0 ∷ []) (slice_get (nodes node.inner) 0)

-- the path of what comes behind the node at the path: this, which stands in it, or else the next item of the innermost
-- list that has one
abbrev pub next_with : Option (List ℕ) → Forest → List ℕ → Option (List ℕ)
next_with inside items [] = inside
next_with inside items (k ∷ path) =
    option_or (option_map (λ way. k ∷ way) (next_with inside (inner_of items k) path)) (item_behind items k)

-- the path of the visible node that comes next in listing order behind the one at the path
abbrev pub next_of : Forest → List ℕ → Option (List ℕ)
next_of items path = option_and_then (λ node. next_with (first_inside node) items path) (visible_at items path)

-- the path leads on to a next one: there is a node at each step of it
abbrev pub LeadsOn : Forest → List ℕ → Type 0
LeadsOn items [] = Unit {0}
LeadsOn items (k ∷ path) = IsSomeAnd (slice_get (nodes items) k) (λ item. LeadsOn item.inner path)

-- the path leads from the node to the last visible node in it, or nowhere where there is none
abbrev pub IsLastBelow : PlainNode → List ℕ → Type 0
IsLastBelow node [] = first_inside node ≡ None
IsLastBelow node (k ∷ path) =
    (node.label.elided ≡ false)
    × (slice_get (nodes node.inner) (k + 1) ≡ None)
    × IsSomeAnd (slice_get (nodes node.inner) k) (λ item. IsLastBelow item path)
