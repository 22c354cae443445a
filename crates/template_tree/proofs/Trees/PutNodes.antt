-- Putting a node below an item is the edit at the path.
use Rattle.std.specs.Prelude.{◌≡◌, refl, ℕ, zero, suc, List, [], ◌∷◌, option_and_then, slice_get, slice_set, slice_index_or}
use Rattle.std.proofs.Common.{ap, sym, ◌∙◌}
use Rattle.template_tree.specs.Programs.PlainTree.{Forest, PlainNode, PlainNodes, PlainTree, nodes, forest, forest_nodes, nodes_forest}
use Rattle.template_tree.specs.Positions.Path.{below, node_at}
use Rattle.template_tree.specs.Edits.Edit.{give_way, edit_below, edit_at}
use Rattle.template_tree.specs.Edits.Lend.{put_below, put_in, with_node}

-- an item is set where it gives way to one item
pub set_is_give_way : (change : PlainNode → List PlainNode) (put : PlainNode → PlainNode)
    → ((node : PlainNode) → change node ≡ put node ∷ []) → (items : Forest) (k : ℕ) (else_node : PlainNode)
    → forest (slice_set (nodes items) k (put (slice_index_or (nodes items) k else_node))) ≡ give_way change k items
set_is_give_way change put one Forest.nil k else_node = refl
set_is_give_way change put one (Forest.cons label inner rest) zero else_node =
    let node : PlainNode = record { label = label; inner = inner } in
    rw (one node, forest_nodes rest) refl
set_is_give_way change put one (Forest.cons label inner rest) (suc k) else_node =
    ap (Forest.cons label inner) (set_is_give_way change put one rest k else_node)

-- what a node becomes where the node at the path is put
pub put_is_edit_below : (new : PlainNode) (path : List ℕ) (node : PlainNode) → edit_below (λ _. new ∷ []) path node ≡ put_below path new node ∷ []
put_is_edit_below new [] node = refl
put_is_edit_below new (k ∷ path) node =
    ap (λ inner. record node { inner = inner } ∷ [])
    (sym (set_is_give_way (edit_below (λ _. new ∷ []) path) (put_below path new) (put_is_edit_below new path) node.inner k new))

-- a list of items, with a node put below one of them
pub put_is_edit : (list : PlainNodes) (k : ℕ) (path : List ℕ) (new : PlainNode)
    → forest (put_in list k path new).items ≡ edit_at (λ _. new ∷ []) (k ∷ path) (forest list.items)
put_is_edit list k path new =
    ap (λ items. forest (slice_set items k (put_below path new (slice_index_or items k new)))) (sym (nodes_forest list.items))
    ∙ set_is_give_way (edit_below (λ _. new ∷ []) path) (put_below path new) (put_is_edit_below new path) (forest list.items) k new

-- a tree, whose items are the list, with a node put below one of them
pub put_in_tree : (list : PlainNodes) (drawn live : ℕ) (tree : PlainTree) (path : List ℕ) (k : ℕ) (rest : List ℕ)
    → record { items = forest list.items; spare = list.spare; drawn = drawn; live = live } ≡ tree → path ≡ k ∷ rest → (new : PlainNode)
    → record { items = forest (put_in list k rest new).items; spare = list.spare; drawn = drawn; live = live } ≡ with_node tree path new
put_in_tree list drawn live tree path k rest same way new =
    rw (← same, way)
    (ap (λ (items : Forest). let t : PlainTree = record { items = items; spare = list.spare; drawn = drawn; live = live } in t)
    (put_is_edit list k rest new))

-- what stands there
pub found_in_tree : (list : PlainNodes) (drawn live : ℕ) (tree : PlainTree) (path : List ℕ) (k : ℕ) (rest : List ℕ)
    → record { items = forest list.items; spare = list.spare; drawn = drawn; live = live } ≡ tree → path ≡ k ∷ rest
    → option_and_then (λ item. below item rest) (slice_get list.items k) ≡ node_at tree.items path
found_in_tree list drawn live tree path k rest same way = rw (← same, way, nodes_forest list.items) refl
