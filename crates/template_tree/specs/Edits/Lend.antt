-- What a list of nodes, and a tree, becomes where a node of it was lent and written to, set, taken out or put in.
use Rattle.std.specs.Prelude.{ℕ, ◌+◌, ◌-◌, List, [], ◌∷◌, slice_set, slice_index_or}
use Rattle.std.specs.List.{remove, insert}
use Rattle.template_tree.specs.Edits.Edit.{edit_at}
use Rattle.template_tree.specs.Programs.PlainTree.{PlainNode, PlainNodes, PlainTree, nodes, forest}

-- a list of nodes of a tree with another node in this place, which was lent
abbrev pub with_node_set : PlainNodes → ℕ → PlainNode → PlainNodes
with_node_set list k item = record list { items = slice_set list.items k item }

-- a list of nodes of a tree without the one in this place, which was taken out; its room is left
abbrev pub with_node_removed : PlainNodes → ℕ → PlainNodes
with_node_removed list k = record { items = remove list.items k; spare = list.spare + 1 }

-- a list of nodes of a tree with one more before this place, put into room that was there
abbrev pub with_node_inserted : PlainNodes → ℕ → PlainNode → PlainNodes
with_node_inserted list k item = record { items = insert list.items k item; spare = list.spare - 1 }

-- a node after the one at the path below it was lent and written to: another one stands there
abbrev pub put_below : List ℕ → PlainNode → PlainNode → PlainNode
put_below [] new node = new
put_below (k ∷ path) new node =
    record node
    { inner = forest (slice_set (nodes node.inner) k (put_below path new (slice_index_or (nodes node.inner) k new))) }

-- a list of nodes after the one at the path below an item of it was lent and written to: another one stands there
abbrev pub put_in : PlainNodes → ℕ → List ℕ → PlainNode → PlainNodes
put_in list k path new = with_node_set list k (put_below path new (slice_index_or list.items k new))

-- the tree after its node at the path was lent and written to: another node stands there
abbrev pub with_node : PlainTree → List ℕ → PlainNode → PlainTree
with_node tree path node = record tree { items = edit_at (λ _. node ∷ []) path tree.items }
