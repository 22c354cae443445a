-- The laws of nodes in order: what is known of the items of a forest, each found by its number.
use Rattle.std.specs.Prelude.{◌≡◌, ℕ, ◌+◌, ◌≤◌, [], ◌∷◌, length, slice_get, Some}
use Rattle.template_tree.specs.Positions.Path.{node_at}
use Rattle.template_tree.specs.Programs.PlainTree.{Forest, PlainNode, nodes}
use Rattle.template_tree.specs.Programs.Program.{AreNodes, IsSubtree}
use Rattle.template_tree.specs.Programs.Slots.{count}

-- a forest has no more items than nodes
abbrev pub ItemsAreFew : Type 0
ItemsAreFew = (items : Forest) → length (nodes items) ≤ count items

-- a path of one number leads to the item of the number
abbrev pub ItemsAreFound : Type 0
ItemsAreFound = (items : Forest) (k : ℕ) → node_at items (k ∷ []) ≡ slice_get (nodes items) k

-- fewer nodes stand in an item than there are
abbrev pub ItemsHoldFewer : Type 0
ItemsHoldFewer = (items : Forest) (k : ℕ) (item : PlainNode) → slice_get (nodes items) k ≡ Some item
    → count item.inner + 1 ≤ count items

-- an item of nodes that are what their rows ask for is a subtree
abbrev pub ItemsAreSubtrees : Type 0
ItemsAreSubtrees = (items : Forest) (k : ℕ) (item : PlainNode) → slice_get (nodes items) k ≡ Some item
    → AreNodes items → IsSubtree item
