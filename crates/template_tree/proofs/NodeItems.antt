-- The items of nodes, found at paths of one number.
use Rattle.std.proofs.Common.{◌≡◌, ℕ, [], ◌∷◌, slice_get, Option, Some, None, refl}
use Rattle.std.specs.Prelude.{option_and_then}
use Rattle.template_tree.specs.Positions.Path.{node_at}
use Rattle.template_tree.specs.Programs.PlainTree.{Forest, PlainNode, nodes}

-- the node at a path of one number is the item of that number
pub at_one : (items : Forest) (k : ℕ) → node_at items (k ∷ []) ≡ slice_get (nodes items) k
at_one items k = by (slice_get (nodes items) k)
  where
    by : (found : Option PlainNode) → option_and_then (λ (item : PlainNode). Some item) found ≡ found
    by None = refl
    by (Some item) = refl
