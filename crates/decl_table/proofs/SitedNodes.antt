-- The slot of a node at a path stands among the nodes.
use Rattle.std.proofs.Common.{◌≡◌, ℕ, zero, suc, ◌≤◌, List, [], ◌∷◌, Option, Some, None, ap, ◌∙◌, arith}
use Rattle.std.proofs.lemmas.Option.{none-some}
use Rattle.template_tree.specs.Positions.Path.{node_at}
use Rattle.template_tree.specs.Programs.PlainTree.{Forest, PlainNode}
use Rattle.template_tree.specs.Programs.Slots.{times}
use Rattle.decl_table.proofs.EditedScopes.{counted}

abbrev taken : PlainNode → Option PlainNode → PlainNode
taken node None = node
taken node (Some there) = there

module _ (slot : ℕ) where
  pub live_at : (items : Forest) (path : List ℕ) (node : PlainNode) → node_at items path ≡ Some node → node.label.slot ≡ slot → 1 ≤ times slot items
  live_at items [] node there own = absurd (none-some node there)
  live_at Forest.nil (k ∷ path) node there own = absurd (none-some node there)
  live_at (Forest.cons label inner rest) (zero ∷ []) node there own =
      let one = counted label.slot slot (ap (λ (n : PlainNode). n.label.slot) (ap (taken node) there) ∙ own) in omega (arith, one)
  live_at (Forest.cons label inner rest) (zero ∷ (j ∷ path)) node there own =
      let more = live_at inner (j ∷ path) node there own in omega (arith, more)
  live_at (Forest.cons label inner rest) (suc k ∷ path) node there own =
      let more = live_at rest (k ∷ path) node there own in omega (arith, more)
