-- A node of a tree is a subtree of it, and has no more slots than the tree.
use Rattle.std.specs.Prelude.{◌≡◌, ℕ, zero, suc, List, [], ◌∷◌, Option, Some, None, option_map, IfSome}
use Rattle.std.proofs.Common.{ap, sym, subst}
use Rattle.std.proofs.lemmas.Option.{none-some}
use Rattle.template_tree.specs.Programs.PlainTree.{Forest, PlainNode}
use Rattle.template_tree.specs.Positions.Path.{node_at}
use Rattle.template_tree.specs.Programs.Program.{AreNodes, IsSubtree}
use Rattle.template_tree.proofs.Edits.SameEdits.{taken}

-- where the nodes are what their rows ask for, the node at a path is a subtree
pub subtree_at : (items : Forest) (path : List ℕ) (node : PlainNode) → AreNodes items → node_at items path ≡ Some node → IsSubtree node
subtree_at items [] node sound e = absurd (none-some node e)
subtree_at Forest.nil (k ∷ path) node sound e = absurd (none-some node e)
subtree_at (Forest.cons label inner rest) (zero ∷ []) node sound e =
    let same : record { label = label; inner = inner } ≡ node = ap (taken node) e in subst IsSubtree same (sound.0, sound.1)
subtree_at (Forest.cons label inner rest) (zero ∷ (j ∷ path)) node sound e = subtree_at inner (j ∷ path) node sound.1 e
subtree_at (Forest.cons label inner rest) (suc k ∷ path) node sound e = subtree_at rest (k ∷ path) node sound.2 e

-- what holds of the node that is there holds of the one that is lent
pub lent : {A : Type 0} (now : A → PlainNode) (holds : PlainNode → Type 0) (there : Option PlainNode)
    → ((node : PlainNode) → there ≡ Some node → holds node) → (o : Option A) → option_map now o ≡ there → IfSome o (λ a. holds (now a))
lent now holds there law None e = tt
lent now holds there law (Some a) e = law (now a) (sym e)
