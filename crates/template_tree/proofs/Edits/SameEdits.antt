-- An edit looks at the node at its path alone.
use Rattle.std.specs.Prelude.{◌≡◌, refl, ℕ, zero, suc, List, [], ◌∷◌, Option, Some, None}
use Rattle.std.proofs.Common.{ap, sym, ◌∙◌}
use Rattle.std.proofs.lemmas.Option.{none-some}
use Rattle.template_tree.specs.Programs.PlainTree.{Forest, PlainNode, forest, join}
use Rattle.template_tree.specs.Positions.Path.{node_at}
use Rattle.template_tree.specs.Edits.Edit.{edit_at}

-- what is there, or else the node
abbrev pub taken : PlainNode → Option PlainNode → PlainNode
taken node None = node
taken node (Some there) = there

-- two edits that do the same to the node at a path do the same there
pub edits_alike : (one other : PlainNode → List PlainNode) (items : Forest) (path : List ℕ) (node : PlainNode)
    → node_at items path ≡ Some node → one node ≡ other node → edit_at one path items ≡ edit_at other path items
edits_alike one other items [] node e same = refl
edits_alike one other Forest.nil (k ∷ path) node e same = refl
edits_alike one other (Forest.cons label inner rest) (zero ∷ []) node e same =
    let there : record { label = label; inner = inner } ≡ node = ap (taken node) e in
    ap (λ new. join (forest new) rest) (ap one there ∙ (same ∙ ap other (sym there)))
edits_alike one other (Forest.cons label inner rest) (zero ∷ (j ∷ path)) node e same =
    ap (λ inside. Forest.cons label inside rest) (edits_alike one other inner (j ∷ path) node e same)
edits_alike one other (Forest.cons label inner rest) (suc k ∷ path) node e same =
    ap (λ others. Forest.cons label inner others) (edits_alike one other rest (k ∷ path) node e same)

-- where no node stands, nothing gives way
pub edit_nowhere : (change : PlainNode → List PlainNode) (items : Forest) (path : List ℕ) → node_at items path ≡ None → edit_at change path items ≡ items
edit_nowhere change items [] e = refl
edit_nowhere change Forest.nil (k ∷ path) e = refl
edit_nowhere change (Forest.cons label inner rest) (zero ∷ []) e = absurd (none-some record { label = label; inner = inner } (sym e))
edit_nowhere change (Forest.cons label inner rest) (zero ∷ (j ∷ path)) e =
    ap (λ inside. Forest.cons label inside rest) (edit_nowhere change inner (j ∷ path) e)
edit_nowhere change (Forest.cons label inner rest) (suc k ∷ path) e =
    ap (λ others. Forest.cons label inner others) (edit_nowhere change rest (k ∷ path) e)
