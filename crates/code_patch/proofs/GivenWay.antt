-- Lists of kept nodes and nodes in order: what becomes of the one by its number becomes of the other.
use Rattle.std.proofs.Common.{◌≡◌, ℕ, zero, suc, ◌<◌, ◌≤◌, List, [], ◌∷◌, length, Some, refl, ap, sym, ◌∙◌, arith}
use Rattle.std.specs.Prelude.{slice_get, slice_set}
use Rattle.std.specs.List.{insert, remove}
use Rattle.plcs_code.specs.OwnCode.{PlainOwnCode}
use Rattle.code_patch.specs.CodeEdit.{code_added, code_gives_way, join_code}
use Rattle.code_patch.specs.CodeForest.{CodeForest, PlainCodeNode, code_nodes}
use Rattle.code_patch.specs.Private.PlainCodeNode.{code_forest, code_nodes_forest}

-- a node that gives way to another one
pub forest_set : (change : PlainOwnCode → ℕ → CodeForest → CodeForest) (k : ℕ) (items : List PlainCodeNode) (old new : PlainCodeNode)
    → slice_get items k ≡ Some old → change old.own old.spare old.inner ≡ code_forest (new ∷ [])
    → code_forest (slice_set items k new) ≡ code_gives_way change k (code_forest items)
forest_set change k [] old new there is = absurd (cc)
forest_set change zero (node ∷ rest) old new there is =
    let same : node ≡ old = cc in
    sym (ap (λ (n : PlainCodeNode). join_code (change n.own n.spare n.inner) (code_forest rest)) same ∙ ap (λ (f : CodeForest). join_code f (code_forest rest)) is)
forest_set change (suc k) (node ∷ rest) old new there is =
    ap (λ (f : CodeForest). CodeForest.cons node.own node.spare node.inner f) (forest_set change k rest old new there is)

-- a node that comes before another one, or behind all
pub forest_insert : (k : ℕ) (items : List PlainCodeNode) (new : PlainCodeNode) → k ≤ length items
    → code_forest (insert items k new) ≡ code_added (code_forest (new ∷ [])) k (code_forest items)
forest_insert zero [] new within = refl
forest_insert zero (node ∷ rest) new within = refl
forest_insert (suc k) [] new within = absurd (omega (arith, within))
forest_insert (suc k) (node ∷ rest) new within =
    ap (λ (f : CodeForest). CodeForest.cons node.own node.spare node.inner f) (forest_insert k rest new (omega (arith, within)))

-- a node that goes
pub forest_remove : (k : ℕ) (items : List PlainCodeNode) → k < length items
    → code_forest (remove items k) ≡ code_gives_way (λ was spare within. CodeForest.nil) k (code_forest items)
forest_remove k [] within = absurd (omega (arith, within))
forest_remove zero (node ∷ rest) within = refl
forest_remove (suc k) (node ∷ rest) within =
    ap (λ (f : CodeForest). CodeForest.cons node.own node.spare node.inner f) (forest_remove k rest (omega (arith, within)))

-- a node that is found
pub forest_get : (items : List PlainCodeNode) (k : ℕ) → slice_get (code_nodes (code_forest items)) k ≡ slice_get items k
forest_get items k = ap (λ ns. slice_get ns k) (code_nodes_forest items)
