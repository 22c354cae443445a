-- How two texts are ordered from a byte on: by the bytes there, a blank behind the last one, and then by what is behind
-- them.
use Rattle.std.proofs.Common.{ℕ, zero, suc, ◌+◌, ◌-◌, ◌≡◌, ◌<◌, ◌∙◌, ◌++◌, ◌∷◌, [], List, sym, ap, subst, length, drop, get_or, arith}
use Rattle.std.proofs.Math.Seq.{drop-nil}
use Rattle.std.specs.Prelude.{max, replicate}
use Rattle.std.specs.Cmp.Lexicographic.{slice_cmp}
use Rattle.std.specs.Ordering.{nat_cmp, ordering_then}
use Rattle.std.specs.declared.cmp.Ordering.{Ordering}
use Rattle.plcs_store.specs.Operator.{text_order}

-- a byte stands first in each
both_first : (a b : ℕ) (xs ys : List ℕ) → text_order (a ∷ xs) (b ∷ ys) ≡ ordering_then (nat_cmp a b) (text_order xs ys)
both_first a b xs ys =
    let left : length (b ∷ ys) - length (a ∷ xs) ≡ length ys - length xs = omega arith in
    let right : length (a ∷ xs) - length (b ∷ ys) ≡ length xs - length ys = omega arith in
    ap (λ (n : ℕ). slice_cmp nat_cmp ((a ∷ xs) ++ replicate n 32) ((b ∷ ys) ++ replicate (length (a ∷ xs) - length (b ∷ ys)) 32)) left
    ∙ ap (λ (n : ℕ). slice_cmp nat_cmp ((a ∷ xs) ++ replicate (length ys - length xs) 32) ((b ∷ ys) ++ replicate n 32)) right

-- the right one has no byte
left_first : (a : ℕ) (xs : List ℕ) → text_order (a ∷ xs) [] ≡ ordering_then (nat_cmp a 32) (text_order xs [])
left_first a xs =
    let left : 0 - length (a ∷ xs) ≡ 0 - length xs = omega arith in
    let right : length (a ∷ xs) - 0 ≡ suc (length xs - 0) = omega arith in
    ap (λ (n : ℕ). slice_cmp nat_cmp ((a ∷ xs) ++ replicate n 32) ([] ++ replicate (length (a ∷ xs) - 0) 32)) left
    ∙ ap (λ (n : ℕ). slice_cmp nat_cmp ((a ∷ xs) ++ replicate (0 - length xs) 32) ([] ++ replicate n 32)) right

-- the left one has no byte
right_first : (b : ℕ) (ys : List ℕ) → text_order [] (b ∷ ys) ≡ ordering_then (nat_cmp 32 b) (text_order [] ys)
right_first b ys =
    let left : length (b ∷ ys) - 0 ≡ suc (length ys - 0) = omega arith in
    let right : 0 - length (b ∷ ys) ≡ 0 - length ys = omega arith in
    ap (λ (n : ℕ). slice_cmp nat_cmp ([] ++ replicate n 32) ((b ∷ ys) ++ replicate (0 - length (b ∷ ys)) 32)) left
    ∙ ap (λ (n : ℕ). slice_cmp nat_cmp ([] ++ replicate (suc (length ys - 0)) 32) ((b ∷ ys) ++ replicate n 32)) right

-- the order from a byte on that one of the texts has
order_from : (x y : List ℕ) (k : ℕ) → k < max (length x) (length y)
    → text_order (drop k x) (drop k y) ≡ ordering_then (nat_cmp (get_or x k 32) (get_or y k 32)) (text_order (drop (suc k) x) (drop (suc k) y))
order_from [] [] k within = absurd (omega (arith, within))
order_from [] (b ∷ ys) zero within = right_first b ys
order_from [] (b ∷ ys) (suc k) within =
    let others = order_from [] ys k (omega (arith, within)) in
    let P : List ℕ → Type 0 =
    λ none. text_order none (drop k ys) ≡ ordering_then (nat_cmp 32 (get_or ys k 32)) (text_order [] (drop (suc k) ys)) in
    subst P (drop-nil k) others
order_from (a ∷ xs) [] zero within = left_first a xs
order_from (a ∷ xs) [] (suc k) within =
    let others = order_from xs [] k (omega (arith, within)) in
    let P : List ℕ → Type 0 =
    λ none. text_order (drop k xs) none ≡ ordering_then (nat_cmp (get_or xs k 32) 32) (text_order (drop (suc k) xs) []) in
    subst P (drop-nil k) others
order_from (a ∷ xs) (b ∷ ys) zero within = both_first a b xs ys
order_from (a ∷ xs) (b ∷ ys) (suc k) within = order_from xs ys k (omega (arith, within))

-- the order of the texts, once they are alike up to a byte
pub order_more : (x y : List ℕ) (k : ℕ) (order : Ordering) → k < max (length x) (length y) → order ≡ nat_cmp (get_or x k 32) (get_or y k 32)
    → text_order (drop k x) (drop k y) ≡ ordering_then order (text_order (drop (k + 1) x) (drop (k + 1) y))
order_more x y k order within is =
    let one : suc k ≡ k + 1 = omega arith in
    order_from x y k within
    ∙ ap (λ (o : Ordering). ordering_then o (text_order (drop (suc k) x) (drop (suc k) y))) (sym is)
    ∙ ap (λ (n : ℕ). ordering_then order (text_order (drop n x) (drop n y))) one
