-- Lists that are compared item by item.
use Rattle.std.specs.Prelude.{◌≡◌, refl, ℕ, zero, suc, ◌+◌, ◌<◌, ◌≤◌, ◌↔◌, IsTrue, Bool, false, List, [], ◌∷◌, length, slice_get, Some, None}
use Rattle.std.proofs.Common.{ap, sym, ◌∙◌, subst, arith}
use Rattle.std.proofs.Math.Bool.{false≢true}
use Rattle.std.proofs.lemmas.Option.{none-some, same_Some, slice_get_past}

-- the first items of two lists are the same, as many as the number says
abbrev pub AlikeBefore : {A : Type 0} → ℕ → List A → List A → Type 0
AlikeBefore n xs ys = (k : ℕ) → k < n → slice_get xs k ≡ slice_get ys k

pub alike_lists : {A : Type 0} (xs ys : List A) → ((k : ℕ) → slice_get xs k ≡ slice_get ys k) → xs ≡ ys
alike_lists [] [] same = refl
alike_lists [] (y ∷ ys) same = absurd (none-some y (same 0))
alike_lists (x ∷ xs) [] same = absurd (none-some x (sym (same 0)))
alike_lists {A} (x ∷ xs) (y ∷ ys) same =
    ap (λ (a : A). a ∷ xs) (same_Some x y (same 0)) ∙ ap (λ (rest : List A). y ∷ rest) (alike_lists xs ys (λ k. same (suc k)))

-- a number below the next one is below this one or is this one
below_or_own : (k n : ℕ) (P : Type 0) → k < suc n → (k < n → P) → (k ≡ n → P) → P
below_or_own zero zero P few lower own = own refl
below_or_own zero (suc n) P few lower own = lower (omega arith)
below_or_own (suc k) zero P few lower own = absurd (omega (arith, few))
below_or_own (suc k) (suc n) P few lower own = below_or_own k n P (omega (arith, few)) (λ h. lower (omega (arith, h))) (λ e. own (ap suc e))

pub alike_next : {A : Type 0} (n : ℕ) (xs ys : List A) → AlikeBefore n xs ys → slice_get xs n ≡ slice_get ys n → AlikeBefore (n + 1) xs ys
alike_next n xs ys alike own k few =
    below_or_own k n (slice_get xs k ≡ slice_get ys k) (omega (arith, few)) (alike k)
    (λ is. subst (λ (j : ℕ). slice_get xs j ≡ slice_get ys j) (sym is) own)

-- a number is below another, or the other isn't above it
below_or_past : (k n : ℕ) (P : Type 0) → (k < n → P) → (n ≤ k → P) → P
below_or_past k zero P lower past = past (omega arith)
below_or_past zero (suc n) P lower past = lower (omega arith)
below_or_past (suc k) (suc n) P lower past = below_or_past k n P (λ h. lower (omega (arith, h))) (λ h. past (omega (arith, h)))

-- where nothing is found the list is past
pub past_none : {A : Type 0} (xs : List A) (n : ℕ) → slice_get xs n ≡ None → length xs ≤ n
past_none [] n gone = omega arith
past_none (x ∷ xs) zero gone = absurd (none-some x (sym gone))
past_none (x ∷ xs) (suc n) gone = omega (arith, past_none xs n gone)

-- lists that are alike up to the end of the one are the same exactly where the other ends there
pub alike_ends : {A : Type 0} (n : ℕ) (xs ys : List A) {answer : Bool} → AlikeBefore n xs ys → slice_get xs n ≡ None
    → IsTrue answer ↔ (slice_get ys n ≡ None) → IsTrue answer ↔ (xs ≡ ys)
alike_ends {A} n xs ys alike gone told = (
  (λ holds.
      alike_lists xs ys (λ k.
      below_or_past k n (slice_get xs k ≡ slice_get ys k) (alike k)
      (λ past.
      slice_get_past xs k (omega (arith, past, past_none xs n gone))
      ∙ sym (slice_get_past ys k (omega (arith, past, past_none ys n (told.0 holds))))))),
  (λ same. told.1 (sym (ap (λ (zs : List A). slice_get zs n) same) ∙ gone)),
)

-- lists with different items at one place are different
pub told_apart : {A : Type 0} (n : ℕ) (xs ys : List A) (x : A) {answer : Bool} → slice_get xs n ≡ Some x
    → IsTrue answer ↔ (slice_get ys n ≡ Some x) → answer ≡ false → IsTrue false ↔ (xs ≡ ys)
told_apart {A} n xs ys x there told is_false = (
  (λ e. absurd (false≢true e)),
  (λ same. absurd (false≢true (sym is_false ∙ told.1 (sym (ap (λ (zs : List A). slice_get zs n) same) ∙ there)))),
)
