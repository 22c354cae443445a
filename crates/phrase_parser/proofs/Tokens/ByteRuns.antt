-- Runs of bytes of one class at the front of a text.
use Rattle.std.proofs.Common.{◌≡◌, ℕ, suc, ◌+◌, ◌≤◌, Bool, true, false, List, [], ◌∷◌, ◌++◌, length, take, drop, refl, ap, ◌∙◌, arith}
use Rattle.std.specs.List.{list_all, prefix_len}
use Rattle.std.proofs.lemmas.Bool.{and_parts, and_from, cond-true, cond-false, cond_both}
use Rattle.plcs_grammar.specs.Token.{begins_with}

-- taking one byte more of a list takes its first
take_one_more : (x : ℕ) (xs : List ℕ) (n : ℕ) → take (1 + n) (x ∷ xs) ≡ x ∷ take n xs
take_one_more x xs n = let e : 1 + n ≡ suc n = omega arith in ap (λ (k : ℕ). take k (x ∷ xs)) e

-- dropping one byte more of a list drops its first
pub drop_one_more : (x : ℕ) (xs : List ℕ) (n : ℕ) → drop (1 + n) (x ∷ xs) ≡ drop n xs
drop_one_more x xs n = let e : 1 + n ≡ suc n = omega arith in ap (λ (k : ℕ). drop k (x ∷ xs)) e

-- a run goes on through a list whose bytes are all of its class
pub run_append : (p : ℕ → Bool) (xs ys : List ℕ) → list_all p xs ≡ true → prefix_len p (xs ++ ys) ≡ length xs + prefix_len p ys
run_append p [] ys h = omega arith
run_append p (x ∷ xs) ys h =
    let parts = and_parts (p x) (list_all p xs) h in
    let first = cond-true (p x) (1 + prefix_len p (xs ++ ys)) 0 parts.0 in
    omega (arith, first, run_append p xs ys parts.1)

-- a run stops before a byte that isn't of its class
pub run_none : (p : ℕ → Bool) (ys : List ℕ) → begins_with p ys ≡ false → prefix_len p ys ≡ 0
run_none p [] h = refl
run_none p (y ∷ ys) h = cond-false (p y) (1 + prefix_len p ys) 0 h

-- the bytes of a run are all of its class
pub run_all : (p : ℕ → Bool) (xs : List ℕ) → list_all p (take (prefix_len p xs) xs) ≡ true
run_all p [] = refl
run_all p (x ∷ xs) =
    cond_both (p x) (1 + prefix_len p xs) 0 (λ (k : ℕ). list_all p (take k (x ∷ xs)) ≡ true)
    (λ e. ap (list_all p) (take_one_more x xs (prefix_len p xs)) ∙ and_from (p x) (list_all p (take (prefix_len p xs) xs)) e (run_all p xs))
    (λ e. refl)

-- behind a run stands no byte of its class
pub run_ends : (p : ℕ → Bool) (xs : List ℕ) → begins_with p (drop (prefix_len p xs) xs) ≡ false
run_ends p [] = refl
run_ends p (x ∷ xs) =
    cond_both (p x) (1 + prefix_len p xs) 0 (λ (k : ℕ). begins_with p (drop k (x ∷ xs)) ≡ false)
    (λ e. ap (begins_with p) (drop_one_more x xs (prefix_len p xs)) ∙ run_ends p xs)
    (λ e. e)

-- a byte of the class begins a run
pub run_begins : (p : ℕ → Bool) (x : ℕ) (xs : List ℕ) → p x ≡ true → 1 ≤ prefix_len p (x ∷ xs)
run_begins p x xs h = omega (arith, cond-true (p x) (1 + prefix_len p xs) 0 h)

-- the first byte of a run stands first in what is taken of it
pub run_first : (p : ℕ → Bool) (x : ℕ) (xs : List ℕ) → p x ≡ true
    → take (prefix_len p (x ∷ xs)) (x ∷ xs) ≡ x ∷ take (prefix_len p xs) xs
run_first p x xs h =
    ap (λ (k : ℕ). take k (x ∷ xs)) (cond-true (p x) (1 + prefix_len p xs) 0 h) ∙ take_one_more x xs (prefix_len p xs)
