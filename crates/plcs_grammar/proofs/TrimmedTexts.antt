-- What trimming a text's end does: a blank there is left out, and nothing else.
use Rattle.std.proofs.Common.{◌≡◌, ℕ, suc, ◌+◌, List, [], ◌∷◌, ◌++◌, drop, reverse, refl, sym, ap, ◌∙◌, arith}
use Rattle.std.specs.List.{prefix_len}
use Rattle.std.proofs.lemmas.Bool.{cond-false, false_from_ne_true}
use Rattle.std.proofs.lemmas.Bool.Decides.{Decides-eqb}
use Rattle.std.proofs.lemmas.List.{reverse-append, reverse-reverse}
use Rattle.plcs_base.specs.Byte.{is_blank}
use Rattle.plcs_grammar.specs.Cuts.{unblanked}

-- one byte more is dropped
drop_one_more : (x : ℕ) (xs : List ℕ) (n : ℕ) → drop (1 + n) (x ∷ xs) ≡ drop n xs
drop_one_more x xs n = let e : 1 + n ≡ suc n = omega arith in ap (λ (k : ℕ). drop k (x ∷ xs)) e

-- a blank at the end is left out
pub trim_last : (front : List ℕ) → reverse (unblanked (reverse (front ++ (32 ∷ [])))) ≡ reverse (unblanked (reverse front))
trim_last front =
    ap (λ z. reverse (unblanked z)) (reverse-append front (32 ∷ []))
    ∙ ap reverse (drop_one_more 32 (reverse front) (prefix_len is_blank (reverse front)))

-- and nothing else
trim_done_if : (rest back : List ℕ) → reverse rest ≡ back → ((front : List ℕ) → rest ≡ front ++ (32 ∷ []) → ⊥) → unblanked back ≡ back
trim_done_if rest [] e free = refl
trim_done_if rest (b ∷ back) e free =
    let turned : rest ≡ reverse back ++ (b ∷ []) = sym (reverse-reverse rest) ∙ ap reverse e ∙ reverse-append (b ∷ []) back in
    let other = false_from_ne_true (is_blank b) (λ t. free (reverse back) (turned ∙ ap (λ z. reverse back ++ (z ∷ [])) ((Decides-eqb b 32).0 t))) in
    ap (λ k. drop k (b ∷ back)) (cond-false (is_blank b) (1 + prefix_len is_blank back) 0 other)

pub trim_done : (rest : List ℕ) → ((front : List ℕ) → rest ≡ front ++ (32 ∷ []) → ⊥) → reverse (unblanked (reverse rest)) ≡ rest
trim_done rest free = ap reverse (trim_done_if rest (reverse rest) refl free) ∙ reverse-reverse rest
