-- A text that is trimmed neither begins nor ends with a blank.
use Rattle.std.proofs.Common.{◌≡◌, ℕ, suc, ◌+◌, ◌-◌, ◌≤◌, true, List, [], ◌∷◌, ◌++◌, codes, length, drop, reverse, sym, ap, ◌∙◌, arith}
use Rattle.std.specs.List.{prefix_len}
use Rattle.std.proofs.lemmas.Bool.{cond_both, eq-eqb}
use Rattle.std.proofs.lemmas.List.{reverse-append, reverse-reverse, length-reverse, length-drop}
use Rattle.plcs_base.specs.Byte.{is_blank}
use Rattle.plcs_grammar.specs.Cuts.{blanks, unblanked}
use Rattle.plcs_grammar.specs.TrimmedText.{trimmed}

-- no blank is left at the front of a text without its first blanks
unblanked_first : (z rest : List ℕ) → ¬ (unblanked z ≡ 32 ∷ rest)
unblanked_first [] rest e = cc
unblanked_first (byte ∷ z) rest e =
    cond_both (is_blank byte) (1 + prefix_len is_blank z) 0 (λ k. ¬ (drop k (byte ∷ z) ≡ 32 ∷ rest))
    (λ blank left.
    let more : 1 + prefix_len is_blank z ≡ suc (prefix_len is_blank z) = omega arith in
    unblanked_first z rest (sym (ap (λ k. drop k (byte ∷ z)) more) ∙ left))
    (λ other left. let first : byte ≡ 32 = cc in let is : is_blank byte ≡ true = eq-eqb byte 32 first in cc)
    e

-- what is trimmed is no longer than what is left without the blanks at the front
trimmed_short : (x : List ℕ) → length (trimmed x) ≤ length x - blanks x
trimmed_short x =
    let turned : List ℕ = reverse (unblanked x) in
    let last : length (trimmed x) ≡ length turned - blanks turned = length-reverse (unblanked turned) ∙ length-drop (blanks turned) turned in
    let first : length turned ≡ length x - blanks x = length-reverse (unblanked x) ∙ length-drop (blanks x) x in
    omega arith

pub trimmed_no_first : (x rest : List ℕ) → x ≡ trimmed x → ¬ (x ≡ codes " " ++ rest)
trimmed_no_first x rest own e =
    let one : blanks x ≡ 1 + blanks rest = ap blanks e in
    let some : length x ≡ suc (length rest) = ap length e in
    let same : length x ≡ length (trimmed x) = ap length own in
    let short = trimmed_short x in
    absurd (omega (arith, one, some, same, short))

pub trimmed_no_last : (x front : List ℕ) → x ≡ trimmed x → ¬ (x ≡ front ++ codes " ")
trimmed_no_last x front own e =
    let turned : unblanked (reverse (unblanked x)) ≡ reverse (front ++ codes " ") =
    sym (reverse-reverse (unblanked (reverse (unblanked x)))) ∙ sym (ap reverse own) ∙ ap reverse e in
    unblanked_first (reverse (unblanked x)) (reverse front) (turned ∙ reverse-append front (codes " "))
