-- The value of a character constant: what stands between its quotes, with one quote for each two.
use Rattle.std.proofs.Common.{◌≡◌, refl, drop, ℕ, suc, ◌-◌, ◌≤◌, List, [], ◌∷◌, ◌++◌, length, take, sym, ap, ◌∙◌, subst, arith}
use Rattle.std.proofs.lemmas.Bool.{cond_both, cond-false, eqb-true}
use Rattle.std.proofs.lemmas.List.{length-append, same_from_push}
use Rattle.std.proofs.Math.Seq.{take-append_seam}
use Rattle.plcs_base.specs.Text.{IsTextValue, longest_text}
use Rattle.plcs_grammar.specs.Token.{is_quote, with_quotes_doubled, quoted}
use Rattle.phrase_parser.specs.Private.Unquoted.{undoubled, undoubled_behind}
use Rattle.phrase_parser.specs.Private.TokenIn.{between_quotes, IsConstant}

-- doubling quotes and taking one of each two changes nothing
pub undoubled_doubled : (value : List ℕ) → undoubled (with_quotes_doubled value) ≡ value
undoubled_doubled [] = refl
undoubled_doubled (byte ∷ value) =
    cond_both (is_quote byte) (39 ∷ 39 ∷ []) (byte ∷ []) (λ (front : List ℕ). undoubled (front ++ with_quotes_doubled value) ≡ byte ∷ value)
    (λ quote. ap (λ (rest : List ℕ). 39 ∷ rest) (undoubled_doubled value) ∙ ap (λ (b : ℕ). b ∷ value) (sym (eqb-true byte 39 quote)))
    (λ plain. ap (λ (rest : List ℕ). byte ∷ rest)
    (cond-false (is_quote byte) (undoubled_behind (with_quotes_doubled value)) (undoubled (with_quotes_doubled value)) plain ∙ undoubled_doubled value))

-- a character constant has one value
pub one_value : (v w : List ℕ) → quoted v ≡ quoted w → v ≡ w
one_value v w h =
    let inner = same_from_push (with_quotes_doubled v) (with_quotes_doubled w) 39 39 (ap (λ (x : List ℕ). drop 1 x) h) in
    sym (undoubled_doubled v) ∙ ap undoubled inner.0 ∙ undoubled_doubled w

-- between the quotes stands the value with each quote written twice
pub between_quotes_quoted : (value : List ℕ) → between_quotes (quoted value) ≡ with_quotes_doubled value
between_quotes_quoted value =
    let w : List ℕ = with_quotes_doubled value in
    let n : suc (length (w ++ (39 ∷ []))) - 1 - 1 ≡ length w = omega (arith, length-append w (39 ∷ [])) in
    ap (λ (k : ℕ). take k (w ++ (39 ∷ []))) n ∙ take-append_seam w (39 ∷ [])

-- the value of a constant is what stands between its quotes, with one quote for each two
pub undoubled_between : (value : List ℕ) → undoubled (between_quotes (quoted value)) ≡ value
undoubled_between value = ap undoubled (between_quotes_quoted value) ∙ undoubled_doubled value

-- the value of a character constant fits a text
pub constant_short : (bytes : List ℕ) → IsConstant bytes → IsTextValue (undoubled (between_quotes bytes))
constant_short bytes c =
    subst (λ (b : List ℕ). IsTextValue (undoubled (between_quotes b))) (sym c.whole)
    (subst (λ (v : List ℕ). length v ≤ longest_text) (sym (undoubled_between c.value)) c.content.0)

-- a character constant has two quotes
pub constant_long : (bytes : List ℕ) → IsConstant bytes → 2 ≤ length bytes
constant_long bytes c = omega (arith, ap length c.whole, length-append (with_quotes_doubled c.value) (39 ∷ []))
