-- Quotes doubled in a text that is put together.
use Rattle.std.proofs.Common.{ℕ, List, [], ◌∷◌, ◌++◌, ◌≡◌, ◌≢◌, cond, refl, sym, ap, ◌∙◌, append_assoc}
use Rattle.std.proofs.lemmas.Bool.{ne_eqb}
use Rattle.plcs_grammar.specs.Token.{quote, doubled, with_quotes_doubled}

-- the quotes of two texts, one behind the other, are doubled in each
pub doubled_append : (first second : List ℕ)
    → with_quotes_doubled (first ++ second) ≡ with_quotes_doubled first ++ with_quotes_doubled second
doubled_append [] second = refl
doubled_append (byte ∷ rest) second =
    let own : List ℕ = doubled byte in
    ap (λ z. own ++ z) (doubled_append rest second)
    ∙ sym (append_assoc own (with_quotes_doubled rest) (with_quotes_doubled second))

-- a byte that is no quote stays as it is
pub undoubled : (byte : ℕ) → byte ≢ quote → with_quotes_doubled (byte ∷ []) ≡ byte ∷ []
undoubled byte other = ap (λ b. cond b (quote ∷ quote ∷ []) (byte ∷ []) ++ []) (ne_eqb byte quote other)
