-- Canonical texts put for values that are known in another way.
use Rattle.std.proofs.Common.{ℕ, ◌≡◌, sym, ap}
use Rattle.plcs_base.specs.Put.{PutsAll}
use Rattle.plcs_grammar.specs.declared.expr.Expr.{Expr}
use Rattle.plcs_grammar.specs.declared.phrase.Phrase.{Phrase}
use Rattle.plcs_grammar.specs.PlainPhrase.{PlainExpr, PlainVarRef, plain_expr, plain_phrase}
use Rattle.plcs_grammar.specs.Canon.{canon, canon_reference, Canon}
use Rattle.plcs_base.specs.Putting.{puts_same}

module _ {Out : Type 0} {puts : Out → ℕ → Out → Type 0} {before after : Out} where
  -- the text of an equal expression in plain form
  pub shown_plain : (t u : PlainExpr) → t ≡ u → PutsAll puts before (canon u) after → PutsAll puts before (canon t) after
  shown_plain t u is done = puts_same (sym (ap canon is)) done

  -- the text of an equal variable
  pub shown_reference : (r s : PlainVarRef) → r ≡ s → PutsAll puts before (canon_reference s) after
      → PutsAll puts before (canon_reference r) after
  shown_reference r s is done = puts_same (sym (ap canon_reference is)) done

  -- the text of an equal expression of the code
  pub shown_expr : (e f : Expr) → e ≡ f → PutsAll puts before (canon (plain_expr e)) after
      → PutsAll puts before (canon (plain_expr f)) after
  shown_expr e f is done = puts_same (ap (λ e. canon (plain_expr e)) is) done

  -- the text of an equal phrase
  pub shown_phrase : (p q : Phrase) → p ≡ q → PutsAll puts before (Canon (plain_phrase q)) after
      → PutsAll puts before (Canon (plain_phrase p)) after
  shown_phrase p q is done = puts_same (sym (ap (λ p. Canon (plain_phrase p)) is)) done
