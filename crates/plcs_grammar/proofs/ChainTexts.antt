-- The text of a chain of operators, from the left to the right.
use Rattle.std.proofs.Common.{ℕ, zero, suc, ◌+◌, ◌≡◌, [], ◌++◌, refl, sym, ap, ◌∙◌, append_assoc, add-suc, add-zero}
use Rattle.std.proofs.lemmas.List.{append-nil}
use Rattle.plcs_grammar.specs.PlainPhrase.{PlainExpr}
use Rattle.plcs_grammar.specs.Canon.{canon}
use Rattle.plcs_grammar.specs.Private.Chain.{leftmost, chain_text, operator_text}

-- the text of a chain is that of its leftmost operand, and that of the rest of the chain behind it
pub chain_whole : (t : PlainExpr) (n : ℕ) → canon (leftmost t n) ++ chain_text t n ≡ canon t
chain_whole (PlainExpr.number z) n = append-nil _
chain_whole (PlainExpr.text value) n = append-nil _
chain_whole (PlainExpr.bit value) n = append-nil _
chain_whole (PlainExpr.variable reference) n = append-nil _
chain_whole (PlainExpr.unary op a) n = append-nil _
chain_whole (PlainExpr.binary op a b) zero = append-nil _
chain_whole (PlainExpr.binary op a b) (suc n) =
    sym (append_assoc (canon (leftmost a n)) (chain_text a n) (operator_text op b))
    ∙ ap (λ z. z ++ operator_text op b) (chain_whole a n)
chain_whole (PlainExpr.builtin function arguments) n = append-nil _
chain_whole (PlainExpr.parenthesized a) n = append-nil _

-- the text of a chain's operators is that of those on the left, and that of the others behind it
pub chain_halves : (t : PlainExpr) (left right : ℕ)
    → chain_text (leftmost t right) left ++ chain_text t right ≡ chain_text t (left + right)
chain_halves (PlainExpr.number z) left right = refl
chain_halves (PlainExpr.text value) left right = refl
chain_halves (PlainExpr.bit value) left right = refl
chain_halves (PlainExpr.variable reference) left right = refl
chain_halves (PlainExpr.unary op a) left right = refl
chain_halves (PlainExpr.binary op a b) left zero =
    append-nil _ ∙ ap (λ n. chain_text (PlainExpr.binary op a b) n) (sym (add-zero left))
chain_halves (PlainExpr.binary op a b) left (suc right) =
    sym (append_assoc (chain_text (leftmost a right) left) (chain_text a right) (operator_text op b))
    ∙ ap (λ z. z ++ operator_text op b) (chain_halves a left right)
    ∙ ap (λ n. chain_text (PlainExpr.binary op a b) n) (sym (add-suc left right))
chain_halves (PlainExpr.builtin function arguments) left right = refl
chain_halves (PlainExpr.parenthesized a) left right = refl

-- no operators of a chain have no text
pub chain_none : (e : PlainExpr) → chain_text e 0 ≡ []
chain_none (PlainExpr.number z) = refl
chain_none (PlainExpr.text value) = refl
chain_none (PlainExpr.bit value) = refl
chain_none (PlainExpr.variable reference) = refl
chain_none (PlainExpr.unary op a) = refl
chain_none (PlainExpr.binary op a b) = refl
chain_none (PlainExpr.builtin function arguments) = refl
chain_none (PlainExpr.parenthesized a) = refl
