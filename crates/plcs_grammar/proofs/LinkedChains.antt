-- One operator more in a chain that is taken apart, and the chain that is made of it again.
use Rattle.std.proofs.Common.{◌≡◌, List, [], ◌∷◌, ◌++◌, refl, ap, sym, ◌∙◌, subst}
use Rattle.std.specs.Prelude.{Result, IfOk}
use Rattle.plcs_grammar.specs.declared.expr.Expr.{Expr}
use Rattle.plcs_grammar.specs.declared.expr_copy.Link.{Link}
use Rattle.plcs_grammar.specs.PlainPhrase.{PlainExpr, plain_expr}
use Rattle.plcs_grammar.specs.Private.Link.{linked}

pub linked_push : (operand : PlainExpr) (links : List Link) (link : Link)
    → linked operand (links ++ (link ∷ [])) ≡ linked (PlainExpr.binary link.op operand (plain_expr link.right)) links
linked_push operand [] link = refl
linked_push operand (first ∷ links) link = ap (λ t. PlainExpr.binary first.op t (plain_expr first.right)) (linked_push operand links link)

-- a chain that is made again of an operand with the same plain form has the same plain form
pub made_again : {E : Type 0} (r : Result Expr E) (links : List Link) (operand first whole : PlainExpr)
    → whole ≡ linked first links → operand ≡ first → IfOk r (λ chain. plain_expr chain ≡ linked operand links)
    → IfOk r (λ chain. plain_expr chain ≡ whole)
made_again r links operand first whole whole_is same made =
    subst (λ t. IfOk r (λ chain. plain_expr chain ≡ t)) (ap (λ t. linked t links) same ∙ sym whole_is) made
