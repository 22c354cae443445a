-- Which arguments are passed by a dummy.
use Rattle.std.proofs.Common.{◌≡◌, ◌++◌, [], ◌∷◌, refl, ap, sym, ◌∙◌}
use Rattle.plcs_grammar.specs.declared.expr.Expr.{Expr, map-Expr}
use Rattle.plcs_grammar.specs.declared.expr.Expr.TheOpen.{Expr-F}
use Rattle.plcs_grammar.specs.declared.expr.Expr.TheViews.{out-Expr, roll-Expr, roll-out-Expr}
use Rattle.plcs_grammar.specs.declared.expr.Expr.TheVariants.{Var, rolls-Var}
use Rattle.plcs_grammar.specs.declared.expr.VarRef.{VarRef}
use Rattle.plcs_grammar.specs.PlainExprCases.{expr_by_variant}
use Rattle.plcs_grammar.specs.PlainPhrase.{PlainExpr, PlainVarRef, plain_expr, plain_expr_level, plain_var_ref}
use Rattle.plcs_code.specs.ExprCode.{argument_instrs, expr_instrs}
use Rattle.plcs_code.specs.PlainInstr.{PlainInstr}

-- an argument that is no variable is passed by a dummy, level by level
argument_level : (layer : Expr-F Expr VarRef) → ((r : VarRef) → layer ≡ Expr-F.Var r → ⊥)
    → (let e : PlainExpr = plain_expr_level (map-Expr Expr VarRef PlainExpr PlainVarRef plain_expr plain_var_ref layer) in argument_instrs e ≡ expr_instrs e ++ (PlainInstr.dummy ∷ []))
argument_level (Expr-F.Number z) other = refl
argument_level (Expr-F.Text v) other = refl
argument_level (Expr-F.Bit b) other = refl
argument_level (Expr-F.Var r) other = absurd (other r refl)
argument_level (Expr-F.Prefix op a) other = refl
argument_level (Expr-F.Infix op a b) other = refl
argument_level (Expr-F.Builtin function arguments) other = refl
argument_level (Expr-F.Paren a) other = refl

-- an argument that is no variable is passed by a dummy
pub argument_other : (e : Expr) → ((r : VarRef) → e ≡ Var r → ⊥) → argument_instrs (plain_expr e) ≡ expr_instrs (plain_expr e) ++ (PlainInstr.dummy ∷ [])
argument_other e other =
    ap argument_instrs (expr_by_variant e)
    ∙ argument_level (out-Expr e) (λ r is. other r (sym (roll-out-Expr e) ∙ ap roll-Expr is ∙ rolls-Var r))
    ∙ sym (ap (λ (t : PlainExpr). expr_instrs t ++ (PlainInstr.dummy ∷ [])) (expr_by_variant e))
