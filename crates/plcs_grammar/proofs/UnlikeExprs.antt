-- Expressions of different variants, whose plain forms differ.
use Rattle.std.proofs.Common.{◌≡◌, ◌↔◌, IsTrue, Bool, List, ℕ, ℤ, false, sym, ◌∙◌, subst}
use Rattle.std.specs.Prelude.{Box, Vec}
use Rattle.std.specs.declared.alloc.Global.{Global}
use Rattle.plcs_grammar.specs.declared.builtin.Builtin.{Builtin as Function}
use Rattle.plcs_grammar.specs.declared.operator.PrefixOp.{PrefixOp}
use Rattle.plcs_grammar.specs.declared.operator.InfixOp.{InfixOp}
use Rattle.plcs_grammar.specs.declared.expr.Expr.{Expr, map-Expr}
use Rattle.plcs_grammar.specs.declared.expr.Expr.TheOpen.{Expr-F}
use Rattle.plcs_grammar.specs.declared.expr.Expr.TheViews.{out-Expr, roll-Expr, roll-out-Expr}
use Rattle.plcs_grammar.specs.declared.expr.Expr.TheVariants.{Number, Text, Bit, Var, Prefix, Infix, Builtin, Paren}
use Rattle.plcs_grammar.specs.declared.expr.Expr.TheVariants.{rolls-Number, rolls-Text, rolls-Bit, rolls-Var, rolls-Prefix, rolls-Infix, rolls-Builtin, rolls-Paren}
use Rattle.plcs_grammar.specs.declared.expr.VarRef.{VarRef}
use Rattle.plcs_grammar.specs.PlainExprCases.{expr_by_variant}
use Rattle.plcs_grammar.specs.PlainPhrase.{PlainExpr, PlainVarRef, plain_expr, plain_expr_level, plain_var_ref}
use Rattle.plcs_grammar.proofs.EqualPlainPhrases.{told_no}

-- the expression is of the variant that has plain forms like this
abbrev pub IsLike : PlainExpr → Expr → Type 0
IsLike (PlainExpr.number own) e = (z : ℤ) × (e ≡ Number z)
IsLike (PlainExpr.text own) e = (text : Box (List ℕ) Global) × (e ≡ Text text)
IsLike (PlainExpr.bit own) e = (b : Bool) × (e ≡ Bit b)
IsLike (PlainExpr.variable own) e = (r : VarRef) × (e ≡ Var r)
IsLike (PlainExpr.unary own inner) e = (op : PrefixOp) × (a : Box Expr Global) × (e ≡ Prefix op a)
IsLike (PlainExpr.binary own left right) e = (op : InfixOp) × (a : Box Expr Global) × (b : Box Expr Global) × (e ≡ Infix op a b)
IsLike (PlainExpr.builtin own inner) e = (function : Function) × (arguments : Vec Expr Global) × (e ≡ Builtin function arguments)
IsLike (PlainExpr.parenthesized own) e = (a : Box Expr Global) × (e ≡ Paren a)

-- as each expression is by one level of it
by_level : (layer : Expr-F Expr VarRef) (e : Expr) → e ≡ roll-Expr layer
    → IsLike (plain_expr_level (map-Expr Expr VarRef PlainExpr PlainVarRef plain_expr plain_var_ref layer)) e
by_level (Expr-F.Number z) e is = (z, is ∙ rolls-Number z)
by_level (Expr-F.Text text) e is = (text, is ∙ rolls-Text text)
by_level (Expr-F.Bit b) e is = (b, is ∙ rolls-Bit b)
by_level (Expr-F.Var r) e is = (r, is ∙ rolls-Var r)
by_level (Expr-F.Prefix op a) e is = (op, a, is ∙ rolls-Prefix op a)
by_level (Expr-F.Infix op a b) e is = (op, a, b, is ∙ rolls-Infix op a b)
by_level (Expr-F.Builtin function arguments) e is = (function, arguments, is ∙ rolls-Builtin function arguments)
by_level (Expr-F.Paren a) e is = (a, is ∙ rolls-Paren a)

by_plain_form : (e : Expr) → IsLike (plain_expr e) e
by_plain_form e = subst (λ t. IsLike t e) (sym (expr_by_variant e)) (by_level (out-Expr e) e (sym (roll-out-Expr e)))

-- an expression with a plain form and one that isn't of that variant have different plain forms
pub unlike : (p q : Expr) (own : PlainExpr) → plain_expr p ≡ own → (IsLike own q → ⊥) → IsTrue false ↔ (plain_expr p ≡ plain_expr q)
unlike p q own is other = told_no (λ same. other (subst (λ t. IsLike t q) (sym same ∙ is) (by_plain_form q)))
