-- The plain form of an expression and of a variable, variant by variant: what follows of it from its levels.
use Rattle.std.proofs.Common.{ap, sym, ◌∙◌}
use Rattle.std.specs.Prelude.{◌≡◌, ℕ, ℤ, Bool, List, Option, Some, None, Box, Vec}
use Rattle.std.specs.declared.alloc.Global.{Global}
use Rattle.plcs_grammar.specs.declared.builtin.Builtin.{Builtin as Function}
use Rattle.plcs_grammar.specs.declared.operator.PrefixOp.{PrefixOp}
use Rattle.plcs_grammar.specs.declared.operator.InfixOp.{InfixOp}
use Rattle.plcs_grammar.specs.declared.expr.Expr.{Expr, fold_out-Expr, map-Expr}
use Rattle.plcs_grammar.specs.declared.expr.Expr.TheViews.{out-Expr}
use Rattle.plcs_grammar.specs.declared.expr.Expr.TheVariants.{Number, Text, Bit, Var, Prefix, Infix, Builtin, Paren}
use Rattle.plcs_grammar.specs.declared.expr.Expr.TheVariants.{rolls-Number, rolls-Text, rolls-Bit, rolls-Var, rolls-Prefix, rolls-Infix, rolls-Builtin, rolls-Paren}
use Rattle.plcs_grammar.specs.declared.expr.Expr.TheFolds.{fold-roll-Expr}
use Rattle.plcs_grammar.specs.declared.expr.VarRef.{VarRef, fold_out-VarRef, map-VarRef}
use Rattle.plcs_grammar.specs.PlainPhrase.{PlainExpr, PlainVarRef, plain_expr, plain_expr_level, plain_var_ref_level, plain_exprs, plain_var_ref}

-- the plain form of an expression, by which variant it is
pub expr_by_variant : (e : Expr)
    → plain_expr e ≡ plain_expr_level (map-Expr Expr VarRef PlainExpr PlainVarRef plain_expr plain_var_ref (out-Expr e))
expr_by_variant e = fold_out-Expr PlainExpr PlainVarRef plain_expr_level plain_var_ref_level e

-- the plain form of a number
pub expr_number : (e : Expr) (z : ℤ) → e ≡ Number z → plain_expr e ≡ PlainExpr.number z
expr_number e z is =
    ap plain_expr is ∙ ap plain_expr (sym (rolls-Number z))
    ∙ fold-roll-Expr PlainExpr PlainVarRef plain_expr_level plain_var_ref_level _

-- the plain form of a character constant
pub expr_text : (e : Expr) (text : Box (List ℕ) Global) → e ≡ Text text → plain_expr e ≡ PlainExpr.text text.value
expr_text e text is =
    ap plain_expr is ∙ ap plain_expr (sym (rolls-Text text))
    ∙ fold-roll-Expr PlainExpr PlainVarRef plain_expr_level plain_var_ref_level _

-- the plain form of a bit constant
pub expr_bit : (e : Expr) (b : Bool) → e ≡ Bit b → plain_expr e ≡ PlainExpr.bit b
expr_bit e b is =
    ap plain_expr is ∙ ap plain_expr (sym (rolls-Bit b))
    ∙ fold-roll-Expr PlainExpr PlainVarRef plain_expr_level plain_var_ref_level _

-- the plain form of a variable as an expression
pub expr_variable : (e : Expr) (r : VarRef) → e ≡ Var r → plain_expr e ≡ PlainExpr.variable (plain_var_ref r)
expr_variable e r is =
    ap plain_expr is ∙ ap plain_expr (sym (rolls-Var r))
    ∙ fold-roll-Expr PlainExpr PlainVarRef plain_expr_level plain_var_ref_level _

-- the plain form of an operator before its operand
pub expr_prefix : (e : Expr) (op : PrefixOp) (a : Box Expr Global)
    → e ≡ Prefix op a → plain_expr e ≡ PlainExpr.unary op (plain_expr a.value)
expr_prefix e op a is =
    ap plain_expr is ∙ ap plain_expr (sym (rolls-Prefix op a))
    ∙ fold-roll-Expr PlainExpr PlainVarRef plain_expr_level plain_var_ref_level _

-- the plain form of an operator between its operands
pub expr_infix : (e : Expr) (op : InfixOp) (a b : Box Expr Global)
    → e ≡ Infix op a b → plain_expr e ≡ PlainExpr.binary op (plain_expr a.value) (plain_expr b.value)
expr_infix e op a b is =
    ap plain_expr is ∙ ap plain_expr (sym (rolls-Infix op a b))
    ∙ fold-roll-Expr PlainExpr PlainVarRef plain_expr_level plain_var_ref_level _

-- the plain form of an expression in parentheses
pub expr_paren : (e : Expr) (a : Box Expr Global) → e ≡ Paren a
    → plain_expr e ≡ PlainExpr.parenthesized (plain_expr a.value)
expr_paren e a is =
    ap plain_expr is ∙ ap plain_expr (sym (rolls-Paren a))
    ∙ fold-roll-Expr PlainExpr PlainVarRef plain_expr_level plain_var_ref_level _

-- the plain form of a call of a built-in function
pub expr_builtin : (e : Expr) (function : Function) (arguments : Vec Expr Global)
    → e ≡ Builtin function arguments → plain_expr e ≡ PlainExpr.builtin function (plain_exprs arguments.items)
expr_builtin e function arguments is =
    ap plain_expr is ∙ ap plain_expr (sym (rolls-Builtin function arguments))
    ∙ fold-roll-Expr PlainExpr PlainVarRef plain_expr_level plain_var_ref_level _

-- the plain form of a variable with this subscript, or without one
reference_by_index : (v : VarRef) (index : Option (Box Expr Global)) → v.index ≡ index
    → plain_var_ref v
    ≡ plain_var_ref_level
    (map-VarRef Expr VarRef PlainExpr PlainVarRef plain_expr plain_var_ref (record { name = v.name; index = index }))
reference_by_index v index is =
    fold_out-VarRef PlainExpr PlainVarRef plain_expr_level plain_var_ref_level v
    ∙ ap
    (λ (i : Option (Box Expr Global)).
    plain_var_ref_level
    (map-VarRef Expr VarRef PlainExpr PlainVarRef plain_expr plain_var_ref (record { name = v.name; index = i })))
    is

-- the plain form of a variable without a subscript
pub reference_simple : (v : VarRef) → v.index ≡ None → plain_var_ref v ≡ PlainVarRef.simple v.name
reference_simple v is = reference_by_index v None is

-- the plain form of a variable with a subscript
pub reference_subscripted : (v : VarRef) (index : Box Expr Global)
    → v.index ≡ Some index → plain_var_ref v ≡ PlainVarRef.subscripted v.name (plain_expr index.value)
reference_subscripted v index is = reference_by_index v (Some index) is
