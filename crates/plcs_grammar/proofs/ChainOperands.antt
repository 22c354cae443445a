-- Where a chain of operators ends, and its left operands.
use Rattle.std.proofs.Common.{◌≡◌, ◌<◌, ◌≤◌, ℕ, [], refl, ap, sym, ◌∙◌, arith, rules}
use Rattle.std.specs.Prelude.{Box}
use Rattle.std.specs.declared.alloc.Global.{Global}
use Rattle.plcs_grammar.specs.declared.operator.InfixOp.{InfixOp}
use Rattle.plcs_grammar.specs.declared.expr.Expr.{Expr, map-Expr, size-Expr}
use Rattle.plcs_grammar.specs.declared.expr.Expr.TheOpen.{Expr-F}
use Rattle.plcs_grammar.specs.declared.expr.Expr.TheViews.{out-Expr, roll-Expr, roll-out-Expr, the_lemmas}
use Rattle.plcs_grammar.specs.declared.expr.Expr.TheVariants.{Infix, rolls-Infix}
use Rattle.plcs_grammar.specs.declared.expr.VarRef.{VarRef}
use Rattle.plcs_grammar.specs.PlainExprCases.{expr_by_variant}
use Rattle.plcs_grammar.specs.PlainPhrase.{PlainExpr, PlainVarRef, plain_expr, plain_expr_level, plain_var_ref}
use Rattle.plcs_grammar.specs.Private.Chain.{chain_text}

-- one level of an expression that is no operator with two operands ends a chain
no_operator_in : (layer : Expr-F Expr VarRef) (n : ℕ)
    → ((op : InfixOp) (a b : Box Expr Global) → layer ≡ Expr-F.Infix op a b → ⊥)
    → chain_text (plain_expr_level (map-Expr Expr VarRef PlainExpr PlainVarRef plain_expr plain_var_ref layer)) n ≡ []
no_operator_in (Expr-F.Number z) n other = refl
no_operator_in (Expr-F.Text v) n other = refl
no_operator_in (Expr-F.Bit b) n other = refl
no_operator_in (Expr-F.Var r) n other = refl
no_operator_in (Expr-F.Prefix op a) n other = refl
no_operator_in (Expr-F.Infix op a b) n other = absurd (other op a b refl)
no_operator_in (Expr-F.Builtin function arguments) n other = refl
no_operator_in (Expr-F.Paren a) n other = refl

-- an expression that is no operator with two operands ends a chain
pub no_operator : (e : Expr) (n : ℕ) → ((op : InfixOp) (a b : Box Expr Global) → e ≡ Infix op a b → ⊥)
    → chain_text (plain_expr e) n ≡ []
no_operator e n other =
    ap (λ t. chain_text t n) (expr_by_variant e)
    ∙ no_operator_in (out-Expr e) n (λ op a b is. other op a b (sym (roll-out-Expr e) ∙ ap roll-Expr is ∙ rolls-Infix op a b))

-- a left operand is no deeper than its operator
pub left_no_deeper : (e : Expr) (op : InfixOp) (a b : Box Expr Global) → e ≡ Infix op a b → size-Expr a.value ≤ size-Expr e
left_no_deeper e op a b is =
    let sizes : size-Expr e ≡ size-Expr (Infix op a b) = ap size-Expr is in
    let smaller : size-Expr a.value ≤ size-Expr (Infix op a b) = search (rules, the_lemmas) in
    omega (arith, sizes, smaller)

-- the operands of an operator are less deep than it
pub operands_shallower : (e : Expr) (op : InfixOp) (a b : Box Expr Global) → e ≡ Infix op a b
    → (size-Expr a.value < size-Expr e) × (size-Expr b.value < size-Expr e)
operands_shallower e op a b is =
    let sizes : size-Expr e ≡ size-Expr (Infix op a b) = ap size-Expr is in
    let left : size-Expr a.value < size-Expr (Infix op a b) = search (rules, the_lemmas) in
    let right : size-Expr b.value < size-Expr (Infix op a b) = search (rules, the_lemmas) in
    (omega (arith, sizes, left), omega (arith, sizes, right))
