-- Phrases as plain data, which is what a text reads as, and the plain form of each phrase of the code: the same data,
-- with a list for each Vec and the bytes of each name and text.
use Rattle.std.specs.Prelude.{ℕ, ℤ, Bool, List, [], ◌∷◌, map, Option, Some, None, Box}
use Rattle.std.specs.declared.alloc.Global.{Global}
use Rattle.plcs_grammar.specs.declared.operator.PrefixOp.{PrefixOp}
use Rattle.plcs_grammar.specs.declared.operator.InfixOp.{InfixOp}
use Rattle.plcs_grammar.specs.declared.builtin.Builtin.{Builtin}
use Rattle.plcs_grammar.specs.declared.item.Item.{Item}
use Rattle.plcs_grammar.specs.declared.category.Category.{Category}
use Rattle.plcs_grammar.specs.declared.expr.Expr.{Expr, fold-Expr}
use Rattle.plcs_grammar.specs.declared.expr.Expr.TheOpen.{Expr-F, VarRef-F}
use Rattle.plcs_grammar.specs.declared.expr.VarRef.{VarRef, fold-VarRef}
use Rattle.plcs_grammar.specs.declared.phrase.Phrase.{Phrase}

mutual
  -- an expression as plain data; a number in it that a text can have is not negative
  pub data PlainExpr : Type 0 where
    number : ℤ → PlainExpr
    text : List ℕ → PlainExpr
    bit : Bool → PlainExpr
    variable : PlainVarRef → PlainExpr
    unary : PrefixOp → PlainExpr → PlainExpr
    binary : InfixOp → PlainExpr → PlainExpr → PlainExpr
    builtin : Builtin → PlainExprs → PlainExpr
    parenthesized : PlainExpr → PlainExpr

  -- a variable where it is used, as plain data: its name, with a subscript or without one
  pub data PlainVarRef : Type 0 where
    simple : List ℕ → PlainVarRef
    subscripted : List ℕ → PlainExpr → PlainVarRef

  -- a list of expressions as plain data
  pub data PlainExprs : Type 0 where
    nil : PlainExprs
    cons : PlainExpr → PlainExprs → PlainExprs

-- a phrase as plain data; names are their bytes, and a call without arguments has none in its list
pub data PlainPhrase : Type 0 where
  assignment : PlainVarRef → PlainExpr → PlainPhrase
  condition : PlainExpr → PlainPhrase
  expression : PlainExpr → PlainPhrase
  expression_list : PlainExprs → PlainPhrase
  variable_list : List PlainVarRef → PlainPhrase
  variable_name : List ℕ → PlainPhrase
  call : List ℕ → PlainExprs → PlainPhrase
  declared_list : List Item → PlainPhrase
  procedure_name : List ℕ → PlainPhrase
  name_list : List (List ℕ) → PlainPhrase
  greatest_length : ℕ → PlainPhrase
  comment : List ℕ → PlainPhrase

-- the category of a phrase that is plain data
abbrev pub category_of : PlainPhrase → Category
category_of (assignment target value) = Category.Assignment
category_of (condition e) = Category.Condition
category_of (expression e) = Category.Expression
category_of (expression_list es) = Category.ExpressionList
category_of (variable_list targets) = Category.VariableList
category_of (variable_name name) = Category.Variable
category_of (call name arguments) = Category.CallRef
category_of (declared_list items) = Category.DeclaredList
category_of (procedure_name name) = Category.ProcedureName
category_of (name_list names) = Category.NameList
category_of (greatest_length n) = Category.Length
category_of (comment bytes) = Category.CommentText

-- the list of expressions as plain data, made of a list of plain expressions
abbrev pub exprs_from : List PlainExpr → PlainExprs
exprs_from [] = PlainExprs.nil
exprs_from (t ∷ ts) = PlainExprs.cons t (exprs_from ts)

-- in a phrase as plain data, the variable of this name with its subscript, already in plain form, if there is one
abbrev pub reference_with : List ℕ → Option (Box PlainExpr Global) → PlainVarRef
reference_with name None = PlainVarRef.simple name
reference_with name (Some index) = PlainVarRef.subscripted name index.value

-- the plain form of one level of an expression, with what is inside already in plain form
abbrev pub plain_expr_level : Expr-F PlainExpr PlainVarRef → PlainExpr
plain_expr_level (Expr-F.Number z) = PlainExpr.number z
plain_expr_level (Expr-F.Text v) = PlainExpr.text v.value
plain_expr_level (Expr-F.Bit b) = PlainExpr.bit b
plain_expr_level (Expr-F.Var r) = PlainExpr.variable r
plain_expr_level (Expr-F.Prefix op a) = PlainExpr.unary op a.value
plain_expr_level (Expr-F.Infix op a b) = PlainExpr.binary op a.value b.value
plain_expr_level (Expr-F.Builtin function arguments) = PlainExpr.builtin function (exprs_from arguments.items)
plain_expr_level (Expr-F.Paren a) = PlainExpr.parenthesized a.value

-- the plain form of one level of a variable of the code: the same data, with its subscript already in plain form
abbrev pub plain_var_ref_level : VarRef-F PlainExpr PlainVarRef → PlainVarRef
plain_var_ref_level r = reference_with r.name r.index

-- the plain form of an expression
abbrev pub plain_expr : Expr → PlainExpr
plain_expr = fold-Expr PlainExpr PlainVarRef plain_expr_level plain_var_ref_level

-- the plain form of a variable
abbrev pub plain_var_ref : VarRef → PlainVarRef
plain_var_ref = fold-VarRef PlainExpr PlainVarRef plain_expr_level plain_var_ref_level

-- the plain form of a list of expressions
abbrev pub plain_exprs : List Expr → PlainExprs
plain_exprs es = exprs_from (map plain_expr es)

-- the plain form of a phrase
abbrev pub plain_phrase : Phrase → PlainPhrase
plain_phrase (Phrase.Assignment target value) = PlainPhrase.assignment (plain_var_ref target) (plain_expr value)
plain_phrase (Phrase.Condition e) = PlainPhrase.condition (plain_expr e)
plain_phrase (Phrase.Expression e) = PlainPhrase.expression (plain_expr e)
plain_phrase (Phrase.ExpressionList es) = PlainPhrase.expression_list (plain_exprs es.items)
plain_phrase (Phrase.VariableList targets) = PlainPhrase.variable_list (map plain_var_ref targets.items)
plain_phrase (Phrase.Variable name) = PlainPhrase.variable_name name
plain_phrase (Phrase.CallRef name arguments) = PlainPhrase.call name (plain_exprs arguments.items)
plain_phrase (Phrase.DeclaredList items) = PlainPhrase.declared_list items.items
plain_phrase (Phrase.ProcedureName name) = PlainPhrase.procedure_name name
plain_phrase (Phrase.NameList names) = PlainPhrase.name_list names.items
plain_phrase (Phrase.Length n) = PlainPhrase.greatest_length n
plain_phrase (Phrase.CommentText bytes) = PlainPhrase.comment bytes.items
