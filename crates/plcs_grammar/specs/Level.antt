-- Which tokens are which expression: the levels of priority that operators join.
use Rattle.std.specs.Prelude.{◌≡◌, ℕ, ◌+◌, ◌≤◌, pos, negsuc, not, List, [], ◌∷◌, ◌++◌, IsTrue}
use Rattle.plcs_grammar.specs.declared.operator.InfixOp.{InfixOp}
use Rattle.plcs_grammar.specs.declared.operator.InfixOp.TheVariants.{Or, And, Equal, NotEqual, Less, LessEqual, Greater, GreaterEqual, Join, Plus, Minus, Times, Divide}
use Rattle.plcs_grammar.specs.Builtin.{builtin_name, is_builtin_name}
use Rattle.plcs_grammar.specs.declared.sign.Sign.{Sign}
use Rattle.plcs_grammar.specs.Sign.{prefix_sign, infix_sign}
use Rattle.plcs_grammar.specs.Token.{Token}
use Rattle.plcs_grammar.specs.PlainPhrase.{PlainExpr, PlainExprs, PlainVarRef}

-- the level that an infix operator joins: 1 for the one that joins last
abbrev pub priority : InfixOp → ℕ
priority Or = 1
priority And = 2
priority Equal = 3
priority NotEqual = 3
priority Less = 3
priority LessEqual = 3
priority Greater = 3
priority GreaterEqual = 3
priority Join = 4
priority Plus = 5
priority Minus = 5
priority Times = 6
priority Divide = 6

-- the level of primaries, and of a prefix operator with its operand
abbrev pub tightest : ℕ
tightest = 7

-- the variable at its level is no call: a built-in name before a parenthesis is a call's, and no variable's
abbrev pub IsNoCall : PlainVarRef → Type 0
IsNoCall (PlainVarRef.simple name) = Unit {0}
IsNoCall (PlainVarRef.subscripted name index) = IsTrue (not (is_builtin_name name))

-- the tokens of an expression are the name alone, as those of a variable without a subscript are
abbrev pub IsNameToken : List ℕ → List Token → Type 0
IsNameToken name tokens = tokens ≡ Token.name name ∷ []

-- some tokens in parentheses, as an expression, a subscript or arguments stand in them
abbrev pub in_parentheses : List Token → List Token
in_parentheses tokens = Token.sign Sign.OpenParenthesis ∷ (tokens ++ (Token.sign Sign.CloseParenthesis ∷ []))

abbrev mutual
  -- the tokens are the expression, at this level or a higher one
  pub Level : PlainExpr → ℕ → List Token → Type 0
  Level (PlainExpr.number (pos n)) level tokens = tokens ≡ Token.number n ∷ []
  Level (PlainExpr.number (negsuc n)) level tokens = ⊥
  Level (PlainExpr.text value) level tokens = tokens ≡ Token.text value ∷ []
  Level (PlainExpr.bit value) level tokens = tokens ≡ Token.bit value ∷ []
  Level (PlainExpr.variable reference) level tokens = IsNoCall reference × IsReference reference tokens
  Level (PlainExpr.unary op a) level tokens =
      (inner : List Token) × (tokens ≡ Token.sign (prefix_sign op) ∷ inner) × Level a tightest inner
  Level (PlainExpr.binary op a b) level tokens =
      (level ≤ priority op) × (left right : List Token) × (tokens ≡ left ++ (Token.sign (infix_sign op) ∷ right))
      × Level a (priority op) left × Level b (priority op + 1) right
  Level (PlainExpr.builtin function arguments) level tokens =
      (inner : List Token) × (tokens ≡ Token.name (builtin_name function) ∷ in_parentheses inner)
      × IsExprList arguments inner
  Level (PlainExpr.parenthesized a) level tokens =
      (inner : List Token) × (tokens ≡ in_parentheses inner) × Level a 1 inner

  -- the tokens are the variable: a name, or a name and, in parentheses, a subscript of the lowest level
  pub IsReference : PlainVarRef → List Token → Type 0
  IsReference (PlainVarRef.simple name) tokens = IsNameToken name tokens
  IsReference (PlainVarRef.subscripted name index) tokens =
      (inner : List Token) × (tokens ≡ Token.name name ∷ in_parentheses inner) × Level index 1 inner

  -- the tokens are the expressions, one or more of the lowest level, joined by commas
  pub IsExprList : PlainExprs → List Token → Type 0
  IsExprList PlainExprs.nil tokens = ⊥
  IsExprList (PlainExprs.cons a rest) tokens =
      (left right : List Token) × (tokens ≡ left ++ right) × Level a 1 left × IsMoreExprs rest right

  -- the tokens are more expressions of the lowest level, each behind a comma
  pub IsMoreExprs : PlainExprs → List Token → Type 0
  IsMoreExprs PlainExprs.nil tokens = tokens ≡ []
  IsMoreExprs (PlainExprs.cons a rest) tokens =
      (left right : List Token) × (tokens ≡ Token.sign Sign.Comma ∷ (left ++ right)) × Level a 1 left
      × IsMoreExprs rest right
