-- The signs of phrases, and the operators that they stand for.
use Rattle.std.specs.Prelude.{ℕ, List, [], ◌∷◌, codes, bytes_eq, find, Option}
use Rattle.plcs_grammar.specs.declared.operator.PrefixOp.{PrefixOp}
use Rattle.plcs_grammar.specs.declared.operator.PrefixOp.TheVariants as before
use Rattle.plcs_grammar.specs.declared.operator.InfixOp.{InfixOp}
use Rattle.plcs_grammar.specs.declared.operator.InfixOp.TheVariants as between
use Rattle.plcs_grammar.specs.declared.sign.Sign.{Sign}

-- how a sign is written
abbrev pub sign_bytes : Sign → List ℕ
sign_bytes Sign.Plus = codes "+"
sign_bytes Sign.Minus = codes "-"
sign_bytes Sign.Times = codes "*"
sign_bytes Sign.Divide = codes "/"
sign_bytes Sign.Join = codes "||"
sign_bytes Sign.Equal = codes "="
sign_bytes Sign.NotEqual = codes "^="
sign_bytes Sign.Less = codes "<"
sign_bytes Sign.LessEqual = codes "<="
sign_bytes Sign.Greater = codes ">"
sign_bytes Sign.GreaterEqual = codes ">="
sign_bytes Sign.Ampersand = codes "&"
sign_bytes Sign.Bar = codes "|"
sign_bytes Sign.Caret = codes "^"
sign_bytes Sign.OpenParenthesis = codes "("
sign_bytes Sign.CloseParenthesis = codes ")"
sign_bytes Sign.Comma = codes ","

-- all signs
abbrev pub signs : List Sign
signs =
    Sign.Plus ∷ Sign.Minus ∷ Sign.Times ∷ Sign.Divide ∷ Sign.Join ∷ Sign.Equal
    ∷ Sign.NotEqual ∷ Sign.Less ∷ Sign.LessEqual ∷ Sign.Greater ∷ Sign.GreaterEqual ∷ Sign.Ampersand
    ∷ Sign.Bar ∷ Sign.Caret ∷ Sign.OpenParenthesis ∷ Sign.CloseParenthesis ∷ Sign.Comma ∷ []

-- the sign that is written so, if there is one
abbrev pub sign_of : List ℕ → Option Sign
sign_of bytes = find (λ sign. bytes_eq bytes (sign_bytes sign)) signs

-- the sign of an operator before its operand
abbrev pub prefix_sign : PrefixOp → Sign
prefix_sign before.Plus = Sign.Plus
prefix_sign before.Minus = Sign.Minus
prefix_sign before.Not = Sign.Caret

-- the sign of an operator between its operands
abbrev pub infix_sign : InfixOp → Sign
infix_sign between.Or = Sign.Bar
infix_sign between.And = Sign.Ampersand
infix_sign between.Equal = Sign.Equal
infix_sign between.NotEqual = Sign.NotEqual
infix_sign between.Less = Sign.Less
infix_sign between.LessEqual = Sign.LessEqual
infix_sign between.Greater = Sign.Greater
infix_sign between.GreaterEqual = Sign.GreaterEqual
infix_sign between.Join = Sign.Join
infix_sign between.Plus = Sign.Plus
infix_sign between.Minus = Sign.Minus
infix_sign between.Times = Sign.Times
infix_sign between.Divide = Sign.Divide
