-- What expressions come to in the frames of a run: every operand is evaluated, from left to right.
use Rattle.std.specs.Prelude.{ℕ, ℤ, List, [], ◌∷◌, Option, Some, None}
use Rattle.plcs_base.specs.declared.value.Value.{Value}
use Rattle.plcs_grammar.specs.PlainPhrase.{PlainExpr, PlainExprs, PlainVarRef}
use Rattle.plcs_store.specs.declared.argument.Argument.{Argument}
use Rattle.plcs_store.specs.declared.cell.Location.{Location}
use Rattle.plcs_store.specs.declared.frame.Frame.{Frame}
use Rattle.plcs_store.specs.BuiltinValue.{builtin_value}
use Rattle.plcs_store.specs.CellAt.{located, value_at}
use Rattle.plcs_store.specs.Operator.{infix_value, on_number, prefix_value}
use Rattle.plcs_store.specs.Outcome.{Outcome, both_give, then_gives}

-- the name of a variable where it is used, by which what it comes to in an expression is found in the frames of a run
abbrev pub name_of_reference : PlainVarRef → List ℕ
name_of_reference (PlainVarRef.simple name) = name
name_of_reference (PlainVarRef.subscripted name index) = name

abbrev mutual
  -- what an expression comes to
  pub expression_value : List Frame → PlainExpr → Outcome Value
  expression_value frames (PlainExpr.number z) = Outcome.gives (Value.Fixed z)
  expression_value frames (PlainExpr.text x) = Outcome.gives (Value.Text x)
  expression_value frames (PlainExpr.bit b) = Outcome.gives (Value.Bit b)
  expression_value frames (PlainExpr.variable reference) =
      then_gives (subscript_value frames reference) (λ subscript.
      then_gives (located frames (name_of_reference reference) subscript) (value_at frames))
  expression_value frames (PlainExpr.unary op a) = then_gives (expression_value frames a) (prefix_value op)
  expression_value frames (PlainExpr.binary op a b) =
      both_give (expression_value frames a) (expression_value frames b) (infix_value op)
  expression_value frames (PlainExpr.builtin function arguments) =
      then_gives (expression_values frames arguments) (builtin_value function)
  expression_value frames (PlainExpr.parenthesized a) = expression_value frames a

  -- what the subscript of a variable comes to, if it has one
  pub subscript_value : List Frame → PlainVarRef → Outcome (Option ℤ)
  subscript_value frames (PlainVarRef.simple name) = Outcome.gives None
  subscript_value frames (PlainVarRef.subscripted name index) =
      then_gives (expression_value frames index) (on_number (λ z. Outcome.gives (Some z)))

  -- what expressions come to, one after the other
  pub expression_values : List Frame → PlainExprs → Outcome (List Value)
  expression_values frames PlainExprs.nil = Outcome.gives []
  expression_values frames (PlainExprs.cons a rest) =
      both_give (expression_value frames a) (expression_values frames rest)
      (λ value values. Outcome.gives (value ∷ values))

-- for which location a variable finally stands where it is used: its subscript is evaluated, and then tested
abbrev pub reference_location : List Frame → PlainVarRef → Outcome Location
reference_location frames reference =
    then_gives (subscript_value frames reference) (located frames (name_of_reference reference))

-- what an expression comes to that is an argument of a call: a reference where it is a variable without parentheses,
-- and else its value
abbrev pub argument_value : List Frame → PlainExpr → Outcome Argument
argument_value frames (PlainExpr.variable reference) =
    then_gives (reference_location frames reference) (λ location. Outcome.gives (Argument.Reference location))
argument_value frames other = then_gives (expression_value frames other) (λ value. Outcome.gives (Argument.Dummy value))

-- the arguments of a call, one after the other
abbrev pub argument_values : List Frame → PlainExprs → Outcome (List Argument)
argument_values frames PlainExprs.nil = Outcome.gives []
argument_values frames (PlainExprs.cons a rest) =
    both_give (argument_value frames a) (argument_values frames rest) (λ value values. Outcome.gives (value ∷ values))
