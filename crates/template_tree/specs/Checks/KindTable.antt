-- The tables of kinds: what operators and built-in functions take and give.
use Rattle.std.specs.Prelude.{Bool, true, false, List, [], ◌∷◌, Option, Some, None}
use Rattle.plcs_base.specs.declared.value.Kind.{Kind}
use Rattle.plcs_grammar.specs.declared.builtin.Builtin.{Builtin}
use Rattle.plcs_grammar.specs.declared.operator.InfixOp.{InfixOp}
use Rattle.plcs_grammar.specs.declared.operator.PrefixOp.{PrefixOp}

-- whether two kinds, of operands or arguments, are the same
abbrev pub same_kind : Kind → Kind → Bool
same_kind Kind.Fixed Kind.Fixed = true
same_kind Kind.Bit Kind.Bit = true
same_kind Kind.Text Kind.Text = true
same_kind one other = false

-- the kind that a prefix operator takes and gives
abbrev pub prefix_kind : PrefixOp → Kind
prefix_kind PrefixOp.Plus = Kind.Fixed
prefix_kind PrefixOp.Minus = Kind.Fixed
prefix_kind PrefixOp.Not = Kind.Bit

-- the kind of which an infix operator takes two, if there is one: a comparison takes two of any one kind
abbrev pub infix_takes : InfixOp → Option Kind
infix_takes InfixOp.Or = Some Kind.Bit
infix_takes InfixOp.And = Some Kind.Bit
infix_takes InfixOp.Equal = None
infix_takes InfixOp.NotEqual = None
infix_takes InfixOp.Less = None
infix_takes InfixOp.LessEqual = None
infix_takes InfixOp.Greater = None
infix_takes InfixOp.GreaterEqual = None
infix_takes InfixOp.Join = Some Kind.Text
infix_takes InfixOp.Plus = Some Kind.Fixed
infix_takes InfixOp.Minus = Some Kind.Fixed
infix_takes InfixOp.Times = Some Kind.Fixed
infix_takes InfixOp.Divide = Some Kind.Fixed

-- the kind that an infix operator gives
abbrev pub infix_gives : InfixOp → Kind
infix_gives InfixOp.Or = Kind.Bit
infix_gives InfixOp.And = Kind.Bit
infix_gives InfixOp.Equal = Kind.Bit
infix_gives InfixOp.NotEqual = Kind.Bit
infix_gives InfixOp.Less = Kind.Bit
infix_gives InfixOp.LessEqual = Kind.Bit
infix_gives InfixOp.Greater = Kind.Bit
infix_gives InfixOp.GreaterEqual = Kind.Bit
infix_gives InfixOp.Join = Kind.Text
infix_gives InfixOp.Plus = Kind.Fixed
infix_gives InfixOp.Minus = Kind.Fixed
infix_gives InfixOp.Times = Kind.Fixed
infix_gives InfixOp.Divide = Kind.Fixed

-- a row of the table of what built-in functions take and give: the kinds of the arguments that one takes, the kind of
-- one more that it perhaps takes, and the kind that it gives
pub record PlainBuiltinRow : Type 0 where
  pub takes : List Kind
  pub perhaps : Option Kind
  pub gives : Kind

-- the table of the kinds that built-in functions take and give
abbrev pub builtin_row : Builtin → PlainBuiltinRow
builtin_row Builtin.Abs = record { takes = Kind.Fixed ∷ []; perhaps = None; gives = Kind.Fixed }
builtin_row Builtin.Mod = record { takes = Kind.Fixed ∷ (Kind.Fixed ∷ []); perhaps = None; gives = Kind.Fixed }
builtin_row Builtin.Min = record { takes = Kind.Fixed ∷ (Kind.Fixed ∷ []); perhaps = None; gives = Kind.Fixed }
builtin_row Builtin.Max = record { takes = Kind.Fixed ∷ (Kind.Fixed ∷ []); perhaps = None; gives = Kind.Fixed }
builtin_row Builtin.Length = record { takes = Kind.Text ∷ []; perhaps = None; gives = Kind.Fixed }
builtin_row Builtin.Substr =
    record { takes = Kind.Text ∷ (Kind.Fixed ∷ []); perhaps = Some Kind.Fixed; gives = Kind.Text }
builtin_row Builtin.Index = record { takes = Kind.Text ∷ (Kind.Text ∷ []); perhaps = None; gives = Kind.Fixed }
