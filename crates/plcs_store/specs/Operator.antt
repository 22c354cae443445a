-- What operators make of values.
use Rattle.std.specs.Prelude.{ℕ, ◌-◌, ◌%◌, ◌^◌, ◌==◌, nat_lt, nat_le, ℤ, pos, negsuc, ◌+ℤ◌, ◌-ℤ◌, ◌*ℤ◌, neg_ℤ, int_div, Bool, false, not, ◌&&◌, ◌||◌, if◌then◌else◌, List, ◌++◌, length, replicate, Option, Some, None}
use Rattle.std.specs.Cmp.Lexicographic.{slice_cmp}
use Rattle.std.specs.Option.{option_map_or}
use Rattle.std.specs.Ordering.{bool_cmp, int_cmp, is_eq, is_ge, is_gt, is_le, is_lt, is_ne, nat_cmp}
use Rattle.std.specs.declared.cmp.Ordering.{Ordering}
use Rattle.plcs_base.specs.declared.value.Value.{Value}
use Rattle.plcs_base.specs.Text.{longest_text}
use Rattle.plcs_grammar.specs.declared.operator.InfixOp.{InfixOp}
use Rattle.plcs_grammar.specs.declared.operator.PrefixOp.{PrefixOp}
use Rattle.plcs_store.specs.declared.fault_kind.FaultKind.{FaultKind}
use Rattle.plcs_store.specs.Outcome.{Outcome, faults}

-- ---- values of a kind

-- what an operator makes of a whole number
abbrev pub on_number : {A : Type 0} → (ℤ → Outcome A) → Value → Outcome A
on_number make (Value.Fixed z) = make z
on_number make (Value.Bit b) = Outcome.undefined
on_number make (Value.Text x) = Outcome.undefined

-- what an operator makes of a truth value
abbrev pub on_bit : {A : Type 0} → (Bool → Outcome A) → Value → Outcome A
on_bit make (Value.Fixed z) = Outcome.undefined
on_bit make (Value.Bit b) = make b
on_bit make (Value.Text x) = Outcome.undefined

-- what an operator makes of a text
abbrev pub on_text : {A : Type 0} → (List ℕ → Outcome A) → Value → Outcome A
on_text make (Value.Fixed z) = Outcome.undefined
on_text make (Value.Bit b) = Outcome.undefined
on_text make (Value.Text x) = make x

-- what an operator makes of two whole numbers
abbrev pub on_numbers : (ℤ → ℤ → Outcome Value) → Value → Value → Outcome Value
on_numbers make left right = on_number (λ a. on_number (make a) right) left

-- what an operator makes of two truth values
abbrev pub on_bits : (Bool → Bool → Outcome Value) → Value → Value → Outcome Value
on_bits make left right = on_bit (λ a. on_bit (make a) right) left

-- what an operator makes of two texts
abbrev pub on_texts : (List ℕ → List ℕ → Outcome Value) → Value → Value → Outcome Value
on_texts make left right = on_text (λ a. on_text (make a) right) left

-- ---- whole numbers

-- whether an operator may give a number: it is from -2147483648 to 2147483647
abbrev pub is_fixed : ℤ → Bool
is_fixed (pos n) = nat_lt n (2 ^ 31)
is_fixed (negsuc n) = nat_lt n (2 ^ 31)

-- the whole number as the value that an operator gives, if it is one
abbrev pub fixed_value : ℤ → Outcome Value
fixed_value z = if is_fixed z then Outcome.gives (Value.Fixed z) else faults FaultKind.FixedOverflow

-- whether a number is 0, by which an operator then can't divide
abbrev pub is_zero : ℤ → Bool
is_zero (pos n) = n == 0
is_zero (negsuc n) = false

-- a quotient that an operator gives, cut off toward zero
abbrev pub quotient : ℤ → ℤ → Outcome Value
quotient a b = if is_zero b then faults FaultKind.ZeroDivide else fixed_value (int_div a b)

-- what operators and MOD leave of a number: the one from 0 to m - 1 that differs from it by a multiple of m
abbrev pub residue : ℤ → ℕ → ℕ
residue (pos n) m = n % m
residue (negsuc n) m = m - 1 - n % m

-- ---- texts

-- the text as the value that an operator gives, if it isn't too long
abbrev pub text_value : List ℕ → Outcome Value
text_value x = if nat_le (length x) longest_text then Outcome.gives (Value.Text x) else faults FaultKind.StringSize

-- a text that an operator compares, padded with blanks to at least this length
abbrev pub padded_to : ℕ → List ℕ → List ℕ
padded_to n x = x ++ replicate (n - length x) 32

-- ---- comparisons

-- how two texts are ordered where an operator compares them: byte by byte, the shorter one padded with blanks
abbrev pub text_order : List ℕ → List ℕ → Ordering
text_order x y = slice_cmp nat_cmp (padded_to (length y) x) (padded_to (length x) y)

-- how two values of one kind are ordered where an operator compares them
abbrev pub value_order : Value → Value → Option Ordering
value_order (Value.Fixed a) (Value.Fixed b) = Some (int_cmp a b)
value_order (Value.Fixed a) (Value.Bit b) = None
value_order (Value.Fixed a) (Value.Text b) = None
value_order (Value.Bit a) (Value.Fixed b) = None
value_order (Value.Bit a) (Value.Bit b) = Some (bool_cmp a b)
value_order (Value.Bit a) (Value.Text b) = None
value_order (Value.Text a) (Value.Fixed b) = None
value_order (Value.Text a) (Value.Bit b) = None
value_order (Value.Text a) (Value.Text b) = Some (text_order a b)

-- what a comparison makes of two values: whether their order passes the test
abbrev pub compared : (Ordering → Bool) → Value → Value → Outcome Value
compared test left right =
    option_map_or (λ order. Outcome.gives (Value.Bit (test order))) (value_order left right) Outcome.undefined

-- ---- the tables

-- what a prefix operator makes of a value
abbrev pub prefix_value : PrefixOp → Value → Outcome Value
prefix_value PrefixOp.Plus = on_number fixed_value
prefix_value PrefixOp.Minus = on_number (λ a. fixed_value (neg_ℤ a))
prefix_value PrefixOp.Not = on_bit (λ a. Outcome.gives (Value.Bit (not a)))

-- what an infix operator makes of two values
abbrev pub infix_value : InfixOp → Value → Value → Outcome Value
infix_value InfixOp.Or = on_bits (λ a b. Outcome.gives (Value.Bit (a || b)))
infix_value InfixOp.And = on_bits (λ a b. Outcome.gives (Value.Bit (a && b)))
infix_value InfixOp.Equal = compared is_eq
infix_value InfixOp.NotEqual = compared is_ne
infix_value InfixOp.Less = compared is_lt
infix_value InfixOp.LessEqual = compared is_le
infix_value InfixOp.Greater = compared is_gt
infix_value InfixOp.GreaterEqual = compared is_ge
infix_value InfixOp.Join = on_texts (λ a b. text_value (a ++ b))
infix_value InfixOp.Plus = on_numbers (λ a b. fixed_value (a +ℤ b))
infix_value InfixOp.Minus = on_numbers (λ a b. fixed_value (a -ℤ b))
infix_value InfixOp.Times = on_numbers (λ a b. fixed_value (a *ℤ b))
infix_value InfixOp.Divide = on_numbers quotient
