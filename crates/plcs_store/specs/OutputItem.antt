-- How values are written.
use Rattle.std.specs.Prelude.{◌≡◌, ℕ, ◌==◌, Bool, true, false, if◌then◌else◌, List, [], ◌∷◌, ◌++◌, length, take}
use Rattle.std.specs.Fmt.{signed_decimal}
use Rattle.plcs_base.specs.declared.value.Value.{Value}
use Rattle.plcs_grammar.specs.Token.{bit_bytes}

-- how a value is written: a number in decimal, a text without quotes
abbrev pub value_bytes : Value → List ℕ
value_bytes (Value.Fixed z) = signed_decimal z
value_bytes (Value.Bit b) = bit_bytes b
value_bytes (Value.Text x) = x

-- whether the output is empty or ends in a line end
abbrev pub at_line_start : (output : List ℕ) → Bool
at_line_start [] = true
at_line_start (byte ∷ []) = byte == 10
at_line_start (byte ∷ (next ∷ rest)) = at_line_start (next ∷ rest)

-- what stands before the next item: a blank, but for the first one of a line
abbrev pub item_gap : (output : List ℕ) → List ℕ
item_gap output = if at_line_start output then [] else 32 ∷ []

-- the output with one more item
abbrev pub with_item_written : (output : List ℕ) → Value → List ℕ
with_item_written output value = (output ++ item_gap output) ++ value_bytes value

-- the output with more items, one after the other
abbrev pub with_items_written : (output : List ℕ) → List Value → List ℕ
with_items_written output [] = output
with_items_written output (value ∷ values) = with_items_written (with_item_written output value) values

-- the output with its line ended, unless nothing was written yet
abbrev pub with_line_ended : (output : List ℕ) → List ℕ
with_line_ended [] = []
with_line_ended (byte ∷ rest) = (byte ∷ rest) ++ (10 ∷ [])

-- the output of PUT, or of PUT SKIP, with these items
abbrev pub output_with : (skip : Bool) → (output : List ℕ) → List Value → List ℕ
output_with false output values = with_items_written output values
output_with true output values = with_items_written (with_line_ended output) values

-- values are written behind what stands in the output, which stays as it is
abbrev pub WrittenStands : Type 0
WrittenStands = (skip : Bool) (output : List ℕ) (values : List Value)
    → take (length output) (output_with skip output values) ≡ output
