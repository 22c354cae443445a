-- What built-in functions make of values.
use Rattle.std.specs.Prelude.{ℕ, ◌+◌, ◌-◌, ◌==◌, nat_eq, ℤ, pos, ◌+ℤ◌, nat_abs, int_le, ◌&&◌, if◌then◌else◌, List, [], ◌∷◌, drop, length, take}
use Rattle.std.specs.List.{starts_with}
use Rattle.plcs_base.specs.declared.value.Value.{Value}
use Rattle.plcs_grammar.specs.declared.builtin.Builtin.{Builtin}
use Rattle.plcs_store.specs.declared.fault_kind.FaultKind.{FaultKind}
use Rattle.plcs_store.specs.Outcome.{Outcome, faults}
use Rattle.plcs_store.specs.Operator.{fixed_value, is_zero, on_number, on_numbers, on_text, on_texts, residue}

-- ---- so many arguments

-- what a built-in function makes of one argument
abbrev pub on_one : (Value → Outcome Value) → List Value → Outcome Value
on_one make [] = Outcome.undefined
on_one make (a ∷ []) = make a
on_one make (a ∷ (b ∷ rest)) = Outcome.undefined

-- what a built-in function makes of two arguments
abbrev pub on_two : (Value → Value → Outcome Value) → List Value → Outcome Value
on_two make [] = Outcome.undefined
on_two make (a ∷ []) = Outcome.undefined
on_two make (a ∷ (b ∷ [])) = make a b
on_two make (a ∷ (b ∷ (c ∷ rest))) = Outcome.undefined

-- what a built-in function makes of two arguments, or of three
abbrev pub on_two_or_three : (Value → Value → Outcome Value) → (Value → Value → Value → Outcome Value) → List Value
    → Outcome Value
on_two_or_three two three [] = Outcome.undefined
on_two_or_three two three (a ∷ []) = Outcome.undefined
on_two_or_three two three (a ∷ (b ∷ [])) = two a b
on_two_or_three two three (a ∷ (b ∷ (c ∷ []))) = three a b c
on_two_or_three two three (a ∷ (b ∷ (c ∷ (d ∷ rest)))) = Outcome.undefined

-- ---- the functions

-- what the built-in function MOD makes of two numbers: the number from 0 to |b| - 1 that differs from a by a multiple
-- of b
abbrev pub modulo : ℤ → ℤ → Outcome Value
modulo a b =
    if is_zero b then faults FaultKind.ZeroDivide else Outcome.gives (Value.Fixed (pos (residue a (nat_abs b))))

-- SUBSTR with two arguments: the bytes of a text from the i-th on, counted from 1
abbrev pub text_from : List ℕ → ℤ → Outcome Value
text_from x i =
    if int_le (pos 1) i && int_le i (pos (length x + 1))
    then Outcome.gives (Value.Text (drop (nat_abs i - 1) x))
    else faults FaultKind.StringRange

-- SUBSTR with three arguments: so many bytes of a text from the i-th on
abbrev pub text_part : List ℕ → ℤ → ℤ → Outcome Value
text_part x i k =
    if int_le (pos 1) i && (int_le (pos 0) k && int_le (i +ℤ k) (pos (length x + 1)))
    then Outcome.gives (Value.Text (take (nat_abs k) (drop (nat_abs i - 1) x)))
    else faults FaultKind.StringRange

-- for INDEX: where a text first stands in another whose first byte has this number; 0 where it doesn't
abbrev pub found_from : ℕ → (x sought : List ℕ) → ℕ
found_from k [] sought = 0
found_from k (byte ∷ rest) sought =
    if starts_with nat_eq (byte ∷ rest) sought then k else found_from (k + 1) rest sought

-- INDEX: where the sought text first stands in another, counted from 1; 0 where it doesn't, or the sought text is empty
abbrev pub found_in : (x sought : List ℕ) → ℕ
found_in x sought = if length sought == 0 then 0 else found_from 1 x sought

-- ---- the table

-- what a built-in function makes of its arguments
abbrev pub builtin_value : Builtin → List Value → Outcome Value
builtin_value Builtin.Abs = on_one (on_number (λ a. fixed_value (pos (nat_abs a))))
builtin_value Builtin.Mod = on_two (on_numbers modulo)
builtin_value Builtin.Min = on_two (on_numbers (λ a b. Outcome.gives (Value.Fixed (if int_le a b then a else b))))
builtin_value Builtin.Max = on_two (on_numbers (λ a b. Outcome.gives (Value.Fixed (if int_le a b then b else a))))
builtin_value Builtin.Length = on_one (on_text (λ x. Outcome.gives (Value.Fixed (pos (length x)))))
builtin_value Builtin.Substr =
    on_two_or_three (λ x i. on_text (λ s. on_number (text_from s) i) x)
    (λ x i k. on_text (λ s. on_number (λ a. on_number (text_part s a) k) i) x)
builtin_value Builtin.Index = on_two (on_texts (λ x y. Outcome.gives (Value.Fixed (pos (found_in x y)))))
