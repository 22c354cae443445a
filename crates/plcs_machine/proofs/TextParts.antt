-- A part of a text: the numbers that say where it begins and how long it is are whole numbers, and it ends within the
-- text.
use Rattle.std.proofs.Common.{ℕ, ◌+◌, ◌-◌, ◌≡◌, ◌≤◌, ◌∙◌, List, sym, ap, length, take, drop, arith}
use Rattle.std.proofs.Math.Bool.{false≢true}
use Rattle.std.specs.Prelude.{Bool, true, false, ℤ, pos, negsuc, nat_abs, ◌+ℤ◌, ◌-ℤ◌, int_le, int_lt, ◌&&◌, if◌then◌else◌}
use Rattle.std.proofs.lemmas.Int.{ints}
use Rattle.std.proofs.lemmas.List.{take_rest}
use mir.Syntax.{w32, w64}
use mir.Val.{SFits, of_z, to_z}
use Rattle.plcs_base.specs.Text.{IsTextValue}
use Rattle.plcs_base.specs.declared.value.Value.{Value}
use Rattle.plcs_store.specs.declared.fault_kind.FaultKind.{FaultKind}
use Rattle.plcs_store.specs.BuiltinValue.{text_from, text_part}
use Rattle.plcs_store.specs.Outcome.{Outcome, faults}

-- ---- tests of whole numbers

above : (a b : ℤ) → int_lt a b ≡ false → int_le b a ≡ true
above a b h = grind (arith, ints)

below : (a b : ℤ) → int_lt a b ≡ true → int_le b a ≡ false
below a b h = grind (arith, ints)

-- a test of two numbers that are these
pub tested_above : (x y a b : ℤ) → x ≡ a → y ≡ b → int_lt x y ≡ false → int_le b a ≡ true
tested_above x y a b x_is y_is test = above a b (sym (ap (λ (z : ℤ). int_lt z y) x_is ∙ ap (int_lt a) y_is) ∙ test)

pub tested_below : (x y a b : ℤ) → x ≡ a → y ≡ b → int_lt x y ≡ true → int_le b a ≡ false
tested_below x y a b x_is y_is test = below a b (sym (ap (λ (z : ℤ). int_lt z y) x_is ∙ ap (int_lt a) y_is) ∙ test)

-- the number behind a text's end, as the code computes it
pub end_counted : (bytes x : List ℕ) → bytes ≡ x → IsTextValue x → to_z w32 (of_z w32 (to_z w32 (length bytes) +ℤ pos 1)) ≡ pos (length x + 1)
end_counted bytes x same short =
    let long : length bytes ≡ length x = ap length same in
    omega (arith, ints, short)

pub end_counted_wide : (bytes x : List ℕ) → bytes ≡ x → IsTextValue x → to_z w64 (of_z w64 (to_z w64 (length bytes) +ℤ pos 1)) ≡ pos (length x + 1)
end_counted_wide bytes x same short =
    let long : length bytes ≡ length x = ap length same in
    omega (arith, ints, short)

-- how many bytes come before the one of this number
pub before_number : (i : ℤ) → SFits w32 i → int_le (pos 1) i ≡ true → nat_abs (to_z w32 (of_z w32 (to_z w32 (of_z w32 i) -ℤ pos 1))) ≡ nat_abs i - 1
before_number (pos n) fits some =
    let one : 1 ≤ n = grind (arith, ints) in
    let less : to_z w32 (of_z w32 (to_z w32 (of_z w32 (pos n)) -ℤ pos 1)) ≡ pos (n - 1) = omega (arith, ints, fits.sfits) in
    ap nat_abs less
before_number (negsuc n) fits some = absurd (false≢true some)

-- ---- `SUBSTR` with two arguments

pub from_given : (x bytes : List ℕ) (i : ℤ) (from : ℕ) (value : Value) → value ≡ Value.Text (take (length bytes - from) (drop from bytes)) → bytes ≡ x
    → from ≡ nat_abs i - 1 → int_le (pos 1) i ≡ true → int_le i (pos (length x + 1)) ≡ true → Outcome.gives value ≡ text_from x i
from_given x bytes i from value is same begins some within =
    let part : Outcome Value = Outcome.gives (Value.Text (drop (nat_abs i - 1) x)) in
    ap (λ (v : Value). let o : Outcome Value = Outcome.gives v in o) is
    ∙ ap (λ (l : List ℕ). let o : Outcome Value = Outcome.gives (Value.Text l) in o) (take_rest bytes from)
    ∙ ap (λ (l : List ℕ). let o : Outcome Value = Outcome.gives (Value.Text (drop from l)) in o) same
    ∙ ap (λ (n : ℕ). let o : Outcome Value = Outcome.gives (Value.Text (drop n x)) in o) begins
    ∙ ap (λ (b : Bool). if b then part else faults FaultKind.StringRange) (sym within)
    ∙ ap (λ (b : Bool). if b && int_le i (pos (length x + 1)) then part else faults FaultKind.StringRange) (sym some)

pub from_before : (x : List ℕ) (i : ℤ) → int_le (pos 1) i ≡ false → faults FaultKind.StringRange ≡ text_from x i
from_before x i none =
    ap (λ (b : Bool). if b && int_le i (pos (length x + 1)) then Outcome.gives (Value.Text (drop (nat_abs i - 1) x)) else faults FaultKind.StringRange)
    (sym none)

pub from_behind : (x : List ℕ) (i : ℤ) → int_le (pos 1) i ≡ true → int_le i (pos (length x + 1)) ≡ false
    → faults FaultKind.StringRange ≡ text_from x i
from_behind x i some behind =
    let part : Outcome Value = Outcome.gives (Value.Text (drop (nat_abs i - 1) x)) in
    ap (λ (b : Bool). if b then part else faults FaultKind.StringRange) (sym behind)
    ∙ ap (λ (b : Bool). if b && int_le i (pos (length x + 1)) then part else faults FaultKind.StringRange) (sym some)

-- ---- `SUBSTR` with three arguments

pub part_given : (x bytes : List ℕ) (i k : ℤ) (from count : ℕ) (value : Value) → value ≡ Value.Text (take count (drop from bytes)) → bytes ≡ x
    → from ≡ nat_abs i - 1 → count ≡ nat_abs k → int_le (pos 1) i ≡ true → int_le (pos 0) k ≡ true → int_le (i +ℤ k) (pos (length x + 1)) ≡ true
    → Outcome.gives value ≡ text_part x i k
part_given x bytes i k from count value is same begins counts some counted within =
    let part : Outcome Value = Outcome.gives (Value.Text (take (nat_abs k) (drop (nat_abs i - 1) x))) in
    ap (λ (v : Value). let o : Outcome Value = Outcome.gives v in o) is
    ∙ ap (λ (l : List ℕ). let o : Outcome Value = Outcome.gives (Value.Text (take count (drop from l))) in o) same
    ∙ ap (λ (n : ℕ). let o : Outcome Value = Outcome.gives (Value.Text (take count (drop n x))) in o) begins
    ∙ ap (λ (n : ℕ). let o : Outcome Value = Outcome.gives (Value.Text (take n (drop (nat_abs i - 1) x))) in o) counts
    ∙ ap (λ (b : Bool). if b then part else faults FaultKind.StringRange) (sym within)
    ∙ ap (λ (b : Bool). if b && int_le (i +ℤ k) (pos (length x + 1)) then part else faults FaultKind.StringRange) (sym counted)
    ∙ ap (λ (b : Bool). if b && (int_le (pos 0) k && int_le (i +ℤ k) (pos (length x + 1))) then part else faults FaultKind.StringRange) (sym some)

pub part_before : (x : List ℕ) (i k : ℤ) → int_le (pos 1) i ≡ false → faults FaultKind.StringRange ≡ text_part x i k
part_before x i k none =
    ap (λ (b : Bool). if b && (int_le (pos 0) k && int_le (i +ℤ k) (pos (length x + 1)))
    then Outcome.gives (Value.Text (take (nat_abs k) (drop (nat_abs i - 1) x))) else faults FaultKind.StringRange) (sym none)

pub part_below : (x : List ℕ) (i k : ℤ) → int_le (pos 1) i ≡ true → int_le (pos 0) k ≡ false → faults FaultKind.StringRange ≡ text_part x i k
part_below x i k some none =
    let part : Outcome Value = Outcome.gives (Value.Text (take (nat_abs k) (drop (nat_abs i - 1) x))) in
    ap (λ (b : Bool). if b && int_le (i +ℤ k) (pos (length x + 1)) then part else faults FaultKind.StringRange) (sym none)
    ∙ ap (λ (b : Bool). if b && (int_le (pos 0) k && int_le (i +ℤ k) (pos (length x + 1))) then part else faults FaultKind.StringRange) (sym some)

pub part_behind : (x : List ℕ) (i k : ℤ) → int_le (pos 1) i ≡ true → int_le (pos 0) k ≡ true → int_le (i +ℤ k) (pos (length x + 1)) ≡ false
    → faults FaultKind.StringRange ≡ text_part x i k
part_behind x i k some counted behind =
    let part : Outcome Value = Outcome.gives (Value.Text (take (nat_abs k) (drop (nat_abs i - 1) x))) in
    ap (λ (b : Bool). if b then part else faults FaultKind.StringRange) (sym behind)
    ∙ ap (λ (b : Bool). if b && int_le (i +ℤ k) (pos (length x + 1)) then part else faults FaultKind.StringRange) (sym counted)
    ∙ ap (λ (b : Bool). if b && (int_le (pos 0) k && int_le (i +ℤ k) (pos (length x + 1))) then part else faults FaultKind.StringRange) (sym some)
