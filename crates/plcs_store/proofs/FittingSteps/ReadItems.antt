-- An item of the input that is read as a type is a value of its kind.
use Rattle.std.specs.Prelude.{refl, ℕ, ◌+◌, ◌==◌, nat_le, ℤ, pos, neg_ℤ, Bool, true, false, ◌&&◌, ◌||◌, if◌then◌else◌, bytes_eq, List, [], ◌∷◌, codes, drop, length, take, Option, Some, None, ok_or, option_and_then, option_map, Result, Ok, Err}
use Rattle.std.specs.List.{list_all}
use Rattle.plcs_base.specs.Byte.{is_printable}
use Rattle.plcs_base.specs.Text.{longest_text}
use Rattle.plcs_base.specs.declared.declared.ItemType.{ItemType}
use Rattle.plcs_base.specs.declared.value.Kind.{Kind}
use Rattle.plcs_base.specs.declared.value.Value.{Value}
use Rattle.plcs_grammar.specs.Token.{is_quote, numeral_value}
use Rattle.template_tree.specs.Checks.Environment.{kind_of_type}
use Rattle.plcs_store.specs.declared.input_item.ItemFault.{ItemFault}
use Rattle.plcs_store.specs.InputItem.{are_digits, behind_blanks, bit_item, blanks_before, closed_at, cut_item, cut_or_wanted, fixed_item, item_at_front, item_length, item_value, negative_item, next_item, number_in_range, positive_item, readable_text, separator_length, text_item, unquoted, whole_constant}
use Rattle.plcs_store.specs.Operator.{is_fixed}
use Rattle.plcs_store.specs.Step.{item_outcome}
use Rattle.plcs_store.proofs.FittingSteps.Outcomes.{Gives}
use Rattle.plcs_store.proofs.FittingSteps.Values.{IsOf}

-- if there is a value, it is of the kind
abbrev MayBe : Kind → Option Value → Type 0
MayBe kind None = Unit {0}
MayBe kind (Some value) = IsOf kind value

either : (kind : Kind) (test : Bool) (one other : Option Value) → MayBe kind one → MayBe kind other → MayBe kind (if test then one else other)
either kind true one other is or_is = is
either kind false one other is or_is = or_is

in_range : (z : ℤ) → MayBe Kind.Fixed (number_in_range z)
in_range z = either Kind.Fixed (is_fixed z) (Some (Value.Fixed z)) None refl tt

positive_is : (digits : List ℕ) → MayBe Kind.Fixed (positive_item digits)
positive_is digits = either Kind.Fixed (are_digits digits) (number_in_range (pos (numeral_value digits))) None (in_range (pos (numeral_value digits))) tt

negative_is : (digits : List ℕ) → MayBe Kind.Fixed (negative_item digits)
negative_is digits =
    either Kind.Fixed (are_digits digits) (number_in_range (neg_ℤ (pos (numeral_value digits)))) None (in_range (neg_ℤ (pos (numeral_value digits)))) tt

fixed_is : (item : List ℕ) → MayBe Kind.Fixed (fixed_item item)
fixed_is [] = tt
fixed_is (byte ∷ rest) =
    either Kind.Fixed (byte == 45) (negative_item rest) (if byte == 43 then positive_item rest else positive_item (byte ∷ rest)) (negative_is rest)
    (either Kind.Fixed (byte == 43) (positive_item rest) (positive_item (byte ∷ rest)) (positive_is rest) (positive_is (byte ∷ rest)))

bit_is : (item : List ℕ) → MayBe Kind.Bit (bit_item item)
bit_is item =
    either Kind.Bit (bytes_eq item (codes "0") || bytes_eq item (codes "'0'B")) (Some (Value.Bit false))
    (if bytes_eq item (codes "1") || bytes_eq item (codes "'1'B") then Some (Value.Bit true) else None) refl
    (either Kind.Bit (bytes_eq item (codes "1") || bytes_eq item (codes "'1'B")) (Some (Value.Bit true)) None refl tt)

readable_is : (x : List ℕ) → MayBe Kind.Text (readable_text x)
readable_is x = either Kind.Text (nat_le (length x) longest_text && list_all is_printable x) (Some (Value.Text x)) None refl tt

whole_is : (rest : List ℕ) → MayBe Kind.Text (whole_constant rest)
whole_is rest = by (closed_at 0 false rest)
  where
    by : (closed : Option ℕ)
        → MayBe Kind.Text (option_and_then (λ n. if n == length rest then readable_text (unquoted false rest) else None) closed)
    by None = tt
    by (Some n) = either Kind.Text (n == length rest) (readable_text (unquoted false rest)) None (readable_is (unquoted false rest)) tt

text_is : (item : List ℕ) → MayBe Kind.Text (text_item item)
text_is [] = tt
text_is (byte ∷ rest) = either Kind.Text (is_quote byte) (whole_constant rest) (readable_text (byte ∷ rest)) (whole_is rest) (readable_is (byte ∷ rest))

value_is : (ty : ItemType) (item : List ℕ) → MayBe (kind_of_type ty) (item_value ty item)
value_is ItemType.Fixed item = fixed_is item
value_is ItemType.Bit item = bit_is item
value_is (ItemType.Text n) item = text_is item

-- if an item was read, it is of the kind
abbrev ReadAs : Kind → Result (Value × ℕ) ItemFault → Type 0
ReadAs kind (Ok found) = IsOf kind found.0
ReadAs kind (Err fault) = Unit {0}

cut_is : (ty : ItemType) (input : List ℕ) (n : ℕ) → ReadAs (kind_of_type ty) (cut_item ty input n)
cut_is ty input n = by (item_value ty (take n input)) (value_is ty (take n input))
  where
    by : (found : Option Value) → MayBe (kind_of_type ty) found
        → ReadAs (kind_of_type ty) (ok_or (option_map (λ value. (value, n + separator_length (drop n input))) found) ItemFault.Conversion)
    by None is = tt
    by (Some value) is = is

cut_or_is : (ty : ItemType) (input : List ℕ) (n : Option ℕ) → ReadAs (kind_of_type ty) (cut_or_wanted ty input n)
cut_or_is ty input None = tt
cut_or_is ty input (Some n) = cut_is ty input n

front_is : (ty : ItemType) (input : List ℕ) → ReadAs (kind_of_type ty) (item_at_front ty input)
front_is ty [] = tt
front_is ty (byte ∷ rest) = cut_or_is ty (byte ∷ rest) (item_length (byte ∷ rest))

next_is : (kind : Kind) (n : ℕ) (item : Result (Value × ℕ) ItemFault) → ReadAs kind item
    → Gives (λ (found : Value × ℕ). IsOf kind found.0) (item_outcome (behind_blanks n item))
next_is kind n (Ok found) is = is
next_is kind n (Err ItemFault.Wanted) is = tt
next_is kind n (Err ItemFault.Conversion) is = tt

pub item_so : (ty : ItemType) (input : List ℕ) → Gives (λ (found : Value × ℕ). IsOf (kind_of_type ty) found.0) (item_outcome (next_item ty input))
item_so ty input =
    next_is (kind_of_type ty) (blanks_before input) (item_at_front ty (drop (blanks_before input) input)) (front_is ty (drop (blanks_before input) input))
