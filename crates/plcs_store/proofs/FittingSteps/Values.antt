-- Operators and built-in functions are defined on values of the kinds that they take, and give the kinds that they
-- give.
use Rattle.std.specs.Prelude.{◌≡◌, refl, ℕ, ◌+◌, ◌-◌, ◌≤◌, ◌==◌, nat_le, ℤ, pos, ◌+ℤ◌, ◌-ℤ◌, ◌*ℤ◌, neg_ℤ, nat_abs, int_le, int_div, Bool, true, false, not, ◌&&◌, ◌||◌, if◌then◌else◌, List, [], ◌∷◌, ◌++◌, drop, length, map, take, option_to_list, Result, Ok}
use Rattle.std.specs.Ordering.{is_eq, is_ge, is_gt, is_le, is_lt, is_ne}
use Rattle.std.specs.declared.cmp.Ordering.{Ordering}
use Rattle.std.proofs.Common.{ap, sym, subst, arith}
use Rattle.std.proofs.Math.Bool.{false≢true}
use Rattle.std.proofs.lemmas.Bool.{eqb-true}
use Rattle.plcs_base.specs.declared.mark.MarkKind.{MarkKind}
use Rattle.plcs_base.specs.declared.value.Kind.{Kind}
use Rattle.plcs_base.specs.declared.value.Value.{Value}
use Rattle.plcs_base.specs.Text.{longest_text}
use Rattle.plcs_grammar.specs.declared.builtin.Builtin.{Builtin}
use Rattle.plcs_grammar.specs.declared.operator.InfixOp.{InfixOp}
use Rattle.plcs_grammar.specs.declared.operator.PrefixOp.{PrefixOp}
use Rattle.template_tree.specs.Checks.KindTable.{builtin_row, infix_gives, infix_takes, prefix_kind, same_kind}
use Rattle.template_tree.specs.Checks.Verdict.{builtin_found, fit, is_count, is_pair}
use Rattle.plcs_store.specs.declared.fault_kind.FaultKind.{FaultKind}
use Rattle.plcs_store.specs.BuiltinValue.{builtin_value, found_in, modulo, on_one, on_two, on_two_or_three, text_from, text_part}
use Rattle.plcs_store.specs.Fits.{kind_of_value}
use Rattle.plcs_store.specs.Operator.{compared, fixed_value, infix_value, is_fixed, is_zero, on_bit, on_bits, on_number, on_numbers, on_text, on_texts, prefix_value, quotient, residue, text_value}
use Rattle.plcs_store.specs.Outcome.{Outcome, faults}
use Rattle.plcs_store.proofs.FittingSteps.Found.{and_both, builtin_kinds, kinds_same}
use Rattle.plcs_store.proofs.FittingSteps.Outcomes.{Gives, either_so}

-- a value is of the kind
abbrev pub IsOf : Kind → Value → Type 0
IsOf kind value = kind_of_value value ≡ kind

-- ---- values of a kind

pub number_so : {A : Type 0} (Is : A → Type 0) (make : ℤ → Outcome A) (value : Value) → IsOf Kind.Fixed value
    → ((z : ℤ) → Gives Is (make z)) → Gives Is (on_number make value)
number_so Is make (Value.Fixed z) kind is = is z
number_so Is make (Value.Bit b) kind is = absurd (false≢true (ap (same_kind Kind.Fixed) kind))
number_so Is make (Value.Text x) kind is = absurd (false≢true (ap (same_kind Kind.Fixed) kind))

pub bit_so : {A : Type 0} (Is : A → Type 0) (make : Bool → Outcome A) (value : Value) → IsOf Kind.Bit value
    → ((b : Bool) → Gives Is (make b)) → Gives Is (on_bit make value)
bit_so Is make (Value.Fixed z) kind is = absurd (false≢true (ap (same_kind Kind.Bit) kind))
bit_so Is make (Value.Bit b) kind is = is b
bit_so Is make (Value.Text x) kind is = absurd (false≢true (ap (same_kind Kind.Bit) kind))

pub text_so : {A : Type 0} (Is : A → Type 0) (make : List ℕ → Outcome A) (value : Value) → IsOf Kind.Text value
    → ((x : List ℕ) → Gives Is (make x)) → Gives Is (on_text make value)
text_so Is make (Value.Fixed z) kind is = absurd (false≢true (ap (same_kind Kind.Text) kind))
text_so Is make (Value.Bit b) kind is = absurd (false≢true (ap (same_kind Kind.Text) kind))
text_so Is make (Value.Text x) kind is = is x

-- ---- two operands

pair_kinds : (kind left right : Kind) → (same_kind kind left && same_kind kind right) ≡ true → (left ≡ kind) × (right ≡ kind)
pair_kinds kind left right e =
    let both = and_both (same_kind kind left) (same_kind kind right) e in
    (sym (kinds_same kind left both.0), sym (kinds_same kind right both.1))

numbers_so : (gives : Kind) (make : ℤ → ℤ → Outcome Value) → ((a b : ℤ) → Gives (IsOf gives) (make a b)) → (left right : Value)
    → is_pair (infix_takes InfixOp.Plus) (kind_of_value left) (kind_of_value right) ≡ true
    → Gives (IsOf gives) (on_numbers make left right)
numbers_so gives make is left right e =
    let kinds = pair_kinds Kind.Fixed (kind_of_value left) (kind_of_value right) e in
    number_so (IsOf gives) (λ a. on_number (make a) right) left kinds.0 (λ a. number_so (IsOf gives) (make a) right kinds.1 (λ b. is a b))

bits_so : (gives : Kind) (make : Bool → Bool → Outcome Value) → ((a b : Bool) → Gives (IsOf gives) (make a b)) → (left right : Value)
    → is_pair (infix_takes InfixOp.And) (kind_of_value left) (kind_of_value right) ≡ true
    → Gives (IsOf gives) (on_bits make left right)
bits_so gives make is left right e =
    let kinds = pair_kinds Kind.Bit (kind_of_value left) (kind_of_value right) e in
    bit_so (IsOf gives) (λ a. on_bit (make a) right) left kinds.0 (λ a. bit_so (IsOf gives) (make a) right kinds.1 (λ b. is a b))

texts_so : (gives : Kind) (make : List ℕ → List ℕ → Outcome Value) → ((a b : List ℕ) → Gives (IsOf gives) (make a b)) → (left right : Value)
    → is_pair (infix_takes InfixOp.Join) (kind_of_value left) (kind_of_value right) ≡ true
    → Gives (IsOf gives) (on_texts make left right)
texts_so gives make is left right e =
    let kinds = pair_kinds Kind.Text (kind_of_value left) (kind_of_value right) e in
    text_so (IsOf gives) (λ a. on_text (make a) right) left kinds.0 (λ a. text_so (IsOf gives) (make a) right kinds.1 (λ b. is a b))

compared_so : (test : Ordering → Bool) (left right : Value) → same_kind (kind_of_value left) (kind_of_value right) ≡ true
    → Gives (IsOf Kind.Bit) (compared test left right)
compared_so test (Value.Fixed a) (Value.Fixed b) e = refl
compared_so test (Value.Fixed a) (Value.Bit b) e = absurd (false≢true e)
compared_so test (Value.Fixed a) (Value.Text b) e = absurd (false≢true e)
compared_so test (Value.Bit a) (Value.Fixed b) e = absurd (false≢true e)
compared_so test (Value.Bit a) (Value.Bit b) e = refl
compared_so test (Value.Bit a) (Value.Text b) e = absurd (false≢true e)
compared_so test (Value.Text a) (Value.Fixed b) e = absurd (false≢true e)
compared_so test (Value.Text a) (Value.Bit b) e = absurd (false≢true e)
compared_so test (Value.Text a) (Value.Text b) e = refl

-- ---- operators

pub fixed_so : (z : ℤ) → Gives (IsOf Kind.Fixed) (fixed_value z)
fixed_so z = either_so (IsOf Kind.Fixed) (is_fixed z) (Outcome.gives (Value.Fixed z)) (faults FaultKind.FixedOverflow) refl tt

joined_so : (x : List ℕ) → Gives (IsOf Kind.Text) (text_value x)
joined_so x = either_so (IsOf Kind.Text) (nat_le (length x) longest_text) (Outcome.gives (Value.Text x)) (faults FaultKind.StringSize) refl tt

quotient_so : (a b : ℤ) → Gives (IsOf Kind.Fixed) (quotient a b)
quotient_so a b =
    either_so (IsOf Kind.Fixed) (is_zero b) (faults FaultKind.ZeroDivide) (fixed_value (int_div a b)) tt (fixed_so (int_div a b))

pub prefix_so : (op : PrefixOp) (value : Value) → IsOf (prefix_kind op) value → Gives (IsOf (prefix_kind op)) (prefix_value op value)
prefix_so PrefixOp.Plus value kind = number_so (IsOf Kind.Fixed) fixed_value value kind fixed_so
prefix_so PrefixOp.Minus value kind =
    number_so (IsOf Kind.Fixed) (λ a. fixed_value (neg_ℤ a)) value kind (λ a. fixed_so (neg_ℤ a))
prefix_so PrefixOp.Not value kind = bit_so (IsOf Kind.Bit) (λ a. Outcome.gives (Value.Bit (not a))) value kind (λ a. refl)

pub infix_so : (op : InfixOp) (left right : Value) → is_pair (infix_takes op) (kind_of_value left) (kind_of_value right) ≡ true
    → Gives (IsOf (infix_gives op)) (infix_value op left right)
infix_so InfixOp.Or left right e = bits_so Kind.Bit (λ a b. Outcome.gives (Value.Bit (a || b))) (λ a b. refl) left right e
infix_so InfixOp.And left right e = bits_so Kind.Bit (λ a b. Outcome.gives (Value.Bit (a && b))) (λ a b. refl) left right e
infix_so InfixOp.Equal left right e = compared_so is_eq left right e
infix_so InfixOp.NotEqual left right e = compared_so is_ne left right e
infix_so InfixOp.Less left right e = compared_so is_lt left right e
infix_so InfixOp.LessEqual left right e = compared_so is_le left right e
infix_so InfixOp.Greater left right e = compared_so is_gt left right e
infix_so InfixOp.GreaterEqual left right e = compared_so is_ge left right e
infix_so InfixOp.Join left right e = texts_so Kind.Text (λ a b. text_value (a ++ b)) (λ a b. joined_so (a ++ b)) left right e
infix_so InfixOp.Plus left right e = numbers_so Kind.Fixed (λ a b. fixed_value (a +ℤ b)) (λ a b. fixed_so (a +ℤ b)) left right e
infix_so InfixOp.Minus left right e = numbers_so Kind.Fixed (λ a b. fixed_value (a -ℤ b)) (λ a b. fixed_so (a -ℤ b)) left right e
infix_so InfixOp.Times left right e = numbers_so Kind.Fixed (λ a b. fixed_value (a *ℤ b)) (λ a b. fixed_so (a *ℤ b)) left right e
infix_so InfixOp.Divide left right e = numbers_so Kind.Fixed quotient quotient_so left right e

-- ---- so many arguments

-- the kinds of values
abbrev pub kinds : List Value → List Kind
kinds values = map kind_of_value values

module _ (gives : Kind) where
  one_so : (kind : Kind) (make : Value → Outcome Value) → ((a : Value) → IsOf kind a → Gives (IsOf gives) (make a)) → (values : List Value)
      → (length (kinds values) == 1) ≡ true → fit (kind ∷ []) (kinds values) ≡ true → Gives (IsOf gives) (on_one make values)
  one_so kind make is [] count fits = absurd (false≢true count)
  one_so kind make is (a ∷ []) count fits =
      is a (sym (kinds_same kind (kind_of_value a) (and_both (same_kind kind (kind_of_value a)) true fits).0))
  one_so kind make is (a ∷ (b ∷ rest)) count fits =
      let n = eqb-true (length (kinds (a ∷ (b ∷ rest)))) 1 count in absurd (omega (arith, n))

  two_so : (one other : Kind) (make : Value → Value → Outcome Value)
      → ((a b : Value) → IsOf one a → IsOf other b → Gives (IsOf gives) (make a b)) → (values : List Value)
      → (length (kinds values) == 2) ≡ true → fit (one ∷ (other ∷ [])) (kinds values) ≡ true → Gives (IsOf gives) (on_two make values)
  two_so one other make is [] count fits = absurd (false≢true count)
  two_so one other make is (a ∷ []) count fits = absurd (false≢true count)
  two_so one other make is (a ∷ (b ∷ [])) count fits =
      let first = and_both (same_kind one (kind_of_value a)) (same_kind other (kind_of_value b) && true) fits in
      let second = and_both (same_kind other (kind_of_value b)) true first.1 in
      is a b (sym (kinds_same one (kind_of_value a) first.0)) (sym (kinds_same other (kind_of_value b) second.0))
  two_so one other make is (a ∷ (b ∷ (c ∷ rest))) count fits =
      let n = eqb-true (length (kinds (a ∷ (b ∷ (c ∷ rest))))) 2 count in absurd (omega (arith, n))

-- no list of four or more has two or three
too_many : (n : ℕ) (two : Bool) → 4 ≤ n → (n == 2) ≡ two → (two || (n == 3)) ≡ true → ⊥
too_many n true many is e = let same = eqb-true n 2 is in omega (arith, many, same)
too_many n false many is e = let same = eqb-true n 3 e in omega (arith, many, same)

three_so : (gives one other third : Kind) (two : Value → Value → Outcome Value) (three : Value → Value → Value → Outcome Value)
    → ((a b : Value) → IsOf one a → IsOf other b → Gives (IsOf gives) (two a b))
    → ((a b c : Value) → IsOf one a → IsOf other b → IsOf third c → Gives (IsOf gives) (three a b c)) → (values : List Value)
    → ((length (kinds values) == 2) || (length (kinds values) == 3)) ≡ true
    → fit (one ∷ (other ∷ (third ∷ []))) (kinds values) ≡ true → Gives (IsOf gives) (on_two_or_three two three values)
three_so gives one other third two three is_two is_three [] count fits = absurd (false≢true count)
three_so gives one other third two three is_two is_three (a ∷ []) count fits = absurd (false≢true count)
three_so gives one other third two three is_two is_three (a ∷ (b ∷ [])) count fits =
    let first = and_both (same_kind one (kind_of_value a)) (same_kind other (kind_of_value b) && true) fits in
    let second = and_both (same_kind other (kind_of_value b)) true first.1 in
    is_two a b (sym (kinds_same one (kind_of_value a) first.0)) (sym (kinds_same other (kind_of_value b) second.0))
three_so gives one other third two three is_two is_three (a ∷ (b ∷ (c ∷ []))) count fits =
    let first = and_both (same_kind one (kind_of_value a)) (same_kind other (kind_of_value b) && (same_kind third (kind_of_value c) && true)) fits in
    let second = and_both (same_kind other (kind_of_value b)) (same_kind third (kind_of_value c) && true) first.1 in
    let last = and_both (same_kind third (kind_of_value c)) true second.1 in
    is_three a b c (sym (kinds_same one (kind_of_value a) first.0)) (sym (kinds_same other (kind_of_value b) second.0))
    (sym (kinds_same third (kind_of_value c) last.0))
three_so gives one other third two three is_two is_three (a ∷ (b ∷ (c ∷ (d ∷ rest)))) count fits =
    let n : ℕ = length (kinds (a ∷ (b ∷ (c ∷ (d ∷ rest))))) in
    absurd (too_many n (n == 2) (omega arith) refl count)

-- ---- the functions

modulo_so : (a b : ℤ) → Gives (IsOf Kind.Fixed) (modulo a b)
modulo_so a b =
    either_so (IsOf Kind.Fixed) (is_zero b) (faults FaultKind.ZeroDivide) (Outcome.gives (Value.Fixed (pos (residue a (nat_abs b))))) tt refl

from_so : (x : List ℕ) (i : ℤ) → Gives (IsOf Kind.Text) (text_from x i)
from_so x i =
    either_so (IsOf Kind.Text) (int_le (pos 1) i && int_le i (pos (length x + 1)))
    (Outcome.gives (Value.Text (drop (nat_abs i - 1) x))) (faults FaultKind.StringRange) refl tt

part_so : (x : List ℕ) (i k : ℤ) → Gives (IsOf Kind.Text) (text_part x i k)
part_so x i k =
    either_so (IsOf Kind.Text) (int_le (pos 1) i && (int_le (pos 0) k && int_le (i +ℤ k) (pos (length x + 1))))
    (Outcome.gives (Value.Text (take (nat_abs k) (drop (nat_abs i - 1) x)))) (faults FaultKind.StringRange) refl tt

on_two_numbers : (make : ℤ → ℤ → Outcome Value) → ((a b : ℤ) → Gives (IsOf Kind.Fixed) (make a b)) → (left right : Value)
    → IsOf Kind.Fixed left → IsOf Kind.Fixed right → Gives (IsOf Kind.Fixed) (on_numbers make left right)
on_two_numbers make is left right one other =
    number_so (IsOf Kind.Fixed) (λ a. on_number (make a) right) left one (λ a. number_so (IsOf Kind.Fixed) (make a) right other (λ b. is a b))

on_two_texts : (gives : Kind) (make : List ℕ → List ℕ → Outcome Value) → ((a b : List ℕ) → Gives (IsOf gives) (make a b)) → (left right : Value)
    → IsOf Kind.Text left → IsOf Kind.Text right → Gives (IsOf gives) (on_texts make left right)
on_two_texts gives make is left right one other =
    text_so (IsOf gives) (λ a. on_text (make a) right) left one (λ a. text_so (IsOf gives) (make a) right other (λ b. is a b))

function_so : (function : Builtin) (values : List Value)
    → is_count (length (builtin_row function).takes) (builtin_row function).perhaps (length (kinds values)) ≡ true
    → fit ((builtin_row function).takes ++ option_to_list (builtin_row function).perhaps) (kinds values) ≡ true
    → Gives (IsOf (builtin_row function).gives) (builtin_value function values)
function_so Builtin.Abs values count fits =
    one_so Kind.Fixed Kind.Fixed (on_number (λ a. fixed_value (pos (nat_abs a))))
    (λ value kind. number_so (IsOf Kind.Fixed) (λ a. fixed_value (pos (nat_abs a))) value kind (λ a. fixed_so (pos (nat_abs a)))) values count fits
function_so Builtin.Mod values count fits =
    two_so Kind.Fixed Kind.Fixed Kind.Fixed (on_numbers modulo) (on_two_numbers modulo modulo_so) values count fits
function_so Builtin.Min values count fits =
    two_so Kind.Fixed Kind.Fixed Kind.Fixed (on_numbers (λ a b. Outcome.gives (Value.Fixed (if int_le a b then a else b))))
    (on_two_numbers (λ a b. Outcome.gives (Value.Fixed (if int_le a b then a else b))) (λ a b. refl)) values count fits
function_so Builtin.Max values count fits =
    two_so Kind.Fixed Kind.Fixed Kind.Fixed (on_numbers (λ a b. Outcome.gives (Value.Fixed (if int_le a b then b else a))))
    (on_two_numbers (λ a b. Outcome.gives (Value.Fixed (if int_le a b then b else a))) (λ a b. refl)) values count fits
function_so Builtin.Length values count fits =
    one_so Kind.Fixed Kind.Text (on_text (λ x. Outcome.gives (Value.Fixed (pos (length x)))))
    (λ value kind. text_so (IsOf Kind.Fixed) (λ x. Outcome.gives (Value.Fixed (pos (length x)))) value kind (λ x. refl)) values count fits
function_so Builtin.Substr values count fits =
    three_so Kind.Text Kind.Text Kind.Fixed Kind.Fixed (λ x i. on_text (λ s. on_number (text_from s) i) x)
    (λ x i k. on_text (λ s. on_number (λ a. on_number (text_part s a) k) i) x)
    (λ x i text from.
    text_so (IsOf Kind.Text) (λ s. on_number (text_from s) i) x text (λ s. number_so (IsOf Kind.Text) (text_from s) i from (from_so s)))
    (λ x i k text from count_is.
    text_so (IsOf Kind.Text) (λ s. on_number (λ a. on_number (text_part s a) k) i) x text (λ s.
    number_so (IsOf Kind.Text) (λ a. on_number (text_part s a) k) i from (λ a. number_so (IsOf Kind.Text) (text_part s a) k count_is (part_so s a))))
    values count fits
function_so Builtin.Index values count fits =
    two_so Kind.Fixed Kind.Text Kind.Text (on_texts (λ x y. Outcome.gives (Value.Fixed (pos (found_in x y)))))
    (on_two_texts Kind.Fixed (λ x y. Outcome.gives (Value.Fixed (pos (found_in x y)))) (λ x y. refl)) values count fits

pub builtin_so : (function : Builtin) (values : List Value) (k : Kind)
    → builtin_found function (kinds values) ≡ (let r : Result Kind MarkKind = Ok k in r) → Gives (IsOf k) (builtin_value function values)
builtin_so function values k e =
    let (count, fits, gives) = builtin_kinds function (kinds values) k e in
    subst (λ (kind : Kind). Gives (IsOf kind) (builtin_value function values)) gives (function_so function values count fits)
