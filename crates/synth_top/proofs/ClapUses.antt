-- Uses of arguments with a value: what of them is refused, and what rows they make.
use Rattle.std.proofs.Common.{◌≡◌, ℕ, ◌||◌, Bool, true, false, not, List, [], ◌∷◌, ◌++◌, Option, Some, None, refl, sym, ap, ◌∙◌, codes, map}
use Rattle.std.proofs.Common.{append-nil}
use Rattle.std.specs.Prelude.{◌&&◌, fold, if◌then◌else◌}
use Rattle.std.specs.List.{list_any}
use Rattle.std.specs.Str.{bytes_eq}
use Rattle.std.proofs.lemmas.Bool.{and_parts, or_parts}
use Rattle.std.proofs.lemmas.List.{map-append}
use Rattle.std.proofs.lemmas.List.Folds.{list_any-append}
use Rattle.std.proofs.lemmas.Slice.Eq.{bytes_eq-Decides}
use Rattle.clap.specs.declared.builder.action.ArgAction.TheVariants.{Set}
use Rattle.clap.specs.declared.builder.value_parser.ValueParser.TheVariants as parser
use Rattle.clap.specs.declared.error.kind.ErrorKind.TheVariants as kind
use Rattle.clap.specs.declared.parser.matches.ValueSource.TheVariants.{CommandLine}
use Rattle.clap.specs.Faults.{check_fault, defaults_fault, use_fault}
use Rattle.clap.specs.Kinds.{Kinds, or_else}
use Rattle.clap.specs.Simple.{Shape}
use Rattle.clap.specs.Walk.{Row, Rule, Text, arg_by_id, arg_by_index, arg_by_long, arg_by_short, at_row, has_row, more_values, reading_by}
use Rattle.clap.specs.Walk.{used, with_default, with_values}
use Rattle.synth_top.specs.Given.{NamedValue, has_each_once, is_option_name}

-- ---- rules

-- an argument with one value, by its name, its long name and its place among words that stand by themselves
abbrev pub valued_rule : (name : Text) → (long : Option Text) → (place : Option ℕ) → Rule
valued_rule name long place = record {
  id = name;
  long = long;
  aliases = [];
  short = None;
  short_aliases = [];
  index = place;
  action = Some Set;
  range = Some (record { start_inclusive = 1; end_inclusive = 1 });
  value_names = 0;
  defaults = [];
  missing = [];
  trailing_var_arg = false;
  parser = Some parser.String;
  ignore_case = false;
  required = false;
  is_simple = true;
  is_free = true;
}

abbrev pub option_of : Text → Rule
option_of name = valued_rule name (Some name) None

abbrev pub program_rule : Rule
program_rule = valued_rule (codes "program") None (Some 1)

-- a command has just these arguments, each once at most and with no value of its own, and nothing below it
pub record IsWordCommand (s : Shape) : Type 0 where
  pub leaf : s.is_leaf ≡ true
  pub once : s.args_override_self ≡ false
  pub option_named : (name : Text) → is_option_name name ≡ true → arg_by_long s.rules name ≡ Some (option_of name)
  pub none_named : (name : Text) → is_option_name name ≡ false → arg_by_long s.rules name ≡ None
  pub none_lettered : (letter : ℕ) → arg_by_short s.rules letter ≡ None
  pub first_word : arg_by_index s.rules 1 ≡ Some program_rule
  pub no_second_word : arg_by_index s.rules 2 ≡ None
  pub option_known : (name : Text) → is_option_name name ≡ true → arg_by_id s.rules name ≡ Some (option_of name)
  pub program_known : arg_by_id s.rules (codes "program") ≡ Some program_rule
  pub no_default : (rows : List Row) → fold with_default rows s.rules ≡ rows
  pub no_default_fault : (rows : List Row) → defaults_fault rows s.rules ≡ []
  pub no_check_fault : (rows : List Row) → check_fault s rows false ≡ []

-- ---- values

-- the rows of values
abbrev pub row_of_value : NamedValue → Row
row_of_value v = record {
  id = v.name;
  values = v.value ∷ [];
  count = None;
  source = Some CommandLine;
  reading = reading_by (option_of v.name);
}

abbrev pub rows_of_values : List NamedValue → List Row
rows_of_values = map row_of_value

-- whether a value has the name
abbrev pub has_name : Text → List NamedValue → Bool
has_name name values = list_any (λ (v : NamedValue). bytes_eq v.name name) values

abbrev pub named : Text → Text → NamedValue
named name text = record { name = name; value = text }

-- the names of values are those of their rows
pub same_names : (name : Text) (values : List NamedValue) → has_row name (rows_of_values values) ≡ has_name name values
same_names name [] = refl
same_names name (v ∷ values) = ap (λ (b : Bool). bytes_eq v.name name || b) (same_names name values)

pub bytes_same : (a b : Text) → a ≡ b → bytes_eq a b ≡ true
bytes_same a b is = (bytes_eq-Decides a b).1 is

-- texts are compared from either side
same_from_behind : (a b : Text) → bytes_eq a b ≡ false → bytes_eq b a ≡ false
same_from_behind a b other = by_test (bytes_eq b a) (λ same. cc (bytes_same a b (sym ((bytes_eq-Decides b a).0 same)), other)) where
  by_test : (test : Bool) → (test ≡ true → ⊥) → test ≡ false
  by_test true none = absurd (none refl)
  by_test false none = refl

or_true : (b : Bool) → (b || true) ≡ true
or_true true = refl
or_true false = refl

pub and_false : (b : Bool) → (b && false) ≡ false
and_false true = refl
and_false false = refl

-- a name is among values where one of them has it
pub named_within : (name : Text) (before : List NamedValue) (one : NamedValue) (behind : List NamedValue) → one.name ≡ name
    → has_name name (before ++ one ∷ behind) ≡ true
named_within name before one behind same =
    list_any-append (λ (v : NamedValue). bytes_eq v.name name) before (one ∷ behind)
    ∙ ap (λ (b : Bool). has_name name before || (b || has_name name behind)) (bytes_same one.name name same)
    ∙ or_true (has_name name before)

-- a value whose name another has already
pub named_again : (values : List NamedValue) (again : NamedValue) (behind : List NamedValue) → has_name again.name values ≡ true
    → has_each_once (values ++ again ∷ behind) ≡ false
named_again [] again behind has = absurd (cc)
named_again (first ∷ values) again behind has =
    by_test (bytes_eq first.name again.name) (λ same. named_within first.name values again behind (sym ((bytes_eq-Decides first.name again.name).0 same)))
    (named_again values again behind) has
  where
    by_test : (test : Bool) → (test ≡ true → has_name first.name (values ++ again ∷ behind) ≡ true)
        → (has_name again.name values ≡ true → has_each_once (values ++ again ∷ behind) ≡ false) → (test || has_name again.name values) ≡ true
        → (not (has_name first.name (values ++ again ∷ behind)) && has_each_once (values ++ again ∷ behind)) ≡ false
    by_test true here later any = ap (λ (b : Bool). not b && has_each_once (values ++ again ∷ behind)) (here refl)
    by_test false here later any =
        ap (λ (b : Bool). not (has_name first.name (values ++ again ∷ behind)) && b) (later any) ∙ and_false _

-- a value whose name no other has
isnt : (b : Bool) → not b ≡ true → b ≡ false
isnt true none = absurd (cc)
isnt false none = refl

pub each_once_more : (values : List NamedValue) (more : NamedValue) → has_each_once values ≡ true → has_name more.name values ≡ false
    → has_each_once (values ++ more ∷ []) ≡ true
each_once_more [] more once new = refl
each_once_more (first ∷ values) more once new =
    let others = and_parts _ _ once in
    let other = or_parts _ _ new in
    let still_first : has_name first.name (values ++ more ∷ []) ≡ false =
    list_any-append (λ (v : NamedValue). bytes_eq v.name first.name) values (more ∷ [])
    ∙ ap (λ (b : Bool). b || (bytes_eq more.name first.name || false)) (isnt _ others.0)
    ∙ ap (λ (b : Bool). false || (b || false)) (same_from_behind first.name more.name other.0) in
    ap (λ (b : Bool). not b && has_each_once (values ++ more ∷ [])) still_first ∙ each_once_more values more others.1 other.1

-- ---- kinds of faults

pub none_first : (a b : Kinds) → or_else a b ≡ [] → a ≡ []
none_first [] b none = refl
none_first (first ∷ a) b none = absurd (cc)

pub none_second : (a b : Kinds) → or_else a b ≡ [] → b ≡ []
none_second [] b none = none
none_second (first ∷ a) b none = absurd (cc)

pub none_both : (a b : Kinds) → a ≡ [] → b ≡ [] → or_else a b ≡ []
none_both a b first second = ap (λ k. or_else k b) first ∙ second

-- ---- one use of an argument

-- the rows with a change at the end, where no row has the name
at_lacking : (name : Text) (change : Row → List Row) (missing rows : List Row) → has_row name rows ≡ false
    → at_row name change missing rows ≡ rows ++ missing
at_lacking name change missing [] lacks = refl
at_lacking name change missing (r ∷ rows) lacks = by_test (bytes_eq r.id name) (at_lacking name change missing rows) lacks where
  by_test : (test : Bool) → (has_row name rows ≡ false → at_row name change missing rows ≡ rows ++ missing) → (test || has_row name rows) ≡ false
      → (if test then change r ++ rows else r ∷ at_row name change missing rows) ≡ r ∷ (rows ++ missing)
  by_test true behind lacks = absurd (cc)
  by_test false behind lacks = ap (λ (rs : List Row). r ∷ rs) (behind lacks)

module _ (again : Bool) (name : Text) (long : Option Text) (place : Option ℕ) where
  -- a use with a value is refused exactly where there is one already
  pub use_new : (text : Text) (rows : List Row) → has_row name rows ≡ false → use_fault again (valued_rule name long place) (text ∷ []) rows ≡ []
  use_new text rows new = ap (λ (b : Bool). or_else (if b && not again then kind.ArgumentConflict ∷ [] else []) []) new

  pub use_again : (text : Text) (rows : List Row) → again ≡ false → has_row name rows ≡ true
      → use_fault again (valued_rule name long place) (text ∷ []) rows ≡ kind.ArgumentConflict ∷ []
  use_again text rows once had =
      ap (λ (b : Bool). or_else (if b && not again then kind.ArgumentConflict ∷ [] else []) []) had
      ∙ ap (λ (b : Bool). or_else (if not b then kind.ArgumentConflict ∷ [] else []) []) once

  pub use_without : (rows : List Row) → use_fault again (valued_rule name long place) [] rows ≡ kind.InvalidValue ∷ []
  use_without rows = refl

  -- a use adds its value at the end
  pub used_new : (text : Text) (values : List NamedValue) → has_name name values ≡ false
      → used (valued_rule name long place) (text ∷ []) (rows_of_values values) ≡ rows_of_values (values ++ named name text ∷ [])
  used_new text values new =
      let lacks : has_row name (rows_of_values values) ≡ false = same_names name values ∙ new in
      ap (λ (rows : List Row). with_values name (reading_by (option_of name)) CommandLine (text ∷ []) rows)
      (at_lacking name (λ _. []) [] (rows_of_values values) lacks ∙ append-nil _)
      ∙ at_lacking name (more_values CommandLine (text ∷ [])) _ (rows_of_values values) lacks ∙ sym (map-append row_of_value values (named name text ∷ []))
