-- What the words give that follow the program's name: the values of options, and the word that stands by itself.
use Rattle.std.specs.Prelude.{ℕ, Bool, true, false, not, ◌==◌, ◌&&◌, List, [], ◌∷◌, map, drop, find, Option, None, Some, option_map, option_and_then, codes, bytes_eq, if◌then◌else◌}
use Rattle.std.specs.List.{after_first, before_first, list_any}

-- ---- a word

-- whether a hyphen stands first in a word, and something behind it: such a word is no value by itself
abbrev pub is_hyphened : List ℕ → Bool
is_hyphened [] = false
is_hyphened (byte ∷ []) = false
is_hyphened (byte ∷ next ∷ rest) = byte == 45

-- whether two hyphens stand first in a word
abbrev pub has_two_hyphens : List ℕ → Bool
has_two_hyphens [] = false
has_two_hyphens (byte ∷ []) = false
has_two_hyphens (byte ∷ next ∷ rest) = byte == 45 && next == 45

-- whether a byte is `=`, behind which an option's word has its value
abbrev pub is_equals_sign : ℕ → Bool
is_equals_sign byte = byte == 61

-- the option's name in a word with two hyphens: what stands behind them and before the first `=`
abbrev pub name_in_word : List ℕ → List ℕ
name_in_word word = before_first is_equals_sign (drop 2 word)

-- the option's value in a word with two hyphens: what stands behind the first `=`, if there is one
abbrev pub value_in_word : List ℕ → Option (List ℕ)
value_in_word word =
    if list_any is_equals_sign (drop 2 word) then Some (after_first is_equals_sign (drop 2 word)) else None

-- whether one of the options to which words give values has the name
abbrev pub is_option_name : List ℕ → Bool
is_option_name name =
    list_any (λ option. bytes_eq option name)
    (codes "rows" ∷ codes "cols" ∷ codes "keys" ∷ codes "input" ∷ codes "make" ∷ [])

-- ---- the values of all words

-- a value that words give, with the name that it is for: that of an option, or `program` for a word that stands by
-- itself
pub record NamedValue : Type 0 where
  pub name : List ℕ
  pub value : List ℕ

-- what the word gives that stands by itself among those that follow the program's name: a value with the name `program`
abbrev pub program_value : List ℕ → NamedValue
program_value word = record { name = codes "program"; value = word }

-- the value that a word gives in front of those that the words behind it give
abbrev pub value_before : NamedValue → Option (List NamedValue) → Option (List NamedValue)
value_before value others = option_map (λ values. value ∷ values) others

-- the values of an option's word and of those behind it: where it has no value in itself, the next word is its value
abbrev pub option_values : (name : List ℕ) → (in_word : Option (List ℕ))
    → (behind behind_name : Option (List NamedValue))
    → Option (List NamedValue)
option_values name (Some value) behind behind_name = value_before (record { name = name; value = value }) behind
option_values name None behind behind_name = behind_name

-- the values that words give in their order, where the option of the name waits for its value, if there is one; none
-- where the words aren't of the command. Behind `--` each word stands by itself
unfoldable pub values_in : (waiting : Option (List ℕ)) → List (List ℕ) → Option (List NamedValue)
values_in None [] = Some []
values_in (Some name) [] = None
values_in (Some name) (word ∷ rest) =
    if is_hyphened word then None else value_before (record { name = name; value = word }) (values_in None rest)
values_in None (word ∷ rest) =
    if bytes_eq word (codes "--") then Some (map program_value rest)
    else (if has_two_hyphens word
    then (if is_option_name (name_in_word word)
    then option_values (name_in_word word) (value_in_word word) (values_in None rest)
    (values_in (Some (name_in_word word)) rest)
    else None)
    else (if is_hyphened word then None else value_before (program_value word) (values_in None rest)))

-- ---- each value at most once

-- whether words give each value once at most: no name has two
abbrev pub has_each_once : List NamedValue → Bool
has_each_once [] = true
has_each_once (first ∷ rest) = not (list_any (λ value. bytes_eq value.name first.name) rest) && has_each_once rest

-- the value that words give for a name, if they give one
abbrev pub value_named : List ℕ → List NamedValue → Option (List ℕ)
value_named name values = option_map (λ value. value.value) (find (λ value. bytes_eq value.name name) values)

-- what words give: a text for each option that they name, and the word that stands by itself
pub record PlainGiven : Type 0 where
  pub rows : Option (List ℕ)
  pub cols : Option (List ℕ)
  pub keys : Option (List ℕ)
  pub input : Option (List ℕ)
  pub make : Option (List ℕ)
  pub program : Option (List ℕ)

-- what words give, by their values with names
abbrev pub given_by : List NamedValue → PlainGiven
given_by values = record {
  rows = value_named (codes "rows") values;
  cols = value_named (codes "cols") values;
  keys = value_named (codes "keys") values;
  input = value_named (codes "input") values;
  make = value_named (codes "make") values;
  program = value_named (codes "program") values;
}

-- what words give, each value at most once; none where the words aren't of the command
abbrev pub given_in : List (List ℕ) → Option PlainGiven
given_in words =
    option_and_then (λ values. if has_each_once values then Some (given_by values) else None) (values_in None words)
