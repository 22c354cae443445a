-- The words of the command as clap reads them, and in plain words.
use Rattle.std.proofs.Common.{◌≡◌, ◌⊎◌, inl, inr, ◌||◌, Bool, true, false, List, [], ◌∷◌, Option, Some, None, refl, sym, ap, ◌∙◌, subst, codes}
use Rattle.std.specs.Prelude.{bytes_eq, find, fold, option_and_then, option_map, slice_get, if◌then◌else◌}
use Rattle.std.proofs.lemmas.Slice.Eq.{bytes_eq-Decides}
use Rattle.clap.proofs.FaultLemmas.{leaf_fault}
use Rattle.clap.proofs.WalkLemmas.{first_value-rows}
use Rattle.clap.specs.declared.parser.matches.Found.{Found}
use Rattle.clap.specs.declared.error.kind.ErrorKind.TheVariants as kind
use Rattle.clap.specs.Faults.{default_fault, defaults_fault, given_default_fault, fault_of, is_simple_and_free}
use Rattle.clap.specs.declared.error.Error.{Error}
use Rattle.clap.specs.declared.error.kind.ErrorKind.{ErrorKind}
use Rattle.clap.specs.declared.parser.matches.ArgMatches.{ArgMatches}
use Rattle.clap.specs.Kinds.{HasKind, IsAmong, Kinds, or_else}
use Rattle.clap.specs.Matches.{found_of}
use Rattle.clap.specs.Values.{kind_of}
use Rattle.clap.specs.Simple.{App, HasMatchesOf, Shape, built, is_simple, matches_of}
use Rattle.clap.specs.Walk.{default_rows, is_empty, has_row, nothing_held, walk_from, with_default, Row, Rule, Text, arg_by_id, arg_by_long}
use Rattle.clap.specs.Walk.{first_of, reading_by, rows_of}
use Rattle.synth_top.specs.declared.status.Status.{Status}
use Rattle.synth_top.specs.Given.{NamedValue, PlainGiven, given_by, given_in, has_each_once, is_option_name, value_named, values_in}
use Rattle.synth_top.specs.Private.ClapCommand.{given_of_matches, given_of_rows, synth_app}
use Rattle.synth_top.proofs.ClapUses.{IsWordCommand, option_of, row_of_value, rows_of_values}
use Rattle.synth_top.proofs.ClapWalk.{AreTexts, fault_from, reads_words}

-- ---- the command

-- no setting changes how its words are read, and no argument has a rule on another
pub synth_is_simple : is_simple synth_app ≡ true
synth_is_simple = refl

pub synth_is_free : is_simple_and_free synth_app ≡ true
synth_is_free = refl

-- what clap builds of it
abbrev synth_shape : Shape
synth_shape = (built synth_app).top

abbrev rules : List Rule
rules = synth_shape.rules

-- the names of options, one by one
module _ (P : Text → Type 0) (rows : P (codes "rows")) (cols : P (codes "cols")) (keys : P (codes "keys"))
    (input : P (codes "input")) (make : P (codes "make")) where
  each_option : (name : Text) → is_option_name name ≡ true → P name
  each_option name is =
      by_tests (bytes_eq (codes "rows") name) refl (bytes_eq (codes "cols") name) refl (bytes_eq (codes "keys") name) refl
      (bytes_eq (codes "input") name) refl (bytes_eq (codes "make") name) refl is
    where
      by_tests : (r : Bool) → bytes_eq (codes "rows") name ≡ r → (c : Bool) → bytes_eq (codes "cols") name ≡ c → (k : Bool) → bytes_eq (codes "keys") name ≡ k
          → (i : Bool) → bytes_eq (codes "input") name ≡ i → (m : Bool) → bytes_eq (codes "make") name ≡ m
          → (r || (c || (k || (i || (m || false))))) ≡ true → P name
      by_tests true r_is c c_is k k_is i i_is m m_is any = subst P ((bytes_eq-Decides (codes "rows") name).0 r_is) rows
      by_tests false r_is true c_is k k_is i i_is m m_is any =
          subst P ((bytes_eq-Decides (codes "cols") name).0 c_is) cols
      by_tests false r_is false c_is true k_is i i_is m m_is any =
          subst P ((bytes_eq-Decides (codes "keys") name).0 k_is) keys
      by_tests false r_is false c_is false k_is true i_is m m_is any =
          subst P ((bytes_eq-Decides (codes "input") name).0 i_is) input
      by_tests false r_is false c_is false k_is false i_is true m_is any =
          subst P ((bytes_eq-Decides (codes "make") name).0 m_is) make
      by_tests false r_is false c_is false k_is false i_is false m_is any = absurd (cc)

-- by which of the names an option is found
abbrev found_by : (rows cols keys input make : Bool) → Option Rule
found_by rows cols keys input make =
    if rows || false then Some (option_of (codes "rows"))
    else (if cols || false then Some (option_of (codes "cols"))
    else (if keys || false then Some (option_of (codes "keys"))
    else (if input || false then Some (option_of (codes "input"))
    else (if make || false then Some (option_of (codes "make")) else None))))

missing_by : (rows cols keys input make : Bool) → (rows || (cols || (keys || (input || (make || false))))) ≡ false
    → found_by rows cols keys input make ≡ None
missing_by true cols keys input make isnt = absurd (cc)
missing_by false true keys input make isnt = absurd (cc)
missing_by false false true input make isnt = absurd (cc)
missing_by false false false true make isnt = absurd (cc)
missing_by false false false false true isnt = absurd (cc)
missing_by false false false false false isnt = refl

-- no argument has a value of its own
abbrev HaveNoDefaults : List Rule → Type 0
HaveNoDefaults [] = Unit {0}
HaveNoDefaults (a ∷ rest) = (a.defaults ≡ []) × HaveNoDefaults rest

same_rows : (rows : List Row) (a : Rule) → a.defaults ≡ [] → with_default rows a ≡ rows
same_rows rows a none =
    ap (λ (texts : List Text). if has_row a.id rows then rows else default_rows a.id (reading_by a) texts rows) none ∙ by_test (has_row a.id rows) where
      by_test : (test : Bool) → (if test then rows else rows) ≡ rows
      by_test true = refl
      by_test false = refl

no_default_rows : (all : List Rule) → HaveNoDefaults all → (rows : List Row) → fold with_default rows all ≡ rows
no_default_rows [] none rows = refl
no_default_rows (a ∷ rest) none rows = ap (λ (r : List Row). fold with_default r rest) (same_rows rows a none.0) ∙ no_default_rows rest none.1 rows

no_default_fault : (rows : List Row) (a : Rule) → a.defaults ≡ [] → default_fault rows a ≡ []
no_default_fault rows a none =
    ap (λ (texts : List Text). if has_row a.id rows || is_empty texts then [] else given_default_fault a texts) none ∙ by_test (has_row a.id rows) where
      by_test : (test : Bool) → (if test || true then [] else given_default_fault a []) ≡ []
      by_test true = refl
      by_test false = refl

no_default_faults : (all : List Rule) → HaveNoDefaults all → (rows : List Row) → defaults_fault rows all ≡ []
unfolding defaults_fault
no_default_faults [] none rows = refl
no_default_faults (a ∷ rest) none rows =
    ap (λ (k : Kinds). or_else k (defaults_fault (with_default rows a) rest)) (no_default_fault rows a none.0) ∙ no_default_faults rest none.1 (with_default rows a)

-- the command has five options and one word that stands by itself
synth_words : IsWordCommand synth_shape
synth_words = record {
  leaf = refl;
  once = refl;
  option_named = each_option (λ name. arg_by_long rules name ≡ Some (option_of name)) refl refl refl refl refl;
  none_named = λ name isnt.
      missing_by (bytes_eq (codes "rows") name) (bytes_eq (codes "cols") name) (bytes_eq (codes "keys") name)
      (bytes_eq (codes "input") name) (bytes_eq (codes "make") name) isnt;
  none_lettered = λ letter. refl;
  first_word = refl;
  no_second_word = refl;
  option_known = each_option (λ name. arg_by_id rules name ≡ Some (option_of name)) refl refl refl refl refl;
  program_known = refl;
  no_default = no_default_rows rules (refl, (refl, (refl, (refl, (refl, (refl, tt))))));
  no_default_fault = no_default_faults rules (refl, (refl, (refl, (refl, (refl, (refl, tt))))));
  no_check_fault = λ rows. refl;
}

-- ---- what the words give

-- a name has the same text in values and in their rows
first_in_rows : (name : Text) (values : List NamedValue) → first_of name (rows_of_values values) ≡ value_named name values
first_in_rows name [] = refl
first_in_rows name (v ∷ values) = by_test (bytes_eq v.name name) (first_in_rows name values) where
  by_test : (test : Bool) → first_of name (rows_of_values values) ≡ value_named name values
      → option_and_then (λ (r : Row). slice_get r.values 0) (if test then Some (row_of_value v) else find (λ (r : Row). bytes_eq r.id name) (rows_of_values values))
      ≡ option_map (λ (x : NamedValue). x.value) (if test then Some v else find (λ (x : NamedValue). bytes_eq x.name name) values)
  by_test true rest = refl
  by_test false rest = rest

-- what these texts give
abbrev the_given : (rows cols keys input make program : Option Text) → PlainGiven
the_given rows cols keys input make program =
    record { rows = rows; cols = cols; keys = keys; input = input; make = make; program = program }

-- the same texts give the same
given_same : (a b c d e f g h i j k l : Option Text) → a ≡ b → c ≡ d → e ≡ f → g ≡ h → i ≡ j → k ≡ l
    → the_given a c e g i k ≡ the_given b d f h j l
given_same a b c d e f g h i j k l ab cd ef gh ij kl =
    ap (λ z. the_given z c e g i k) ab ∙ ap (λ z. the_given b z e g i k) cd ∙ ap (λ z. the_given b d z g i k) ef
    ∙ ap (λ z. the_given b d f z i k) gh ∙ ap (λ z. the_given b d f h z k) ij ∙ ap (λ z. the_given b d f h j z) kl

-- values give what their rows give
given_by_values : (values : List NamedValue) → given_of_rows (rows_of_values values) ≡ given_by values
given_by_values values =
    given_same _ _ _ _ _ _ _ _ _ _ _ _ (first_in_rows (codes "rows") values) (first_in_rows (codes "cols") values)
    (first_in_rows (codes "keys") values) (first_in_rows (codes "input") values) (first_in_rows (codes "make") values)
    (first_in_rows (codes "program") values)

-- what is refused of the words is refused of them from the first on
fault_of_words : (words : List Text) → fault_of synth_app words ≡ fault_from synth_shape (walk_from nothing_held) words
fault_of_words words = leaf_fault (built synth_app) nothing_held words refl

-- values give what they give where none has its name twice
abbrev given_of_values : (more : Option (List NamedValue)) → Option PlainGiven
given_of_values more = option_and_then (λ values. if has_each_once values then Some (given_by values) else None) more

nothing_given : (more : Option (List NamedValue)) → ((values : List NamedValue) → more ≡ Some values → has_each_once values ≡ false)
    → given_of_values more ≡ None
nothing_given None none = refl
nothing_given (Some values) none = ap (λ (b : Bool). if b then Some (given_by values) else None) (none values refl)

-- words that clap takes give what its matches give
pub clap_reads : (words : List Text) → AreTexts words → fault_of synth_app words ≡ [] → given_in words ≡ Some (given_of_rows (matches_of synth_app words))
clap_reads words texts none =
    elim (reads_words synth_shape synth_words words texts) as (λ _. given_in words ≡ Some (given_of_rows (matches_of synth_app words))) [
      | inl takes ↦
          ap given_of_values takes.more_is ∙ ap (λ (b : Bool). if b then Some (given_by takes.values) else None) takes.once
          ∙ ap (λ (g : PlainGiven). Some g) (sym (given_by_values takes.values) ∙ ap given_of_rows (sym takes.rows))
      | inr refuses ↦ absurd (refuses.fault (sym (fault_of_words words) ∙ none))
    ]

-- words that it refuses give nothing
pub clap_refuses : (words : List Text) → AreTexts words → (fault_of synth_app words ≡ [] → ⊥) → given_in words ≡ None
clap_refuses words texts some =
    elim (reads_words synth_shape synth_words words texts) as (λ _. given_in words ≡ None) [
      | inl takes ↦ absurd (some (fault_of_words words ∙ takes.fault))
      | inr refuses ↦ nothing_given (values_in None words) refuses.none
    ]

-- the texts of matches, by their rows
pub given_by_rows : (found : Found) → given_of_matches found ≡ given_of_rows (rows_of found)
given_by_rows found =
    given_same _ _ _ _ _ _ _ _ _ _ _ _ (first_value-rows found (codes "rows")) (first_value-rows found (codes "cols"))
    (first_value-rows found (codes "keys")) (first_value-rows found (codes "input"))
    (first_value-rows found (codes "make")) (first_value-rows found (codes "program"))

-- ---- at the command that clap was given

module _ (app : App) (words : List Text) (texts : AreTexts words) where
  -- what was found gives what the words give
  pub clap_reads_found : (m : ArgMatches) (given : PlainGiven) → app ≡ synth_app → (is_simple_and_free app ≡ true → fault_of app words ≡ [])
      → HasMatchesOf app words m → given ≡ given_of_matches (found_of m) → given_in words ≡ Some given
  clap_reads_found m given is none matches same =
      let free : is_simple_and_free app ≡ true = ap is_simple_and_free is ∙ synth_is_free in
      let simple : is_simple app ≡ true = ap is_simple is ∙ synth_is_simple in
      clap_reads words texts (ap (λ (a : App). fault_of a words) (sym is) ∙ none free)
      ∙ ap (λ (rows : List Row). Some (given_of_rows rows)) (sym ((matches simple).0 ∙ ap (λ (a : App). matches_of a words) is))
      ∙ ap (λ (g : PlainGiven). Some g) (sym (given_by_rows (found_of m)) ∙ sym same)

  -- some kind of error is no empty list of them
  some_kind : (k : ErrorKind) (kinds : Kinds) → IsAmong k kinds → kinds ≡ [] → ⊥
  some_kind k [] among none = among
  some_kind k (first ∷ rest) among none = cc (none)

  -- an error is want of memory, or the words give nothing
  pub clap_refuses_kinds : (status : Status) (e : Error) → app ≡ synth_app → (is_simple_and_free app ≡ true → HasKind (fault_of app words) e)
      → ((status ≡ Status.NoMemory) × (kind_of e ≡ kind.OutOfMemory)) ⊎ ((status ≡ Status.BadWords) × (kind_of e ≡ kind.OutOfMemory → ⊥))
      → (status ≡ Status.NoMemory) ⊎ ((status ≡ Status.BadWords) × (given_in words ≡ None))
  clap_refuses_kinds status e is has by =
      let free : is_simple_and_free app ≡ true = ap is_simple_and_free is ∙ synth_is_free in
      elim by as (λ _. (status ≡ Status.NoMemory) ⊎ ((status ≡ Status.BadWords) × (given_in words ≡ None))) [
        | inl wanted ↦ inl wanted.0
        | inr bad ↦ inr (
          bad.0,
          clap_refuses words texts (λ none. elim (has free) as (λ _. ⊥) [
            | inl wanted ↦ bad.1 wanted
            | inr among ↦ some_kind (kind_of e) (fault_of app words) among (ap (λ (a : App). fault_of a words) is ∙ none)
          ]),
        )
      ]
