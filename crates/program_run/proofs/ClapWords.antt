-- The words of the command as clap reads them.
use Rattle.std.proofs.Common.{◌≡◌, ◌⊎◌, inl, inr, true, List, [], ◌∷◌, Option, Some, None, refl, sym, ap, ◌∙◌, codes}
use Rattle.clap.proofs.WalkLemmas.{first_value-rows}
use Rattle.clap.specs.declared.error.Error.{Error}
use Rattle.clap.specs.declared.error.kind.ErrorKind.{ErrorKind}
use Rattle.clap.specs.declared.error.kind.ErrorKind.TheVariants as kind
use Rattle.clap.specs.declared.parser.matches.ArgMatches.{ArgMatches}
use Rattle.clap.specs.declared.parser.matches.Found.{Found}
use Rattle.clap.specs.Faults.{fault_of, is_simple_and_free}
use Rattle.clap.specs.Kinds.{HasKind, IsAmong, Kinds}
use Rattle.clap.specs.Matches.{found_of}
use Rattle.clap.specs.Simple.{App, HasMatchesOf, is_simple, matches_of}
use Rattle.clap.specs.Values.{kind_of}
use Rattle.clap.specs.Walk.{Row, Text, rows_of}
use Rattle.program_run.specs.declared.ending.Ending.{Ending}
use Rattle.program_run.specs.GivenWords.{PlainGivenWords, given_unless_faulty, given_words, words_of_rows}
use Rattle.program_run.specs.Private.PlainForms.{words_of_matches}
use Rattle.program_run.specs.RunCommand.{run_command}

-- no setting of the command changes how its words are read, and no argument has a rule on another
command_is_simple : is_simple run_command ≡ true
command_is_simple = refl

command_is_free : is_simple_and_free run_command ≡ true
command_is_free = refl

-- the same texts give the same
abbrev the_words : (steps program input : Option Text) → PlainGivenWords
the_words steps program input = record { steps = steps; program = program; input = input }

words_same : (a b c d e f : Option Text) → a ≡ b → c ≡ d → e ≡ f → the_words a c e ≡ the_words b d f
words_same a b c d e f ab cd ef = ap (λ z. the_words z c e) ab ∙ ap (λ z. the_words b z e) cd ∙ ap (λ z. the_words b d z) ef

-- the texts of matches, by their rows
words_by_rows : (found : Found) → words_of_matches found ≡ words_of_rows (rows_of found)
words_by_rows found =
    words_same _ _ _ _ _ _ (first_value-rows found (codes "steps")) (first_value-rows found (codes "program")) (first_value-rows found (codes "input"))

-- what the words give where nothing is wrong with them, and where something is
given_rightly : (kinds : Kinds) (given : PlainGivenWords) → kinds ≡ [] → given_unless_faulty kinds given ≡ Some given
given_rightly [] given none = refl
given_rightly (first ∷ rest) given none = absurd (cc)

given_wrongly : (kinds : Kinds) (given : PlainGivenWords) → (kinds ≡ [] → ⊥) → given_unless_faulty kinds given ≡ None
given_wrongly [] given some = absurd (some refl)
given_wrongly (first ∷ rest) given some = refl

-- ---- at the command that clap was given

module _ (app : App) (words : List Text) where
  -- what was found gives what the words give
  pub clap_reads : (m : ArgMatches) (given : PlainGivenWords) → app ≡ run_command → (is_simple_and_free app ≡ true → fault_of app words ≡ [])
      → HasMatchesOf app words m → given ≡ words_of_matches (found_of m) → given_words words ≡ Some given
  unfolding given_words
  clap_reads m given is none matches same =
      let free : is_simple_and_free app ≡ true = ap is_simple_and_free is ∙ command_is_free in
      let simple : is_simple app ≡ true = ap is_simple is ∙ command_is_simple in
      given_rightly (fault_of run_command words) (words_of_rows (matches_of run_command words)) (ap (λ (a : App). fault_of a words) (sym is) ∙ none free)
      ∙ ap (λ (rows : List Row). Some (words_of_rows rows)) (sym ((matches simple).0 ∙ ap (λ (a : App). matches_of a words) is))
      ∙ ap (λ (g : PlainGivenWords). Some g) (sym (words_by_rows (found_of m)) ∙ sym same)

  -- some kind of error is no empty list of them
  some_kind : (k : ErrorKind) (kinds : Kinds) → IsAmong k kinds → kinds ≡ [] → ⊥
  some_kind k [] among none = among
  some_kind k (first ∷ rest) among none = cc (none)

  -- an error is want of memory, or the words give nothing
  pub clap_refuses : (ending : Ending) (e : Error) → app ≡ run_command → (is_simple_and_free app ≡ true → HasKind (fault_of app words) e)
      → ((ending ≡ Ending.NoMemory) × (kind_of e ≡ kind.OutOfMemory)) ⊎ ((ending ≡ Ending.BadWords) × (kind_of e ≡ kind.OutOfMemory → ⊥))
      → (ending ≡ Ending.NoMemory) ⊎ ((ending ≡ Ending.BadWords) × (given_words words ≡ None))
  unfolding given_words
  clap_refuses ending e is has by =
      let free : is_simple_and_free app ≡ true = ap is_simple_and_free is ∙ command_is_free in
      elim by as (λ _. (ending ≡ Ending.NoMemory) ⊎ ((ending ≡ Ending.BadWords) × (given_words words ≡ None))) [
        | inl wanted ↦ inl wanted.0
        | inr bad ↦ inr (
          bad.0,
          given_wrongly (fault_of run_command words) (words_of_rows (matches_of run_command words)) (λ none. elim (has free) as (λ _. ⊥) [
            | inl wanted ↦ bad.1 wanted
            | inr among ↦ some_kind (kind_of e) (fault_of app words) among (ap (λ (a : App). fault_of a words) is ∙ none)
          ]),
        )
      ]
