-- What the words give that follow the command's name, by clap's own definition of how words are read.
use Rattle.std.specs.Prelude.{ℕ, List, [], ◌∷◌, codes, Option, Some, None}
use Rattle.clap.specs.Words.{Kinds, Row, fault_of, first_of, matches_of}
use Rattle.program_run.specs.RunCommand.{run_command}

-- what words give: a text for the number of steps, for the file with the program and for the one with its input, if
-- they name them
pub record PlainGivenWords : Type 0 where
  pub steps : Option (List ℕ)
  pub program : Option (List ℕ)
  pub input : Option (List ℕ)

-- what the words give of which clap makes these matches
abbrev pub words_of_rows : List Row → PlainGivenWords
words_of_rows rows = record {
  steps = first_of (codes "steps") rows;
  program = first_of (codes "program") rows;
  input = first_of (codes "input") rows;
}

-- what words give with which these faults are found: where there is a fault, nothing
abbrev pub given_unless_faulty : (faults : Kinds) → PlainGivenWords → Option PlainGivenWords
given_unless_faulty [] given = Some given
given_unless_faulty (fault ∷ faults) given = None

-- what the words give, where clap finds no fault with them by the command
unfoldable pub given_words : List (List ℕ) → Option PlainGivenWords
given_words words = given_unless_faulty (fault_of run_command words) (words_of_rows (matches_of run_command words))
