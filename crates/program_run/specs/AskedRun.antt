-- The run that the words of the command ask for.
use Rattle.std.specs.Prelude.{ℕ, Bool, true, ◌&&◌, nat_le, List, length, Option, Some, None, option_and_then, if◌then◌else◌}
use Rattle.std.specs.Option.{option_map_or}
use Rattle.session_words.specs.Argument.{is_file_name, number_between}
use Rattle.program_run.specs.declared.asked_run.TheConstants.{FEWEST_STEPS, MOST_STEPS, USUAL_STEPS, MOST_DIGITS}
use Rattle.program_run.specs.GivenWords.{PlainGivenWords, given_words}

-- a run that is asked for: how many steps are made at most, and the names of the files with the program and with its
-- input, if there is one
pub record PlainAskedRun : Type 0 where
  pub steps : ℕ
  pub program : List ℕ
  pub input : Option (List ℕ)

-- the number of steps that a word asks for: a number in its range, in 1 to 10 digits
abbrev pub steps_in : List ℕ → Option ℕ
steps_in word = if nat_le (length word) MOST_DIGITS then number_between FEWEST_STEPS MOST_STEPS word else None

-- how many steps of the run are asked for: by a word, or where there is none the usual number
abbrev pub steps_given : Option (List ℕ) → Option ℕ
steps_given None = Some USUAL_STEPS
steps_given (Some word) = steps_in word

-- whether the run has no file for its input, or one by a name that a file may have
abbrev pub is_input_name : Option (List ℕ) → Bool
is_input_name name = option_map_or is_file_name name true

-- the run that is asked for by what words give: they name a program, the number of steps is in its range, and each
-- name is one that a file may have
abbrev pub run_asked_by : PlainGivenWords → Option PlainAskedRun
run_asked_by given =
    option_and_then (λ steps.
    option_and_then (λ program.
    if is_file_name program && is_input_name given.input
    then Some (record { steps = steps; program = program; input = given.input }) else None)
    given.program)
    (steps_given given.steps)

-- the run that the words ask for, or none where they aren't words of the command
unfoldable pub asked_run_of : List (List ℕ) → Option PlainAskedRun
asked_run_of words = option_and_then run_asked_by (given_words words)
