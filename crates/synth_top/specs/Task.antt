-- What the words that follow the program's name ask for: a task.
use Rattle.std.specs.Prelude.{ℕ, Bool, ◌&&◌, is_none, List, Option, Some, None, option_and_then, option_map, if◌then◌else◌}
use Rattle.synth_top.specs.declared.task.TheConstants.{FEWEST_STATEMENTS, MOST_STATEMENTS}
use Rattle.synth_top.specs.Given.{PlainGiven, given_in}
use Rattle.synth_top.specs.Options.{PlainOptions, count_between, options_with}

-- the tasks, each of which is a case of what is stated of a whole run: to edit, with these options, or to make a
-- program of so many statements
pub data PlainTask : Type 0 where
  Edit : (options : PlainOptions) → PlainTask
  Make : (number : ℕ) → PlainTask

-- whether words ask for no options and no file of a task, so that a program may be made
abbrev pub gives_no_option : PlainGiven → Bool
gives_no_option given =
    is_none given.rows && is_none given.cols && is_none given.keys && is_none given.input && is_none given.program

-- the task, if there is one, is to make a program
abbrev pub IsMaking : Option PlainTask → Type 0
IsMaking None = ⊥
IsMaking (Some (Edit options)) = ⊥
IsMaking (Some (Make number)) = Unit {0}

-- the task that is asked for by what words give, by the number of statements that they give, if they do: such a number
-- stands alone
abbrev pub task_by : PlainGiven → (make : Option (List ℕ)) → Option PlainTask
task_by given None = option_map Edit (options_with given)
task_by given (Some number) =
    if gives_no_option given then option_map Make (count_between FEWEST_STATEMENTS MOST_STATEMENTS number) else None

-- the task that is asked for by what words give, if they are words of the command
abbrev pub task_with : PlainGiven → Option PlainTask
task_with given = task_by given given.make

-- the task that the words ask for, or none where they aren't words of the command
unfoldable pub task_of : List (List ℕ) → Option PlainTask
task_of words = option_and_then task_with (given_in words)
