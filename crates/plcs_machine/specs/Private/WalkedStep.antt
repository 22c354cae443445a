-- A step whose instructions are run up to one that doesn't go on to another, as the code tells of it.
use Rattle.std.specs.Prelude.{◌≡◌, ℕ, ◌+◌, ◌-◌, ◌≤◌, Bool, true, false, List, [], length, reverse, take, Option, None, Some, option_and_then, option_map}
use Rattle.std.specs.FinMap.{get}
use Rattle.plcs_base.specs.declared.place.Place.{Place}
use Rattle.plcs_base.specs.declared.value.Value.{Value}
use Rattle.plcs_code.specs.declared.heading_entry.HeadingEntry.{HeadingEntry}
use Rattle.plcs_code.specs.Gen.{PlainCode}
use Rattle.plcs_store.specs.declared.argument.Argument.{Argument}
use Rattle.plcs_store.specs.declared.cell.Location.{Location}
use Rattle.plcs_store.specs.declared.run_state.RunState.{RunState}
use Rattle.plcs_store.specs.declared.undo.Undo.{Undo}
use Rattle.plcs_store.specs.Act.{Act, newest_at}
use Rattle.plcs_store.specs.Configuration.{PlainConfiguration, plain_configuration}
use Rattle.plcs_store.specs.Outcome.{Outcome}
use Rattle.plcs_store.specs.OutputItem.{output_with}
use Rattle.template_tree.specs.Positions.Place.{PlainPlace}
use Rattle.plcs_machine.specs.declared.step_answer.StepAnswer.{StepAnswer}
use Rattle.plcs_machine.specs.declared.led.Led.{Led}
use Rattle.plcs_machine.specs.declared.led.Walked.{Walked}
use Rattle.plcs_machine.specs.Exec.{FetchedAnswer, outcome_answer, run_from}
use Rattle.plcs_machine.specs.Fetched.{fetches_of, result_of}
use Rattle.plcs_machine.specs.Lead.{Lead, newest_arguments, put_lead}
use Rattle.plcs_machine.specs.Passing.{settle}
use Rattle.plcs_machine.specs.StepMade.{DoesAct, NothingChanges, step_answered}
use Rattle.plcs_machine.specs.Private.CountedSteps.{behind_many}
use Rattle.plcs_machine.specs.Private.DoableLead.{IsDoable}
use Rattle.plcs_machine.specs.Private.PlainLed.{TakesAtMost, plain_doing, plain_led}

-- behind an instruction that doesn't go on to another, no instruction comes next
abbrev pub nowhere : (address : ℕ) → List Value → List Argument → Option FetchedAnswer
nowhere address values arguments = None

-- the answer of a step behind an instruction that comes to this and doesn't go on to another, where so many fetches are
-- left
abbrev pub ending_answer : PlainCode → PlainConfiguration → (left : ℕ) → Outcome Lead → Option FetchedAnswer
ending_answer code c left outcome = outcome_answer c nowhere (settle c.frames code.instrs left) outcome

-- the answer of a step whose instructions are run from behind an address on, where this is left of the input
abbrev pub run_on : PlainCode → (rest : List ℕ) → PlainConfiguration → (address : ℕ) → Option FetchedAnswer
run_on code rest c address = run_from code rest c (length code.instrs) (address + 1) [] []

-- the answer of a step whose instructions are run from behind a place on, where this is left of the input
abbrev pub run_at : PlainCode → (rest : List ℕ) → PlainConfiguration → Place → Option FetchedAnswer
run_at code rest c place = option_and_then (run_on code rest c) (get code.addresses place)

-- what an instruction came to that was walked to, where these are the operands and the arguments then
abbrev pub walked_outcome : PlainConfiguration → Walked → List Value → List Argument → Outcome Lead
walked_outcome c walked values arguments = plain_doing c.output walked.next walked.doing values arguments

-- a step that begins behind a place was walked to an instruction that doesn't go on to another: its answer is the
-- answer of the step, and it can be done
pub record IsWalked (code : PlainCode) (rest : List ℕ) (c : PlainConfiguration) (place : Place) (walked : Walked)
    (values : List Value) (arguments : List Argument) : Type 0 where
  pub few : walked.left + 1 ≤ length code.instrs
  pub whole :
      option_map (behind_many (length code.instrs - (walked.left + 1)))
      (ending_answer code c walked.left (walked_outcome c walked values arguments))
      ≡ run_at code rest c place
  pub can : IsDoable c.frames (walked_outcome c walked values arguments)
  pub within : TakesAtMost (length rest) walked.doing
  pub short : length code.instrs ≤ 4294967295

-- ---- the answers that are wanted behind an instruction, in a state, where so many fetches are left

-- the answer of a walked step behind the instruction that it was walked to
abbrev pub walked_answer : PlainCode → RunState → Walked → Option FetchedAnswer
walked_answer code state walked =
    ending_answer code (plain_configuration state) walked.left
    (walked_outcome (plain_configuration state) walked state.operands.values state.operands.arguments)

-- the answer of a walked step behind an instruction that writes so many newest operands, on a new line or not, where
-- this is the next address
abbrev pub put_answer : PlainCode → RunState → (left next : ℕ) → (skip : Bool) → (count : ℕ) → Option FetchedAnswer
put_answer code state left next skip count =
    ending_answer code (plain_configuration state) left (put_lead next state.output skip count state.operands.values)

-- the answer of a walked step behind an instruction that reads a value, which took so many bytes, where this is the
-- next address
abbrev pub read_answer : PlainCode → RunState → (left next : ℕ) → Location → Value → (count : ℕ) → Option FetchedAnswer
read_answer code state left next location value count =
    ending_answer code (plain_configuration state) left (Outcome.gives (Lead.acts (Act.read location value count) next))

-- the answer of a walked step behind an instruction that leads to anything else
abbrev pub led_answer : PlainCode → RunState → (left : ℕ) → Led → Option FetchedAnswer
led_answer code state left led =
    ending_answer code (plain_configuration state) left (plain_led led state.operands.values state.operands.arguments)

-- the answer of a walked step behind an instruction that calls a procedure with so many newest arguments
abbrev pub called_answer : PlainCode → RunState → (left : ℕ) → HeadingEntry → (count : ℕ) → Option FetchedAnswer
called_answer code state left entry count =
    ending_answer code (plain_configuration state) left
    (Outcome.gives (Lead.enters entry.slot.0 entry.address (newest_arguments count state.operands.arguments)))

-- of a step whose instructions are run, how many fetches are wanted beside that of the instruction at hand
abbrev pub more_fetches : Option FetchedAnswer → ℕ
more_fetches wanted = fetches_of wanted - 1

-- ---- what a step did

-- what the code answers is the answer that is wanted, after which the configuration and the record are these: a step
-- that is made does an act, and any other changes nothing
abbrev pub IsStepDone : (wanted : Option FetchedAnswer) → StepAnswer → (before now : PlainConfiguration)
    → (noted notes : Undo) → Type 0
IsStepDone wanted StepAnswer.Stepped before now noted notes =
    DoesAct before now notes × (result_of wanted ≡ Some (step_answered StepAnswer.Stepped now))
IsStepDone wanted (StepAnswer.Stopped reason) before now noted notes =
    NothingChanges before now noted notes × (result_of wanted ≡ Some (step_answered (StepAnswer.Stopped reason) now))
IsStepDone wanted StepAnswer.Ended before now noted notes =
    NothingChanges before now noted notes × (result_of wanted ≡ Some (step_answered StepAnswer.Ended now))

-- what the code answers to a walked step is the answer that is wanted, after which the states of the run, but for
-- operands, and the record are these
abbrev pub IsDone : (wanted : Option FetchedAnswer) → StepAnswer → (before now : RunState) → (noted notes : Undo)
    → Type 0
IsDone wanted answer before now noted notes =
    IsStepDone wanted answer (plain_configuration before) (plain_configuration now) noted notes

-- a step whose instructions are run changes neither a state nor the record, but for operands
abbrev pub IsStateKept : (before now : RunState) → (noted notes : Undo) → Type 0
IsStateKept before now noted notes = NothingChanges (plain_configuration before) (plain_configuration now) noted notes

-- of a step whose instructions are run: what was written in its state, with so many newest operands behind it, on a new
-- line or not
abbrev pub output_then : RunState → (skip : Bool) → (count : ℕ) → List ℕ
output_then state skip count = output_with skip state.output (reverse (take count state.operands.values))

-- of a step whose instructions are run: its configuration with this output, if what was written fits
abbrev pub with_output_if : Bool → (output : List ℕ) → PlainConfiguration → PlainConfiguration
with_output_if true output c = record c { output = output }
with_output_if false output c = c

-- the configuration of a step whose instructions are run, standing at the place where its act goes on
abbrev pub standing_at : PlainPlace → PlainConfiguration → PlainConfiguration
standing_at place c = record c { frames = newest_at place c.frames }
