-- One step of a run by code: its instructions one after the other, up to the next place, a stop or the end.
use Rattle.std.specs.Prelude.{ℕ, zero, suc, ◌+◌, nat_le, ◌&&◌, if◌then◌else◌, List, [], drop, length, slice_get, Option, Some, None, option_and_then, option_map}
use Rattle.plcs_base.specs.declared.value.Value.{Value}
use Rattle.plcs_code.specs.Gen.{PlainCode}
use Rattle.plcs_store.specs.declared.argument.Argument.{Argument}
use Rattle.plcs_store.specs.Act.{Act, done}
use Rattle.plcs_store.specs.Configuration.{PlainConfiguration, top_place}
use Rattle.plcs_store.specs.Limit.{most_frames}
use Rattle.plcs_store.specs.NewFrame.{new_frame}
use Rattle.plcs_store.specs.Outcome.{Outcome, if_there, then_gives}
use Rattle.plcs_store.specs.Step.{PlainStepAnswer}
use Rattle.plcs_machine.specs.Fetched.{Fetched, at_once, behind_one, with_result}
use Rattle.plcs_machine.specs.Lead.{Lead, address_of, lead}
use Rattle.plcs_machine.specs.Passing.{Landing, Making, settle}

-- what one step of a run by code comes to: its answer, with how many instructions it fetches
abbrev pub FetchedAnswer : Type 0
FetchedAnswer = Fetched PlainStepAnswer

-- the answer of a step by code that does the act and ends where it lands
abbrev pub acted : PlainConfiguration → Act → Landing → PlainStepAnswer
acted c act landing = PlainStepAnswer.stepped (done act landing.place c)

-- the answer of a step that calls the procedure in the slot, whose frame is made where it lands
abbrev pub called : PlainConfiguration → (slot : ℕ) → Landing → PlainStepAnswer
called c slot landing = acted c (Act.call (new_frame slot landing.place landing.variables)) landing

-- the frame that one step of a run by code makes for a call with these arguments, before its instructions make the
-- variables
abbrev pub making_for : List Argument → Making
making_for arguments = record { variables = []; arguments = arguments }

-- the answer of a step behind an instruction that leads there, where it is told how the run goes on and where it ends
abbrev pub lead_answer : PlainConfiguration → (go : ℕ → List Value → List Argument → Option FetchedAnswer)
    → (settled : ℕ → Option Making → Option (Fetched Landing)) → Lead → Option FetchedAnswer
lead_answer c go settled (Lead.goes_on address values arguments) = option_map behind_one (go address values arguments)
lead_answer c go settled (Lead.acts act address) =
    option_map (λ landed. behind_one (with_result (acted c act) landed)) (settled address None)
lead_answer c go settled (Lead.enters slot address arguments) =
    option_map (λ landed. behind_one (with_result (called c slot) landed))
    (settled address (Some (making_for arguments)))
lead_answer c go settled (Lead.arrives place) = Some (at_once (PlainStepAnswer.stepped (done Act.pass place c)))
lead_answer c go settled Lead.ends = Some (at_once PlainStepAnswer.ended)

-- the answer of a step by code, whose instruction comes to this
abbrev pub outcome_answer : PlainConfiguration → (go : ℕ → List Value → List Argument → Option FetchedAnswer)
    → (settled : ℕ → Option Making → Option (Fetched Landing)) → Outcome Lead → Option FetchedAnswer
outcome_answer c go settled (Outcome.gives leads) = lead_answer c go settled leads
outcome_answer c go settled (Outcome.stops reason) = Some (at_once (PlainStepAnswer.stopped reason))
outcome_answer c go settled Outcome.undefined = None

-- the answer of a step that has come to an address, within so many fetches, with these operands, the newest first, and
-- these arguments
abbrev pub run_from : PlainCode → (rest : List ℕ) → PlainConfiguration → (fetches address : ℕ) → List Value
    → List Argument → Option FetchedAnswer
run_from code rest c zero address values arguments = None
run_from code rest c (suc fetches) address values arguments =
    outcome_answer c (run_from code rest c fetches) (settle c.frames code.instrs fetches)
    (then_gives
    (if_there (slice_get code.instrs address))
    (lead code c.frames rest c.output (address + 1) values arguments))

-- the answer of a step that begins behind an address
abbrev pub run_behind : PlainCode → (input : List ℕ) → PlainConfiguration → (address : ℕ) → Option FetchedAnswer
run_behind code input c address = run_from code (drop c.taken input) c (length code.instrs) (address + 1) [] []

-- the answer of a step of a configuration by the code, with this input, and how many instructions it fetches: it begins
-- behind the place of the newest frame, and ends with fetching the next place, what stops the run, the instruction with
-- a fault, or the end of main. It isn't defined where an instruction lacks what it needs, or where none of these ends
-- comes within as many fetches as the code has instructions
abbrev pub Exec : PlainCode → (input : List ℕ) → PlainConfiguration → Option FetchedAnswer
Exec code input c =
    if nat_le 1 (length c.frames) && nat_le (length c.frames) most_frames
    then option_and_then (run_behind code input c) (option_and_then (address_of code) (top_place c.frames)) else None
