-- One step of a run: what stands at the place of the newest frame, done to the configuration. Code plays no part in it.
use Rattle.std.specs.Prelude.{ℕ, ◌-◌, nat_le, ℤ, pos, ◌+ℤ◌, int_le, int_lt, Bool, if◌then◌else◌, List, ◌++◌, drop, length, slice_get, Option, Some, None, option_and_then, option_map, Result, Ok, Err}
use Rattle.plcs_base.specs.declared.value.Value.{Value}
use Rattle.plcs_grammar.specs.PlainPhrase.{PlainExpr, PlainExprs, PlainVarRef}
use Rattle.template_tree.specs.Positions.Place.{PlainPlace}
use Rattle.template_tree.specs.Programs.PlainTree.{Forest}
use Rattle.plcs_store.specs.declared.argument.Argument.{Argument}
use Rattle.plcs_store.specs.declared.cell.Location.{Location}
use Rattle.plcs_store.specs.declared.fault_kind.FaultKind.{FaultKind}
use Rattle.plcs_store.specs.declared.frame.Frame.{Frame}
use Rattle.plcs_store.specs.declared.kept_loop.KeptLoop.{KeptLoop}
use Rattle.plcs_store.specs.declared.input_item.ItemFault.{ItemFault}
use Rattle.plcs_store.specs.declared.reason.Reason.{Reason}
use Rattle.plcs_store.specs.Act.{Act, done}
use Rattle.plcs_store.specs.CellAt.{kept_at, located, newest, value_at, variable_at}
use Rattle.plcs_store.specs.Configuration.{PlainConfiguration, frame_place, top_place}
use Rattle.plcs_store.specs.ExpressionValue.{argument_values, expression_value, expression_values, name_of_reference, reference_location, subscript_value}
use Rattle.plcs_store.specs.InputItem.{next_item}
use Rattle.plcs_store.specs.Limit.{most_frames, most_output}
use Rattle.plcs_store.specs.LoopOfSlot.{newest_loop}
use Rattle.plcs_store.specs.NewFrame.{new_frame, other_variables, parameter_variables}
use Rattle.plcs_store.specs.Operator.{fixed_value, on_bit, on_number}
use Rattle.plcs_store.specs.Outcome.{Outcome, faults, if_there, then_gives}
use Rattle.plcs_store.specs.OutputItem.{output_with}
use Rattle.plcs_store.specs.Spot.{Callee, Spot, spot_at}

-- ---- acts

-- what one step of a run gives: its act, with the place where the run goes on
abbrev pub Going : Type 0
Going = Act × PlainPlace

-- what one step of a run gives whose act goes on at this place
abbrev pub going_on : PlainPlace → Outcome Act → Outcome Going
going_on next outcome = then_gives outcome (λ act. Outcome.gives (act, next))

-- what a step does that stores a value: as the cell at a location keeps it, by one act
abbrev pub storing : {A : Type 0} → List Frame → Location → Value → (Value → A) → Outcome A
storing frames location value make = then_gives (kept_at frames location value) (λ kept. Outcome.gives (make kept))

-- a variable is set: the subscript is evaluated, then the expression, and at last the subscript is tested
abbrev pub assignment_act : List Frame → PlainVarRef → PlainExpr → Outcome Act
assignment_act frames target expression =
    then_gives (subscript_value frames target) (λ subscript.
    then_gives (expression_value frames expression) (λ value.
    then_gives (located frames (name_of_reference target) subscript) (λ location.
    storing frames location value (Act.store location))))

-- one step of a run tests a condition, and goes on by its value
abbrev pub test_going : List Frame → PlainExpr → (inside other : PlainPlace) → Outcome Going
test_going frames condition inside other =
    then_gives (expression_value frames condition) (on_bit (λ b. Outcome.gives (Act.pass, if b then inside else other)))

-- ---- loops

-- whether a step finds a loop over, where the variable of that has this value
abbrev pub is_over : (limit step value : ℤ) → Bool
is_over limit step value = if int_le (pos 0) step then int_lt limit value else int_lt value limit

-- one step of a run enters a For, or leaves it at once, where its variable has the first value; it is told where both
-- go on
abbrev pub entry_going : {A : Type 0} → List Frame → KeptLoop → Location → (first : ℤ) → (inside after : A)
    → Outcome (Act × A)
entry_going frames kept location first inside after =
    storing frames location (Value.Fixed first) (λ value.
    if is_over kept.limit kept.step first then (Act.store location value, after)
    else (Act.enter location value kept, inside))

-- a For whose three expressions are evaluated, one after the other
abbrev pub begin_going : List Frame → (slot : ℕ) → (name : List ℕ) → (first limit step : PlainExpr)
    → (inside after : PlainPlace) → Outcome Going
begin_going frames slot name first limit step inside after =
    then_gives (expression_value frames first) (on_number (λ a.
    then_gives (expression_value frames limit) (on_number (λ b.
    then_gives (expression_value frames step) (on_number (λ s.
    then_gives (located frames name None) (λ location.
    entry_going frames record { slot = record { 0 = slot }; limit = b; step = s } location a inside after)))))))

-- what one step of a run gives in which the variable of a loop of this number becomes this: the loop goes on, or is
-- left; it is told where both go on
abbrev pub loop_going : {A : Type 0} → List Frame → (number : ℕ) → KeptLoop → Location → (value : ℤ)
    → (inside after : A) → Outcome (Act × A)
loop_going frames number kept location z inside after =
    storing frames location (Value.Fixed z) (λ value.
    if is_over kept.limit kept.step z then (Act.finish location value number, after)
    else (Act.store location value, inside))

-- in one step of a run a For takes its next iteration: its kept step is added to its variable
abbrev pub iteration_going : List Frame → (slot : ℕ) → (name : List ℕ) → (inside after : PlainPlace) → Outcome Going
iteration_going frames slot name inside after =
    then_gives (if_there (newest_loop slot frames)) (λ found.
    then_gives (located frames name None) (λ location.
    then_gives (value_at frames location) (on_number (λ z.
    then_gives (fixed_value (z +ℤ found.1.step)) (on_number (λ sum.
    loop_going frames found.0 found.1 location sum inside after))))))

-- ---- input and output

-- what one step of a run gets as an item of the input, or the reason for which it stops where there is none
abbrev pub item_outcome : Result (Value × ℕ) ItemFault → Outcome (Value × ℕ)
item_outcome (Ok found) = Outcome.gives found
item_outcome (Err ItemFault.Wanted) = Outcome.stops Reason.InputWanted
item_outcome (Err ItemFault.Conversion) = faults FaultKind.Conversion

-- a step's act by which an item of the input is read into the cell at a location
abbrev pub item_act : List Frame → (rest : List ℕ) → Location → Outcome Act
item_act frames rest location =
    then_gives (if_there (variable_at frames location.frame location.name)) (λ variable.
    then_gives (item_outcome (next_item variable.ty rest)) (λ found.
    storing frames location found.0 (λ value. Act.read location value found.1)))

-- one step's act by which an item of the input is read into a variable, whose subscript is tested first
abbrev pub read_act : List Frame → (rest : List ℕ) → PlainVarRef → Outcome Act
read_act frames rest target = then_gives (reference_location frames target) (item_act frames rest)

-- one step's act by which the output becomes this, if it isn't too long
abbrev pub output_act : (output : List ℕ) → Outcome Act
output_act output =
    if nat_le (length output) most_output then Outcome.gives (Act.write output) else faults FaultKind.OutputLimit

-- one step's act by which values are written
abbrev pub write_act : List Frame → (output : List ℕ) → (skip : Bool) → PlainExprs → Outcome Act
write_act frames output skip expressions =
    then_gives (expression_values frames expressions) (λ values. output_act (output_with skip output values))

-- ---- calls

-- the frame that one step of a run makes where it calls a procedure
abbrev pub called_frame : List Frame → Callee → List Argument → Option Frame
called_frame frames callee arguments =
    option_map
    (λ parameters. new_frame callee.slot callee.start (parameters ++ other_variables callee.parameters callee.items))
    (parameter_variables frames callee.items callee.parameters arguments)

-- what one step of a run gives that calls a procedure, unless too many frames stand
abbrev pub enter_going : List Frame → Callee → List Argument → Outcome Going
enter_going frames callee arguments =
    if nat_le most_frames (length frames) then faults FaultKind.CallDepth
    else then_gives (if_there (called_frame frames callee arguments))
    (λ frame. Outcome.gives (Act.call frame, callee.start))

-- a procedure is called, once its arguments are evaluated
abbrev pub call_going : List Frame → Callee → PlainExprs → Outcome Going
call_going frames callee arguments = then_gives (argument_values frames arguments) (enter_going frames callee)

-- for a step that leaves the newest frame: where the frame below it waits, if there is one
abbrev pub caller_place : List Frame → Option PlainPlace
caller_place frames = option_map frame_place (slice_get frames (newest frames - 1))

-- where a step that leaves a procedure goes on, by the spot at which the caller waits
abbrev pub waits_for : Spot → Option PlainPlace
waits_for (Spot.waits next) = Some next
waits_for (Spot.halts reason) = None
waits_for (Spot.assigns target expression next) = None
waits_for (Spot.tests condition inside other) = None
waits_for (Spot.begins slot name first limit step inside after) = None
waits_for (Spot.iterates slot name inside after) = None
waits_for (Spot.reads target next) = None
waits_for (Spot.writes skip expressions next) = None
waits_for (Spot.calls callee arguments) = None
waits_for Spot.leaves = None

-- ---- the step

-- the answer of a step: the next configuration, or why there is none, or that the run is over
pub data PlainStepAnswer : Type 0 where
  stepped : PlainConfiguration → PlainStepAnswer
  stopped : Reason → PlainStepAnswer
  ended : PlainStepAnswer

-- the answer of one step of a run from a configuration, where the step comes to this
abbrev pub step_answer : PlainConfiguration → Outcome Going → Option PlainStepAnswer
step_answer c (Outcome.gives going) = Some (PlainStepAnswer.stepped (done going.0 going.1 c))
step_answer c (Outcome.stops reason) = Some (PlainStepAnswer.stopped reason)
step_answer c Outcome.undefined = None

-- the answer of one step of a run that leaves the procedure of the newest frame: its caller goes on where it waits, and
-- without one the run is over
abbrev pub leave_answer : (spots : PlainPlace → Option Spot) → PlainConfiguration → Option PlainStepAnswer
leave_answer spots c =
    if nat_le (length c.frames) 1 then Some PlainStepAnswer.ended
    else option_map (λ next. PlainStepAnswer.stepped (done Act.leave next c))
    (option_and_then waits_for (option_and_then spots (caller_place c.frames)))

-- the answer of a step at a spot, where it is told what stands at each place
abbrev pub spot_answer : (spots : PlainPlace → Option Spot) → (input : List ℕ) → PlainConfiguration → Spot
    → Option PlainStepAnswer
spot_answer spots input c (Spot.halts reason) = Some (PlainStepAnswer.stopped reason)
spot_answer spots input c (Spot.assigns target expression next) =
    step_answer c (going_on next (assignment_act c.frames target expression))
spot_answer spots input c (Spot.tests condition inside other) =
    step_answer c (test_going c.frames condition inside other)
spot_answer spots input c (Spot.begins slot name first limit step inside after) =
    step_answer c (begin_going c.frames slot name first limit step inside after)
spot_answer spots input c (Spot.iterates slot name inside after) =
    step_answer c (iteration_going c.frames slot name inside after)
spot_answer spots input c (Spot.reads target next) =
    step_answer c (going_on next (read_act c.frames (drop c.taken input) target))
spot_answer spots input c (Spot.writes skip expressions next) =
    step_answer c (going_on next (write_act c.frames c.output skip expressions))
spot_answer spots input c (Spot.calls callee arguments) = step_answer c (call_going c.frames callee arguments)
spot_answer spots input c (Spot.waits next) = None
spot_answer spots input c Spot.leaves = leave_answer spots c

-- the answer of a step of a configuration, where it is told what stands at each place
abbrev pub step_by : (spots : PlainPlace → Option Spot) → (input : List ℕ) → PlainConfiguration → Option PlainStepAnswer
step_by spots input c = option_and_then (spot_answer spots input c) (option_and_then spots (top_place c.frames))

-- the answer of a step of a configuration in the program, with this input; there is one where it fits the program
abbrev pub Step : (program : Forest) → (input : List ℕ) → PlainConfiguration → Option PlainStepAnswer
Step program input c = step_by (spot_at program) input c
