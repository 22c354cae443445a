-- What each instruction does, where values are worked on: the table of instructions.
use Rattle.std.specs.Prelude.{ℕ, ◌+◌, ◌-◌, nat_le, nat_lt, ℤ, pos, negsuc, ◌+ℤ◌, Bool, true, false, if◌then◌else◌, List, [], ◌∷◌, ◌++◌, drop, length, reverse, slice_get, take, Option, Some, None, option_and_then}
use Rattle.std.specs.FinMap.{get}
use Rattle.std.specs.Option.{option_map_or}
use Rattle.plcs_base.specs.declared.value.Value.{Value}
use Rattle.plcs_grammar.specs.declared.builtin.Builtin.{Builtin}
use Rattle.plcs_code.specs.declared.heading_entry.HeadingEntry.{HeadingEntry}
use Rattle.plcs_code.specs.Gen.{PlainCode}
use Rattle.plcs_code.specs.PlainInstr.{PlainInstr, place_of}
use Rattle.plcs_store.specs.declared.argument.Argument.{Argument}
use Rattle.plcs_store.specs.declared.fault_kind.FaultKind.{FaultKind}
use Rattle.plcs_store.specs.declared.frame.Frame.{Frame}
use Rattle.plcs_store.specs.declared.kept_loop.KeptLoop.{KeptLoop}
use Rattle.plcs_store.specs.declared.reason.Reason.{Reason}
use Rattle.plcs_store.specs.Act.{Act}
use Rattle.plcs_store.specs.BuiltinValue.{builtin_value}
use Rattle.plcs_store.specs.CellAt.{newest, value_at}
use Rattle.plcs_store.specs.Limit.{most_frames, most_loops, most_operands}
use Rattle.plcs_store.specs.LoopOfSlot.{newest_loop}
use Rattle.plcs_store.specs.Operator.{fixed_value, infix_value, on_bit, on_number, prefix_value}
use Rattle.plcs_store.specs.Outcome.{Outcome, faults, if_there, then_gives}
use Rattle.plcs_store.specs.OutputItem.{output_with}
use Rattle.plcs_store.specs.Step.{caller_place, entry_going, item_act, loop_going, output_act, storing}
use Rattle.template_tree.specs.Positions.Place.{PlainPlace}
use Rattle.plcs_machine.specs.Reached.{reached}

-- what an instruction leads to, if it neither stops the step nor is undefined
pub data Lead : Type 0 where
  -- the instruction at this address comes next, with these operands, the newest first, and these arguments
  goes_on : (address : ℕ) → List Value → List Argument → Lead
  -- an act is done; from this address on only jumps come before the next place
  acts : Act → (address : ℕ) → Lead
  -- the procedure in this slot is called, which is entered at this address with these arguments
  enters : (slot address : ℕ) → List Argument → Lead
  -- the step ends at this place without an act
  arrives : PlainPlace → Lead
  -- the run is over
  ends : Lead

-- ---- addresses

-- the address of this number, to which an instruction of the table leads, if it isn't below 0
abbrev pub address_at : ℤ → Option ℕ
address_at (pos n) = Some n
address_at (negsuc n) = None

-- the address to which an instruction of the table leads that jumps, where the next address behind it is this: a jump's
-- number goes from there
abbrev pub jump_target : (next : ℕ) → ℤ → Option ℕ
jump_target next d = address_at (pos next +ℤ d)

-- where the instruction of the table leads that leaves a procedure: to the address in the code of this place, if it has
-- one
abbrev pub address_of : PlainCode → PlainPlace → Option ℕ
address_of code place = get code.addresses (place_of place)

-- what an instruction leads to that jumps, with these operands and arguments
abbrev pub jumped : (next : ℕ) → List Value → List Argument → ℤ → Outcome Lead
jumped next values arguments d =
    then_gives (if_there (jump_target next d)) (λ target. Outcome.gives (Lead.goes_on target values arguments))

-- what an instruction leads to that does an act: behind it the next instruction comes
abbrev pub then_acts : (next : ℕ) → Outcome Act → Outcome Lead
then_acts next outcome = then_gives outcome (λ act. Outcome.gives (Lead.acts act next))

-- an act with the address where the run goes on, if there is one
abbrev pub acting_at : (Act × Option ℕ) → Outcome Lead
acting_at going = then_gives (if_there going.1) (λ target. Outcome.gives (Lead.acts going.0 target))

-- ---- operands and arguments

-- what is made of the newest operand and the others
abbrev pub on_newest : {A : Type 0} → (Value → List Value → Outcome A) → List Value → Outcome A
on_newest make [] = Outcome.undefined
on_newest make (value ∷ values) = make value values

-- what is made of the newest operand, which is a whole number, and the others
abbrev pub on_newest_number : {A : Type 0} → (ℤ → List Value → Outcome A) → List Value → Outcome A
on_newest_number make values = on_newest (λ value rest. on_number (λ z. make z rest) value) values

-- what is made of so many newest operands, in the order in which they were pushed, and the others
abbrev pub on_some : {A : Type 0} → ℕ → (List Value → List Value → Outcome A) → List Value → Outcome A
on_some n make values =
    if nat_le n (length values) then make (reverse (take n values)) (drop n values) else Outcome.undefined

-- so many newest arguments, in the order in which they were added
abbrev pub newest_arguments : ℕ → List Argument → List Argument
newest_arguments n arguments = drop (length arguments - n) arguments

-- whether there is room for one more operand or argument
abbrev pub has_operand_room : List Value → List Argument → Bool
has_operand_room values arguments = nat_lt (length values + length arguments) most_operands

-- a value is pushed on the operands
abbrev pub push_lead : (next : ℕ) → List Value → List Argument → Value → Outcome Lead
push_lead next values arguments value =
    if has_operand_room values arguments then Outcome.gives (Lead.goes_on next (value ∷ values) arguments)
    else Outcome.undefined

-- an argument is added behind the others
abbrev pub add_lead : (next : ℕ) → List Value → List Argument → Argument → Outcome Lead
add_lead next values arguments argument =
    if has_operand_room values arguments
    then Outcome.gives (Lead.goes_on next values (arguments ++ (argument ∷ []))) else Outcome.undefined

-- ---- variables

-- the value of a variable is pushed
abbrev pub load_lead : List Frame → (next : ℕ) → List Argument → (name : List ℕ) → (subscript : Option ℤ) → List Value
    → Outcome Lead
load_lead frames next arguments name subscript values =
    then_gives (reached frames name subscript) (λ location.
    then_gives (value_at frames location) (push_lead next values arguments))

-- a value is stored into a variable
abbrev pub store_lead : List Frame → (next : ℕ) → (name : List ℕ) → (subscript : Option ℤ) → Value → Outcome Lead
store_lead frames next name subscript value =
    then_acts next
    (then_gives (reached frames name subscript) (λ location. storing frames location value (Act.store location)))

-- an item of the input is read into a variable
abbrev pub get_lead : List Frame → (rest : List ℕ) → (next : ℕ) → (name : List ℕ) → (subscript : Option ℤ)
    → Outcome Lead
get_lead frames rest next name subscript =
    then_acts next (then_gives (reached frames name subscript) (item_act frames rest))

-- a variable is added as an argument
abbrev pub reference_lead : List Frame → (next : ℕ) → List Argument → (name : List ℕ) → (subscript : Option ℤ)
    → List Value → Outcome Lead
reference_lead frames next arguments name subscript values =
    then_gives (reached frames name subscript)
    (λ location. add_lead next values arguments (Argument.Reference location))

-- ---- operators and output

-- what a built-in function makes of so many operands is pushed
abbrev pub builtin_lead : (next : ℕ) → List Argument → Builtin → ℕ → List Value → Outcome Lead
builtin_lead next arguments function n values =
    on_some n (λ given others. then_gives (builtin_value function given) (push_lead next others arguments)) values

-- so many operands are written, on a new line or not
abbrev pub put_lead : (next : ℕ) → (output : List ℕ) → (skip : Bool) → ℕ → List Value → Outcome Lead
put_lead next output skip n values =
    on_some n (λ given others. then_acts next (output_act (output_with skip output given))) values

-- ---- loops

-- whether an instruction may have the newest frame keep one more loop
abbrev pub has_loop_room : List Frame → Bool
has_loop_room frames =
    option_map_or (λ frame. nat_lt (length frame.loops) most_loops) (slice_get frames (newest frames)) false

-- the address of a loop's body, if there is room for one more loop
abbrev pub body_address : List Frame → (next : ℕ) → Option ℕ
body_address frames next = if has_loop_room frames then Some next else None

-- a For is entered, or is over at once
abbrev pub enter_lead : List Frame → (next : ℕ) → (name : List ℕ) → ℤ → KeptLoop → (first : ℤ) → Outcome Lead
enter_lead frames next name d kept first =
    then_gives (reached frames name None) (λ location.
    then_gives (entry_going frames kept location first (body_address frames next) (jump_target next d)) acting_at)

-- a For is entered by its three operands, of which the step is the newest
abbrev pub for_enter_lead : List Frame → (next : ℕ) → (slot : ℕ) → (name : List ℕ) → ℤ → List Value → Outcome Lead
for_enter_lead frames next slot name d values =
    on_newest_number (λ step others.
    on_newest_number (λ limit more.
    on_newest_number (λ first rest.
    enter_lead frames next name d record
    { slot = record { 0 = slot }; limit = limit; step = step } first) more) others) values

-- a For takes its next iteration: the step that is kept for its slot is added to its variable
abbrev pub for_next_lead : List Frame → (next : ℕ) → (slot : ℕ) → (name : List ℕ) → ℤ → Outcome Lead
for_next_lead frames next slot name d =
    then_gives (if_there (newest_loop slot frames)) (λ found.
    then_gives (reached frames name None) (λ location.
    then_gives (value_at frames location) (on_number (λ z.
    then_gives (fixed_value (z +ℤ found.1.step)) (on_number (λ sum.
    then_gives (loop_going frames found.0 found.1 location sum (jump_target next d) (Some next)) acting_at))))))

-- ---- calls

-- the procedure of an effective heading is called, unless too many frames stand
abbrev pub enters_lead : List Frame → List Argument → HeadingEntry → Outcome Lead
enters_lead frames arguments entry =
    if nat_le most_frames (length frames) then faults FaultKind.CallDepth
    else Outcome.gives (Lead.enters entry.slot.0 entry.address arguments)

-- the procedure of the name is called, with so many newest arguments, if there are as many; the others are left
abbrev pub call_lead : PlainCode → List Frame → (name : List ℕ) → ℕ → List Argument → Outcome Lead
call_lead code frames name n arguments =
    if nat_le n (length arguments)
    then then_gives (if_there (get code.headings name)) (enters_lead frames (newest_arguments n arguments))
    else Outcome.undefined

-- the newest frame is left, and the run goes on where its caller waits; in main it is over
abbrev pub leave_lead : PlainCode → List Frame → Outcome Lead
leave_lead code frames =
    if nat_le (length frames) 1 then Outcome.gives Lead.ends
    else then_gives (if_there (option_and_then (address_of code) (caller_place frames))) (λ target.
    Outcome.gives (Lead.acts Act.leave target))

-- ---- the table

-- the table of instructions: what the one before the next address leads to in these frames, where this is left of the
-- input and this was written, with these operands, the newest first, and these arguments, in the order in which they
-- were added
abbrev pub lead : PlainCode → List Frame → (rest output : List ℕ) → (next : ℕ) → List Value → List Argument
    → PlainInstr → Outcome Lead
lead code frames rest output next values arguments (PlainInstr.place place) = Outcome.gives (Lead.arrives place)
lead code frames rest output next values arguments PlainInstr.suspend_placeholder = Outcome.stops Reason.Placeholder
lead code frames rest output next values arguments PlainInstr.suspend_marked = Outcome.stops Reason.Marked
lead code frames rest output next values arguments (PlainInstr.push_number z) =
    push_lead next values arguments (Value.Fixed z)
lead code frames rest output next values arguments (PlainInstr.push_bit b) =
    push_lead next values arguments (Value.Bit b)
lead code frames rest output next values arguments (PlainInstr.push_text x) =
    push_lead next values arguments (Value.Text x)
lead code frames rest output next values arguments (PlainInstr.load name) =
    load_lead frames next arguments name None values
lead code frames rest output next values arguments (PlainInstr.load_at name) =
    on_newest_number (λ z others. load_lead frames next arguments name (Some z) others) values
lead code frames rest output next values arguments (PlainInstr.store name) =
    on_newest (λ value others. store_lead frames next name None value) values
lead code frames rest output next values arguments (PlainInstr.store_at name) =
    on_newest (λ value others. on_newest_number (λ z more. store_lead frames next name (Some z) value) others) values
lead code frames rest output next values arguments (PlainInstr.unary op) =
    on_newest (λ a others. then_gives (prefix_value op a) (push_lead next others arguments)) values
lead code frames rest output next values arguments (PlainInstr.binary op) =
    on_newest
    (λ b others. on_newest (λ a more. then_gives (infix_value op a b) (push_lead next more arguments)) others)
    values
lead code frames rest output next values arguments (PlainInstr.builtin function n) =
    builtin_lead next arguments function n values
lead code frames rest output next values arguments (PlainInstr.jump d) = jumped next values arguments d
lead code frames rest output next values arguments (PlainInstr.jump_false d) =
    on_newest (λ value others. on_bit (λ b.
    if b then Outcome.gives (Lead.goes_on next others arguments) else jumped next others arguments d) value) values
lead code frames rest output next values arguments (PlainInstr.for_enter slot name d) =
    for_enter_lead frames next slot name d values
lead code frames rest output next values arguments (PlainInstr.for_next slot name d) =
    for_next_lead frames next slot name d
lead code frames rest output next values arguments (PlainInstr.get name) = get_lead frames rest next name None
lead code frames rest output next values arguments (PlainInstr.get_at name) =
    on_newest_number (λ z others. get_lead frames rest next name (Some z)) values
lead code frames rest output next values arguments (PlainInstr.put n) = put_lead next output false n values
lead code frames rest output next values arguments (PlainInstr.put_skip n) = put_lead next output true n values
lead code frames rest output next values arguments (PlainInstr.reference name) =
    reference_lead frames next arguments name None values
lead code frames rest output next values arguments (PlainInstr.reference_at name) =
    on_newest_number (λ z others. reference_lead frames next arguments name (Some z) others) values
lead code frames rest output next values arguments PlainInstr.dummy =
    on_newest (λ value others. add_lead next others arguments (Argument.Dummy value)) values
lead code frames rest output next values arguments (PlainInstr.call name n) = call_lead code frames name n arguments
lead code frames rest output next values arguments (PlainInstr.parameter name ty) = Outcome.undefined
lead code frames rest output next values arguments (PlainInstr.cell name ty n) = Outcome.undefined
lead code frames rest output next values arguments PlainInstr.leave = leave_lead code frames
