-- What the code tells of an instruction, as plain data.
use Rattle.std.specs.Prelude.{ℕ, ◌^◌, ◌≤◌, nat_lt, ℤ, Bool, true, false, List, Option, Some, None}
use Rattle.std.specs.Option.{option_map_or}
use Rattle.plcs_base.specs.declared.value.Value.{Value}
use Rattle.plcs_code.specs.PlainInstr.{PlainInstr}
use Rattle.plcs_store.specs.declared.argument.Argument.{Argument}
use Rattle.plcs_store.specs.Act.{Act}
use Rattle.plcs_store.specs.Configuration.{plain_place}
use Rattle.plcs_store.specs.Outcome.{Outcome}
use Rattle.plcs_machine.specs.declared.led.Doing.{Doing}
use Rattle.plcs_machine.specs.declared.led.Led.{Led}
use Rattle.plcs_machine.specs.declared.step_act.StepAct.{StepAct}
use Rattle.plcs_machine.specs.Lead.{Lead, jump_target, newest_arguments, put_lead}

-- whether a number is small enough for an address, which the code tells of an instruction
abbrev pub is_address : ℕ → Bool
is_address n = nat_lt n (2 ^ 32)

-- whether the code can tell what an instruction leads to: it is where an address is
abbrev pub leads_to_address : Lead → Bool
leads_to_address (Lead.goes_on address values arguments) = is_address address
leads_to_address (Lead.acts act address) = is_address address
leads_to_address (Lead.enters slot address arguments) = true
leads_to_address (Lead.arrives place) = true
leads_to_address Lead.ends = true

-- whether the code can tell what an instruction comes to: it is defined, and leads to where an address is
abbrev pub is_fine : Outcome Lead → Bool
is_fine (Outcome.gives leads) = leads_to_address leads
is_fine (Outcome.stops reason) = true
is_fine Outcome.undefined = false

-- whether a jump leads to where an address is
abbrev pub has_target : (next : ℕ) → ℤ → Bool
has_target next d = option_map_or is_address (jump_target next d) false

-- whether the code can tell what a part of an instruction comes to: it is defined
abbrev pub is_defined : {A : Type 0} → Outcome A → Bool
is_defined (Outcome.gives a) = true
is_defined (Outcome.stops reason) = true
is_defined Outcome.undefined = false

-- as plain data, the act that the code tells of an instruction
abbrev pub plain_act : StepAct → Act
plain_act (StepAct.Store location value) = Act.store location value
plain_act (StepAct.Enter location value kept) = Act.enter location value kept
plain_act (StepAct.Finish location value number) = Act.finish location value number
plain_act StepAct.Leave = Act.leave

-- what an instruction led to, where these are the operands and the arguments then
abbrev pub plain_led : Led → List Value → List Argument → Outcome Lead
plain_led (Led.GoesOn address) values arguments = Outcome.gives (Lead.goes_on address values arguments)
plain_led (Led.Acts act address) values arguments = Outcome.gives (Lead.acts (plain_act act) address)
plain_led (Led.Enters entry count) values arguments =
    Outcome.gives (Lead.enters entry.slot.0 entry.address (newest_arguments count arguments))
plain_led (Led.Arrives place) values arguments = Outcome.gives (Lead.arrives (plain_place place))
plain_led Led.Ends values arguments = Outcome.gives Lead.ends
plain_led (Led.Stops reason) values arguments = Outcome.stops reason

-- what an instruction led to that may write or read, where this was written before, and this is the next address
abbrev pub plain_doing : (output : List ℕ) → (next : ℕ) → Doing → List Value → List Argument → Outcome Lead
plain_doing output next (Doing.Writes skip count) values arguments = put_lead next output skip count values
plain_doing output next (Doing.Reads location value count) values arguments =
    Outcome.gives (Lead.acts (Act.read location value count) next)
plain_doing output next (Doing.Leads led) values arguments = plain_led led values arguments

-- at which address an instruction comes next, if one does
abbrev pub going_to : Doing → Option ℕ
going_to (Doing.Writes skip count) = None
going_to (Doing.Reads location value count) = None
going_to (Doing.Leads (Led.GoesOn address)) = Some address
going_to (Doing.Leads (Led.Acts act address)) = None
going_to (Doing.Leads (Led.Enters entry count)) = None
going_to (Doing.Leads (Led.Arrives place)) = None
going_to (Doing.Leads Led.Ends) = None
going_to (Doing.Leads (Led.Stops reason)) = None

-- of an instruction as the code tells of it: where it reads, at most so many bytes of the input are taken
abbrev pub TakesAtMost : ℕ → Doing → Type 0
TakesAtMost n (Doing.Writes skip count) = Unit {0}
TakesAtMost n (Doing.Reads location value count) = count ≤ n
TakesAtMost n (Doing.Leads led) = Unit {0}

-- an instruction neither writes nor reads
abbrev pub IsNeither : PlainInstr → Type 0
IsNeither (PlainInstr.place place) = Unit {0}
IsNeither PlainInstr.suspend_placeholder = Unit {0}
IsNeither PlainInstr.suspend_marked = Unit {0}
IsNeither (PlainInstr.push_number z) = Unit {0}
IsNeither (PlainInstr.push_bit b) = Unit {0}
IsNeither (PlainInstr.push_text x) = Unit {0}
IsNeither (PlainInstr.load name) = Unit {0}
IsNeither (PlainInstr.load_at name) = Unit {0}
IsNeither (PlainInstr.store name) = Unit {0}
IsNeither (PlainInstr.store_at name) = Unit {0}
IsNeither (PlainInstr.unary op) = Unit {0}
IsNeither (PlainInstr.binary op) = Unit {0}
IsNeither (PlainInstr.builtin function n) = Unit {0}
IsNeither (PlainInstr.jump d) = Unit {0}
IsNeither (PlainInstr.jump_false d) = Unit {0}
IsNeither (PlainInstr.for_enter slot name d) = Unit {0}
IsNeither (PlainInstr.for_next slot name d) = Unit {0}
IsNeither (PlainInstr.get name) = ⊥
IsNeither (PlainInstr.get_at name) = ⊥
IsNeither (PlainInstr.put n) = ⊥
IsNeither (PlainInstr.put_skip n) = ⊥
IsNeither (PlainInstr.reference name) = Unit {0}
IsNeither (PlainInstr.reference_at name) = Unit {0}
IsNeither PlainInstr.dummy = Unit {0}
IsNeither (PlainInstr.call name n) = Unit {0}
IsNeither (PlainInstr.parameter name ty) = Unit {0}
IsNeither (PlainInstr.cell name ty n) = Unit {0}
IsNeither PlainInstr.leave = Unit {0}
