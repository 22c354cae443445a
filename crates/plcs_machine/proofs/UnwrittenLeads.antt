-- What an instruction leads to that neither writes nor reads: neither the input nor the output plays a part in it.
-- Where one is defined, it is so whatever was written before.
use Rattle.std.specs.Prelude.{◌≡◌, refl, ℕ, nat_le, Bool, true, false, if◌then◌else◌, List, [], length, take, reverse, Option, Some, None}
use Rattle.std.specs.FinMap.{get}
use Rattle.std.proofs.Math.Bool.{false≢true}
use Rattle.plcs_base.specs.declared.value.Value.{Value}
use Rattle.plcs_code.specs.Gen.{PlainCode}
use Rattle.plcs_code.specs.declared.heading_entry.HeadingEntry.{HeadingEntry}
use Rattle.plcs_code.specs.declared.instr.Instr.{Instr}
use Rattle.plcs_code.specs.PlainInstr.{PlainInstr, plain_instr}
use Rattle.plcs_store.specs.declared.argument.Argument.{Argument}
use Rattle.plcs_store.specs.declared.fault_kind.FaultKind.{FaultKind}
use Rattle.plcs_store.specs.declared.frame.Frame.{Frame}
use Rattle.plcs_store.specs.Act.{Act}
use Rattle.plcs_store.specs.Limit.{most_frames, most_output}
use Rattle.plcs_store.specs.Outcome.{Outcome, faults, if_there, then_gives}
use Rattle.plcs_store.specs.OutputItem.{output_with}
use Rattle.plcs_store.specs.Step.{output_act}
use Rattle.plcs_machine.specs.Lead.{Lead, call_lead, enters_lead, lead, newest_arguments, put_lead, then_acts}
use Rattle.plcs_machine.specs.Private.InstructionLead.{named_call_lead}
use Rattle.plcs_machine.specs.Private.PlainLed.{IsNeither, is_address, is_fine}

-- neither the input nor the output plays a part
pub plays_no_part : (code : PlainCode) (frames : List Frame) (rest output : List ℕ) (next : ℕ) (values : List Value) (arguments : List Argument)
    (instr : PlainInstr) → IsNeither instr
    → lead code frames rest output next values arguments instr ≡ lead code frames [] [] next values arguments instr
plays_no_part code frames rest output next values arguments (PlainInstr.place place) neither = refl
plays_no_part code frames rest output next values arguments PlainInstr.suspend_placeholder neither = refl
plays_no_part code frames rest output next values arguments PlainInstr.suspend_marked neither = refl
plays_no_part code frames rest output next values arguments (PlainInstr.push_number z) neither = refl
plays_no_part code frames rest output next values arguments (PlainInstr.push_bit b) neither = refl
plays_no_part code frames rest output next values arguments (PlainInstr.push_text x) neither = refl
plays_no_part code frames rest output next values arguments (PlainInstr.load name) neither = refl
plays_no_part code frames rest output next values arguments (PlainInstr.load_at name) neither = refl
plays_no_part code frames rest output next values arguments (PlainInstr.store name) neither = refl
plays_no_part code frames rest output next values arguments (PlainInstr.store_at name) neither = refl
plays_no_part code frames rest output next values arguments (PlainInstr.unary op) neither = refl
plays_no_part code frames rest output next values arguments (PlainInstr.binary op) neither = refl
plays_no_part code frames rest output next values arguments (PlainInstr.builtin function n) neither = refl
plays_no_part code frames rest output next values arguments (PlainInstr.jump d) neither = refl
plays_no_part code frames rest output next values arguments (PlainInstr.jump_false d) neither = refl
plays_no_part code frames rest output next values arguments (PlainInstr.for_enter slot name d) neither = refl
plays_no_part code frames rest output next values arguments (PlainInstr.for_next slot name d) neither = refl
plays_no_part code frames rest output next values arguments (PlainInstr.get name) neither = absurd neither
plays_no_part code frames rest output next values arguments (PlainInstr.get_at name) neither = absurd neither
plays_no_part code frames rest output next values arguments (PlainInstr.put n) neither = absurd neither
plays_no_part code frames rest output next values arguments (PlainInstr.put_skip n) neither = absurd neither
plays_no_part code frames rest output next values arguments (PlainInstr.reference name) neither = refl
plays_no_part code frames rest output next values arguments (PlainInstr.reference_at name) neither = refl
plays_no_part code frames rest output next values arguments PlainInstr.dummy neither = refl
plays_no_part code frames rest output next values arguments (PlainInstr.call name n) neither = refl
plays_no_part code frames rest output next values arguments (PlainInstr.parameter name ty) neither = refl
plays_no_part code frames rest output next values arguments (PlainInstr.cell name ty n) neither = refl
plays_no_part code frames rest output next values arguments PlainInstr.leave neither = refl

-- ---- what is fine

-- writing is fine where it is so behind other output
put_fine : (next : ℕ) (output : List ℕ) (skip : Bool) (n : ℕ) (values : List Value) → is_address next ≡ true
    → is_fine (put_lead next output skip n values) ≡ true → is_fine (put_lead next [] skip n values) ≡ true
put_fine next output skip n values address fine = enough (nat_le n (length values)) fine
  where
    given : List Value
    given = reverse (take n values)

    fits : (few : Bool) → is_fine (then_acts next (if few then Outcome.gives (Act.write (output_with skip [] given)) else faults FaultKind.OutputLimit)) ≡ true
    fits true = address
    fits false = refl

    enough : (there : Bool) → is_fine (if there then then_acts next (output_act (output_with skip output given)) else Outcome.undefined) ≡ true
        → is_fine (if there then then_acts next (output_act (output_with skip [] given)) else Outcome.undefined) ≡ true
    enough true fine = fits (nat_le (length (output_with skip [] given)) most_output)
    enough false fine = fine

-- what is fine is so whatever was written before
pub fine_unwritten : (code : PlainCode) (frames : List Frame) (rest output : List ℕ) (next : ℕ) (values : List Value) (arguments : List Argument)
    (instr : PlainInstr) → is_address next ≡ true → is_fine (lead code frames rest output next values arguments instr) ≡ true
    → is_fine (lead code frames rest [] next values arguments instr) ≡ true
fine_unwritten code frames rest output next values arguments (PlainInstr.place place) address fine = fine
fine_unwritten code frames rest output next values arguments PlainInstr.suspend_placeholder address fine = fine
fine_unwritten code frames rest output next values arguments PlainInstr.suspend_marked address fine = fine
fine_unwritten code frames rest output next values arguments (PlainInstr.push_number z) address fine = fine
fine_unwritten code frames rest output next values arguments (PlainInstr.push_bit b) address fine = fine
fine_unwritten code frames rest output next values arguments (PlainInstr.push_text x) address fine = fine
fine_unwritten code frames rest output next values arguments (PlainInstr.load name) address fine = fine
fine_unwritten code frames rest output next values arguments (PlainInstr.load_at name) address fine = fine
fine_unwritten code frames rest output next values arguments (PlainInstr.store name) address fine = fine
fine_unwritten code frames rest output next values arguments (PlainInstr.store_at name) address fine = fine
fine_unwritten code frames rest output next values arguments (PlainInstr.unary op) address fine = fine
fine_unwritten code frames rest output next values arguments (PlainInstr.binary op) address fine = fine
fine_unwritten code frames rest output next values arguments (PlainInstr.builtin function n) address fine = fine
fine_unwritten code frames rest output next values arguments (PlainInstr.jump d) address fine = fine
fine_unwritten code frames rest output next values arguments (PlainInstr.jump_false d) address fine = fine
fine_unwritten code frames rest output next values arguments (PlainInstr.for_enter slot name d) address fine = fine
fine_unwritten code frames rest output next values arguments (PlainInstr.for_next slot name d) address fine = fine
fine_unwritten code frames rest output next values arguments (PlainInstr.get name) address fine = fine
fine_unwritten code frames rest output next values arguments (PlainInstr.get_at name) address fine = fine
fine_unwritten code frames rest output next values arguments (PlainInstr.put n) address fine = put_fine next output false n values address fine
fine_unwritten code frames rest output next values arguments (PlainInstr.put_skip n) address fine = put_fine next output true n values address fine
fine_unwritten code frames rest output next values arguments (PlainInstr.reference name) address fine = fine
fine_unwritten code frames rest output next values arguments (PlainInstr.reference_at name) address fine = fine
fine_unwritten code frames rest output next values arguments PlainInstr.dummy address fine = fine
fine_unwritten code frames rest output next values arguments (PlainInstr.call name n) address fine = fine
fine_unwritten code frames rest output next values arguments (PlainInstr.parameter name ty) address fine = fine
fine_unwritten code frames rest output next values arguments (PlainInstr.cell name ty n) address fine = fine
fine_unwritten code frames rest output next values arguments PlainInstr.leave address fine = fine

-- an instruction that neither writes nor reads is any other
pub is_neither : (instr : Instr) → ((count : ℕ) → instr ≡ Instr.Put count → ⊥) → ((count : ℕ) → instr ≡ Instr.PutSkip count → ⊥)
    → ((name : List ℕ) → instr ≡ Instr.Get name → ⊥) → ((name : List ℕ) → instr ≡ Instr.GetAt name → ⊥) → IsNeither (plain_instr instr)
is_neither (Instr.At at) no_put no_skip no_get no_get_at = tt
is_neither Instr.SuspendPlaceholder no_put no_skip no_get no_get_at = tt
is_neither Instr.SuspendMarked no_put no_skip no_get no_get_at = tt
is_neither (Instr.PushNumber z) no_put no_skip no_get no_get_at = tt
is_neither (Instr.PushBit b) no_put no_skip no_get no_get_at = tt
is_neither (Instr.PushText text) no_put no_skip no_get no_get_at = tt
is_neither (Instr.Load name) no_put no_skip no_get no_get_at = tt
is_neither (Instr.LoadAt name) no_put no_skip no_get no_get_at = tt
is_neither (Instr.Store name) no_put no_skip no_get no_get_at = tt
is_neither (Instr.StoreAt name) no_put no_skip no_get no_get_at = tt
is_neither (Instr.Prefix op) no_put no_skip no_get no_get_at = tt
is_neither (Instr.Infix op) no_put no_skip no_get no_get_at = tt
is_neither (Instr.Builtin function n) no_put no_skip no_get no_get_at = tt
is_neither (Instr.Jump d) no_put no_skip no_get no_get_at = tt
is_neither (Instr.JumpFalse d) no_put no_skip no_get no_get_at = tt
is_neither (Instr.ForEnter slot name d) no_put no_skip no_get no_get_at = tt
is_neither (Instr.ForNext slot name d) no_put no_skip no_get no_get_at = tt
is_neither (Instr.Get name) no_put no_skip no_get no_get_at = no_get name refl
is_neither (Instr.GetAt name) no_put no_skip no_get no_get_at = no_get_at name refl
is_neither (Instr.Put n) no_put no_skip no_get no_get_at = no_put n refl
is_neither (Instr.PutSkip n) no_put no_skip no_get no_get_at = no_skip n refl
is_neither (Instr.Ref name) no_put no_skip no_get no_get_at = tt
is_neither (Instr.RefAt name) no_put no_skip no_get no_get_at = tt
is_neither Instr.Dummy no_put no_skip no_get no_get_at = tt
is_neither (Instr.Call name n) no_put no_skip no_get no_get_at = tt
is_neither (Instr.Param name ty) no_put no_skip no_get no_get_at = tt
is_neither (Instr.Cell name ty n) no_put no_skip no_get no_get_at = tt
is_neither Instr.Leave no_put no_skip no_get no_get_at = tt

-- ---- calls

-- a call is what it is by its name and the arguments that it takes
pub call_named : (code : PlainCode) (frames : List Frame) (name : List ℕ) (n : ℕ) (arguments : List Argument)
    → is_fine (call_lead code frames name n arguments) ≡ true
    → named_call_lead code frames name (newest_arguments n arguments) ≡ call_lead code frames name n arguments
call_named code frames name n arguments fine = by (nat_le n (length arguments)) fine
  where
    given : List Argument
    given = newest_arguments n arguments

    by : (enough : Bool) → is_fine (if enough then named_call_lead code frames name given else Outcome.undefined) ≡ true
        → named_call_lead code frames name given ≡ (if enough then named_call_lead code frames name given else Outcome.undefined)
    by true fine = refl
    by false fine = absurd (false≢true fine)

-- and it is fine without arguments
pub call_fine : (code : PlainCode) (frames : List Frame) (name : List ℕ) (n : ℕ) (arguments : List Argument)
    → is_fine (call_lead code frames name n arguments) ≡ true → is_fine (named_call_lead code frames name []) ≡ true
call_fine code frames name n arguments fine = by (nat_le n (length arguments)) fine
  where
    given : List Argument
    given = newest_arguments n arguments

    entered : (many : Bool) (entry : HeadingEntry)
        → is_fine (if many then faults FaultKind.CallDepth else Outcome.gives (Lead.enters entry.slot.0 entry.address [])) ≡ true
    entered true entry = refl
    entered false entry = refl

    found : (entry : Option HeadingEntry) → is_fine (then_gives (if_there entry) (enters_lead frames given)) ≡ true
        → is_fine (then_gives (if_there entry) (enters_lead frames [])) ≡ true
    found None fine = fine
    found (Some entry) fine = entered (nat_le most_frames (length frames)) entry

    by : (enough : Bool) → is_fine (if enough then named_call_lead code frames name given else Outcome.undefined) ≡ true
        → is_fine (named_call_lead code frames name []) ≡ true
    by true fine = found (get code.headings name) fine
    by false fine = absurd (false≢true fine)
