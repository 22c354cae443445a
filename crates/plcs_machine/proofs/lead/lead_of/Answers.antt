-- The table tests whether a call has its arguments; what is called is found by the name alone. A loop is entered by
-- numbers that fit. All other arms are rows of the table.
use Rattle.std.proofs.Common.{rules, ◌≡◌, ◌∙◌, ℕ, ℤ, List, [], refl, sym, ap, subst}
use mir.Syntax.{w32}
use mir.Val.{SFits}
use Rattle.std.specs.Prelude.{true}
use Rattle.plcs_base.specs.declared.value.Value.{Value}
use Rattle.plcs_code.specs.declared.instr.Instr.{Instr}
use Rattle.plcs_code.specs.Gen.{PlainCode}
use Rattle.plcs_code.specs.PlainInstr.{plain_instr}
use Rattle.plcs_store.specs.declared.argument.Argument.{Argument}
use Rattle.plcs_store.specs.declared.frame.Frame.{Frame}
use Rattle.plcs_store.specs.Outcome.{Outcome}
use Rattle.plcs_machine.specs.Lead.{Lead, for_enter_lead, for_next_lead, lead, push_lead}
use Rattle.plcs_machine.specs.Private.InstructionLead.{jump_false_lead}
use Rattle.plcs_machine.specs.Private.PlainLed.{is_fine}
use Rattle.plcs_machine.proofs.UnwrittenLeads.{call_fine, call_named}
use Rattle.plcs_machine.proofs.WholeNumbers.{passed}
use Rattle.plcs_machine.proofs.lead.lead_of.Goals as goal

-- what is fine at an instruction is so at its row
row_fine : (code : PlainCode) (frames : List Frame) (next : ℕ) (values : List Value) (arguments : List Argument) (instr row : Instr) → instr ≡ row
    → is_fine (lead code frames [] [] next values arguments (plain_instr instr)) ≡ true
    → is_fine (lead code frames [] [] next values arguments (plain_instr row)) ≡ true
row_fine code frames next values arguments instr row is fine =
    subst (λ (one : Instr). is_fine (lead code frames [] [] next values arguments (plain_instr one)) ≡ true) is fine

-- what a row leads to, its instruction does
row_leads : (code : PlainCode) (frames : List Frame) (next : ℕ) (values : List Value) (arguments : List Argument) (instr row : Instr) → instr ≡ row
    → (led : Outcome Lead) → led ≡ lead code frames [] [] next values arguments (plain_instr row)
    → led ≡ lead code frames [] [] next values arguments (plain_instr instr)
row_leads code frames next values arguments instr row is led leads =
    leads ∙ ap (λ (one : Instr). lead code frames [] [] next values arguments (plain_instr one)) (sym is)

pub returns-in-At : goal.returns-in-At
returns-in-At g c =
    let code = g.C.CodeView.code c.args.code.now in
    let frames = c.args.frames.now in
    let operands = c.args.operands.now in
    row_leads code frames c.args.next operands.values operands.arguments c.args.instr.now _ c.in-At.is _ refl

pub returns-in-SuspendPlaceholder : goal.returns-in-SuspendPlaceholder
returns-in-SuspendPlaceholder g c =
    let code = g.C.CodeView.code c.args.code.now in
    let frames = c.args.frames.now in
    let operands = c.args.operands.now in
    row_leads code frames c.args.next operands.values operands.arguments c.args.instr.now _ c.in-SuspendPlaceholder.is _ refl

pub returns-in-SuspendMarked : goal.returns-in-SuspendMarked
returns-in-SuspendMarked g c =
    let code = g.C.CodeView.code c.args.code.now in
    let frames = c.args.frames.now in
    let operands = c.args.operands.now in
    row_leads code frames c.args.next operands.values operands.arguments c.args.instr.now _ c.in-SuspendMarked.is _ refl

pub push-requires : goal.push-requires
push-requires g c =
    let code = g.C.CodeView.code c.args.code.now in
    let frames = c.args.frames.now in
    let operands = c.args.operands.now in
    let number = c.in-PushNumber.number in
    let fits : SFits w32 number = search rules in
    record { fine = ap (λ (z : ℤ). is_fine (push_lead c.args.next operands.values operands.arguments (Value.Fixed z))) (passed number fits) ∙ row_fine code frames c.args.next operands.values operands.arguments c.args.instr.now _ c.in-PushNumber.is c.requires.fine }

pub returns-in-PushNumber : goal.returns-in-PushNumber
returns-in-PushNumber g c =
    let code = g.C.CodeView.code c.args.code.now in
    let frames = c.args.frames.now in
    let operands = c.args.operands.now in
    let number = c.in-PushNumber.number in
    let fits : SFits w32 number = search rules in
    row_leads code frames c.args.next operands.values operands.arguments c.args.instr.now _ c.in-PushNumber.is _ (c.push.ensures ∙ ap (λ (z : ℤ). push_lead c.args.next operands.values operands.arguments (Value.Fixed z)) (passed number fits))

pub push-requires-in-PushBit : goal.push-requires-in-PushBit
push-requires-in-PushBit g c =
    let code = g.C.CodeView.code c.args.code.now in
    let frames = c.args.frames.now in
    let operands = c.args.operands.now in
    record { fine = row_fine code frames c.args.next operands.values operands.arguments c.args.instr.now _ c.in-PushBit.is c.requires.fine }

pub returns-in-PushBit : goal.returns-in-PushBit
returns-in-PushBit g c =
    let code = g.C.CodeView.code c.args.code.now in
    let frames = c.args.frames.now in
    let operands = c.args.operands.now in
    row_leads code frames c.args.next operands.values operands.arguments c.args.instr.now _ c.in-PushBit.is _ c.push-in-PushBit.ensures

pub load-requires : goal.load-requires
load-requires g c =
    let code = g.C.CodeView.code c.args.code.now in
    let frames = c.args.frames.now in
    let operands = c.args.operands.now in
    record { fine = row_fine code frames c.args.next operands.values operands.arguments c.args.instr.now _ c.in-Load.is c.requires.fine }

pub returns-in-Load : goal.returns-in-Load
returns-in-Load g c =
    let code = g.C.CodeView.code c.args.code.now in
    let frames = c.args.frames.now in
    let operands = c.args.operands.now in
    row_leads code frames c.args.next operands.values operands.arguments c.args.instr.now _ c.in-Load.is _ c.load.ensures

pub load_at-requires : goal.load_at-requires
load_at-requires g c =
    let code = g.C.CodeView.code c.args.code.now in
    let frames = c.args.frames.now in
    let operands = c.args.operands.now in
    record { fine = row_fine code frames c.args.next operands.values operands.arguments c.args.instr.now _ c.in-LoadAt.is c.requires.fine }

pub returns-in-LoadAt : goal.returns-in-LoadAt
returns-in-LoadAt g c =
    let code = g.C.CodeView.code c.args.code.now in
    let frames = c.args.frames.now in
    let operands = c.args.operands.now in
    row_leads code frames c.args.next operands.values operands.arguments c.args.instr.now _ c.in-LoadAt.is _ c.load_at.ensures

pub store_newest-requires : goal.store_newest-requires
store_newest-requires g c =
    let code = g.C.CodeView.code c.args.code.now in
    let frames = c.args.frames.now in
    let operands = c.args.operands.now in
    record { fine = row_fine code frames c.args.next operands.values operands.arguments c.args.instr.now _ c.in-Store.is c.requires.fine }

pub returns-in-Store : goal.returns-in-Store
returns-in-Store g c =
    let code = g.C.CodeView.code c.args.code.now in
    let frames = c.args.frames.now in
    let operands = c.args.operands.now in
    row_leads code frames c.args.next operands.values operands.arguments c.args.instr.now _ c.in-Store.is _ c.store_newest.ensures

pub store_at-requires : goal.store_at-requires
store_at-requires g c =
    let code = g.C.CodeView.code c.args.code.now in
    let frames = c.args.frames.now in
    let operands = c.args.operands.now in
    record { fine = row_fine code frames c.args.next operands.values operands.arguments c.args.instr.now _ c.in-StoreAt.is c.requires.fine }

pub returns-in-StoreAt : goal.returns-in-StoreAt
returns-in-StoreAt g c =
    let code = g.C.CodeView.code c.args.code.now in
    let frames = c.args.frames.now in
    let operands = c.args.operands.now in
    row_leads code frames c.args.next operands.values operands.arguments c.args.instr.now _ c.in-StoreAt.is _ c.store_at.ensures

pub unary-requires : goal.unary-requires
unary-requires g c =
    let code = g.C.CodeView.code c.args.code.now in
    let frames = c.args.frames.now in
    let operands = c.args.operands.now in
    record { fine = row_fine code frames c.args.next operands.values operands.arguments c.args.instr.now _ c.in-Prefix.is c.requires.fine }

pub returns-in-Prefix : goal.returns-in-Prefix
returns-in-Prefix g c =
    let code = g.C.CodeView.code c.args.code.now in
    let frames = c.args.frames.now in
    let operands = c.args.operands.now in
    row_leads code frames c.args.next operands.values operands.arguments c.args.instr.now _ c.in-Prefix.is _ c.unary.ensures

pub binary-requires : goal.binary-requires
binary-requires g c =
    let code = g.C.CodeView.code c.args.code.now in
    let frames = c.args.frames.now in
    let operands = c.args.operands.now in
    record { fine = row_fine code frames c.args.next operands.values operands.arguments c.args.instr.now _ c.in-Infix.is c.requires.fine }

pub returns-in-Infix : goal.returns-in-Infix
returns-in-Infix g c =
    let code = g.C.CodeView.code c.args.code.now in
    let frames = c.args.frames.now in
    let operands = c.args.operands.now in
    row_leads code frames c.args.next operands.values operands.arguments c.args.instr.now _ c.in-Infix.is _ c.binary.ensures

pub call_builtin-requires : goal.call_builtin-requires
call_builtin-requires g c =
    let code = g.C.CodeView.code c.args.code.now in
    let frames = c.args.frames.now in
    let operands = c.args.operands.now in
    record { fine = row_fine code frames c.args.next operands.values operands.arguments c.args.instr.now _ c.in-Builtin.is c.requires.fine }

pub returns-in-Builtin : goal.returns-in-Builtin
returns-in-Builtin g c =
    let code = g.C.CodeView.code c.args.code.now in
    let frames = c.args.frames.now in
    let operands = c.args.operands.now in
    row_leads code frames c.args.next operands.values operands.arguments c.args.instr.now _ c.in-Builtin.is _ c.call_builtin.ensures

pub jump_false-requires : goal.jump_false-requires
jump_false-requires g c =
    let code = g.C.CodeView.code c.args.code.now in
    let frames = c.args.frames.now in
    let operands = c.args.operands.now in
    let d = c.in-JumpFalse.by in
    let fits : SFits w32 d = search rules in
    record { fine = ap (λ (e : ℤ). is_fine (jump_false_lead c.args.next operands.arguments e operands.values)) (passed d fits) ∙ row_fine code frames c.args.next operands.values operands.arguments c.args.instr.now _ c.in-JumpFalse.is c.requires.fine }

pub returns-in-JumpFalse : goal.returns-in-JumpFalse
returns-in-JumpFalse g c =
    let code = g.C.CodeView.code c.args.code.now in
    let frames = c.args.frames.now in
    let operands = c.args.operands.now in
    let d = c.in-JumpFalse.by in
    let fits : SFits w32 d = search rules in
    row_leads code frames c.args.next operands.values operands.arguments c.args.instr.now _ c.in-JumpFalse.is _ (c.jump_false.ensures ∙ ap (λ (e : ℤ). jump_false_lead c.args.next operands.arguments e operands.values) (passed d fits))

pub enter_loop-requires : goal.enter_loop-requires
enter_loop-requires g c =
    let code = g.C.CodeView.code c.args.code.now in
    let frames = c.args.frames.now in
    let operands = c.args.operands.now in
    let d = c.in-ForEnter.by in
    let fits : SFits w32 d = search rules in
    record { fine = ap (λ (e : ℤ). is_fine (for_enter_lead frames c.args.next c.in-ForEnter.slot.0 c.in-ForEnter.name e operands.values)) (passed d fits) ∙ row_fine code frames c.args.next operands.values operands.arguments c.args.instr.now _ c.in-ForEnter.is c.requires.fine }

pub returns-in-ForEnter : goal.returns-in-ForEnter
returns-in-ForEnter g c =
    let code = g.C.CodeView.code c.args.code.now in
    let frames = c.args.frames.now in
    let operands = c.args.operands.now in
    let d = c.in-ForEnter.by in
    let fits : SFits w32 d = search rules in
    row_leads code frames c.args.next operands.values operands.arguments c.args.instr.now _ c.in-ForEnter.is _ (c.enter_loop.ensures ∙ ap (λ (e : ℤ). for_enter_lead frames c.args.next c.in-ForEnter.slot.0 c.in-ForEnter.name e operands.values) (passed d fits))

pub next_iteration-requires : goal.next_iteration-requires
next_iteration-requires g c =
    let code = g.C.CodeView.code c.args.code.now in
    let frames = c.args.frames.now in
    let operands = c.args.operands.now in
    let d = c.in-ForNext.by in
    let fits : SFits w32 d = search rules in
    record { fine = ap (λ (e : ℤ). is_fine (for_next_lead frames c.args.next c.in-ForNext.slot.0 c.in-ForNext.name e)) (passed d fits) ∙ row_fine code frames c.args.next operands.values operands.arguments c.args.instr.now _ c.in-ForNext.is c.requires.fine }

pub returns-in-ForNext : goal.returns-in-ForNext
returns-in-ForNext g c =
    let code = g.C.CodeView.code c.args.code.now in
    let frames = c.args.frames.now in
    let operands = c.args.operands.now in
    let d = c.in-ForNext.by in
    let fits : SFits w32 d = search rules in
    row_leads code frames c.args.next operands.values operands.arguments c.args.instr.now _ c.in-ForNext.is _ (c.next_iteration.ensures operands.values operands.arguments ∙ ap (λ (e : ℤ). for_next_lead frames c.args.next c.in-ForNext.slot.0 c.in-ForNext.name e) (passed d fits))

pub refer-requires : goal.refer-requires
refer-requires g c =
    let code = g.C.CodeView.code c.args.code.now in
    let frames = c.args.frames.now in
    let operands = c.args.operands.now in
    record { fine = row_fine code frames c.args.next operands.values operands.arguments c.args.instr.now _ c.in-Ref.is c.requires.fine }

pub returns-in-Ref : goal.returns-in-Ref
returns-in-Ref g c =
    let code = g.C.CodeView.code c.args.code.now in
    let frames = c.args.frames.now in
    let operands = c.args.operands.now in
    row_leads code frames c.args.next operands.values operands.arguments c.args.instr.now _ c.in-Ref.is _ c.refer.ensures

pub refer_at-requires : goal.refer_at-requires
refer_at-requires g c =
    let code = g.C.CodeView.code c.args.code.now in
    let frames = c.args.frames.now in
    let operands = c.args.operands.now in
    record { fine = row_fine code frames c.args.next operands.values operands.arguments c.args.instr.now _ c.in-RefAt.is c.requires.fine }

pub returns-in-RefAt : goal.returns-in-RefAt
returns-in-RefAt g c =
    let code = g.C.CodeView.code c.args.code.now in
    let frames = c.args.frames.now in
    let operands = c.args.operands.now in
    row_leads code frames c.args.next operands.values operands.arguments c.args.instr.now _ c.in-RefAt.is _ c.refer_at.ensures

pub add_dummy-requires : goal.add_dummy-requires
add_dummy-requires g c =
    let code = g.C.CodeView.code c.args.code.now in
    let frames = c.args.frames.now in
    let operands = c.args.operands.now in
    record { fine = row_fine code frames c.args.next operands.values operands.arguments c.args.instr.now _ c.in-Dummy.is c.requires.fine }

pub returns-in-Dummy : goal.returns-in-Dummy
returns-in-Dummy g c =
    let code = g.C.CodeView.code c.args.code.now in
    let frames = c.args.frames.now in
    let operands = c.args.operands.now in
    row_leads code frames c.args.next operands.values operands.arguments c.args.instr.now _ c.in-Dummy.is _ c.add_dummy.ensures

pub call-requires : goal.call-requires
call-requires g c =
    let code = g.C.CodeView.code c.args.code.now in
    let frames = c.args.frames.now in
    let operands = c.args.operands.now in
    record { fine = call_fine code frames c.in-Call.name c.in-Call.count operands.arguments (row_fine code frames c.args.next operands.values operands.arguments c.args.instr.now _ c.in-Call.is c.requires.fine) }

pub returns-in-Call : goal.returns-in-Call
returns-in-Call g c =
    let code = g.C.CodeView.code c.args.code.now in
    let frames = c.args.frames.now in
    let operands = c.args.operands.now in
    row_leads code frames c.args.next operands.values operands.arguments c.args.instr.now _ c.in-Call.is _
    (c.call.ensures operands.values operands.arguments ∙ call_named code frames c.in-Call.name c.in-Call.count operands.arguments (row_fine code frames c.args.next operands.values operands.arguments c.args.instr.now _ c.in-Call.is c.requires.fine))

pub leave-requires : goal.leave-requires
leave-requires g c =
    let code = g.C.CodeView.code c.args.code.now in
    let frames = c.args.frames.now in
    let operands = c.args.operands.now in
    record { fine = row_fine code frames c.args.next operands.values operands.arguments c.args.instr.now _ c.in-Leave.is c.requires.fine }

pub returns-in-Leave : goal.returns-in-Leave
returns-in-Leave g c =
    let code = g.C.CodeView.code c.args.code.now in
    let frames = c.args.frames.now in
    let operands = c.args.operands.now in
    row_leads code frames c.args.next operands.values operands.arguments c.args.instr.now _ c.in-Leave.is _ (c.leave.ensures operands.values operands.arguments)
