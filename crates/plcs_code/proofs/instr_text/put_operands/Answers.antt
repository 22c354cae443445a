use Rattle.std.proofs.Common.{ap, ◌∷◌, ◌∙◌}
use Rattle.plcs_grammar.specs.Token.{quoted}
use Rattle.plcs_base.specs.Put.{puts_next, puts_nothing}
use Rattle.plcs_base.specs.Putting.{puts_append, puts_same}
use Rattle.plcs_code.proofs.ShownInstrs.{shown_operands}
use Rattle.plcs_code.proofs.instr_text.put_operands.Goals as goal

pub returns-in-At : goal.returns-in-At
returns-in-At g c = shown_operands _ _ c.in-At.is (puts_append c.put_count.ensures c.put_count-in-At.ensures)

pub returns-in-PushBit : goal.returns-in-PushBit
returns-in-PushBit g c = shown_operands _ _ c.in-PushBit.is (puts_next c.put.ensures c.put_bit.ensures)

pub returns-in-PushText : goal.returns-in-PushText
returns-in-PushText g c =
    shown_operands _ _ c.in-PushText.is
    (puts_next c.put-in-PushText.ensures (puts_same (ap quoted (c.as_bytes.ensures.bytes ∙ c.deref.ensures)) c.put_quoted.ensures))

pub returns-in-Builtin : goal.returns-in-Builtin
returns-in-Builtin g c =
    shown_operands _ _ c.in-Builtin.is
    (puts_append (puts_same (ap (λ n. 32 ∷ n) c.name.ensures) c.put_operand-in-Builtin.ensures) c.put_count-in-Builtin.ensures)

pub returns-in-Dummy : goal.returns-in-Dummy
returns-in-Dummy g c = shown_operands _ _ c.in-Dummy.is puts_nothing

pub returns-in-Call : goal.returns-in-Call
returns-in-Call g c = shown_operands _ _ c.in-Call.is (puts_append c.put_name-in-Call.ensures c.put_count-in-Call.ensures)

pub returns-in-Param : goal.returns-in-Param
returns-in-Param g c = shown_operands _ _ c.in-Param.is (puts_append c.put_name-in-Param.ensures c.put_type.ensures)

pub returns-in-Cell : goal.returns-in-Cell
returns-in-Cell g c =
    shown_operands _ _ c.in-Cell.is (puts_append c.put_name-in-Cell.ensures (puts_append c.put_type-in-Cell.ensures c.put_count-in-Cell.ensures))

pub returns-in-Leave : goal.returns-in-Leave
returns-in-Leave g c = shown_operands _ _ c.in-Leave.is puts_nothing
