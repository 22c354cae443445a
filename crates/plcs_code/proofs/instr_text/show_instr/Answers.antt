use Rattle.std.proofs.Common.{ap, ◌++◌, drop, get_or, length, ◌∙◌, []}
use Rattle.plcs_base.specs.Putting.{puts_append, puts_same}
use Rattle.plcs_code.specs.InstrText.{instr_text, instr_words}
use Rattle.plcs_code.specs.PlainInstr.{plain_instr}
use Rattle.plcs_code.proofs.ShownInstrs.{whole_text}
use Rattle.plcs_code.proofs.instr_text.show_instr.Goals as goal

pub returns : goal.returns
returns g c =
    let words = instr_words (plain_instr c.args.instr.now) in
    puts_same
    (ap (λ word. word ++ drop (length (get_or words 0 [])) (instr_text (plain_instr c.args.instr.now))) c.word.ensures ∙ whole_text words)
    (puts_append c.put_bytes.ensures c.put_operands.ensures)
