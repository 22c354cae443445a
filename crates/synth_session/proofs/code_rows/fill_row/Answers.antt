use Rattle.std.proofs.Common.{◌≡◌, ◌∷◌, ◌++◌, arith, ◌∙◌}
use Rattle.std.specs.Prelude.{decimal}
use Rattle.std.proofs.lemmas.Grind.{common_steps}
use Rattle.plcs_code.specs.InstrText.{instr_text}
use Rattle.plcs_code.specs.PlainInstr.{plain_instr}
use Rattle.synth_session.proofs.CodeRowTexts.{row_text}
use Rattle.synth_session.proofs.code_rows.fill_row.Goals as goal

pub returns-clause-text : goal.returns-clause-text
returns-clause-text c =
    let put : c.extend_from_slice.new.self.items ≡ c.as_slice.result.now = grind (arith, common_steps) in
    put
    ∙ c.as_slice.ensures.value
    ∙ row_text (decimal c.args.number ++ (32 ∷ instr_text (plain_instr c.args.instr.now))) c.new.ensures c.put_code_line.ensures
