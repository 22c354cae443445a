-- What writes or reads is told apart; in all else neither the input nor the output plays a part.
use Rattle.std.proofs.Common.{◌≡◌, ◌∙◌, [], sym, ap, subst}
use Rattle.std.specs.Prelude.{true}
use Rattle.plcs_code.specs.declared.instr.Instr.{Instr}
use Rattle.plcs_code.specs.PlainInstr.{plain_instr}
use Rattle.plcs_store.specs.Outcome.{Outcome}
use Rattle.plcs_machine.specs.Lead.{Lead, lead}
use Rattle.plcs_machine.specs.Private.PlainLed.{is_fine}
use Rattle.plcs_machine.proofs.UnwrittenLeads.{is_neither, plays_no_part}
use Rattle.plcs_machine.proofs.lead.lead.Goals as goal

pub lead_of-requires : goal.lead_of-requires
lead_of-requires g c =
    let instr = c.args.instr.now in
    let neither = is_neither instr c.in_default.not-Put c.in_default.not-PutSkip c.in_default.not-Get c.in_default.not-GetAt in
    record {
      other = neither;
      fine =
          subst (λ (o : Outcome Lead). is_fine o ≡ true)
          (plays_no_part (g.C.CodeView.code c.args.code.now) c.args.frames.now c.args.rest.now [] c.args.next c.args.operands.now.values
          c.args.operands.now.arguments (plain_instr instr) neither) c.requires.fine;
    }

pub returns-in_default-clause-leads : goal.returns-in_default-clause-leads
returns-in_default-clause-leads g c =
    let instr = c.args.instr.now in
    let neither = is_neither instr c.in_default.not-Put c.in_default.not-PutSkip c.in_default.not-Get c.in_default.not-GetAt in
    λ output.
    c.lead_of.ensures
    ∙ sym (plays_no_part (g.C.CodeView.code c.args.code.now) c.args.frames.now c.args.rest.now output c.args.next c.args.operands.now.values
    c.args.operands.now.arguments (plain_instr instr) neither)

pub returns-in-Put-clause-leads : goal.returns-in-Put-clause-leads
returns-in-Put-clause-leads g c =
    λ output.
    ap (λ (instr : Instr). lead (g.C.CodeView.code c.args.code.now) c.args.frames.now c.args.rest.now output c.args.next c.args.operands.now.values
    c.args.operands.now.arguments (plain_instr instr)) (sym c.in-Put.is)

pub returns-in-PutSkip-clause-leads : goal.returns-in-PutSkip-clause-leads
returns-in-PutSkip-clause-leads g c =
    λ output.
    ap (λ (instr : Instr). lead (g.C.CodeView.code c.args.code.now) c.args.frames.now c.args.rest.now output c.args.next c.args.operands.now.values
    c.args.operands.now.arguments (plain_instr instr)) (sym c.in-PutSkip.is)
