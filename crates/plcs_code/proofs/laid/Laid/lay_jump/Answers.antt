use Rattle.std.proofs.Common.{List, ap, ◌∙◌}
use Rattle.std.specs.Option.{option_to_list}
use Rattle.std.specs.Prelude.{option_map}
use Rattle.plcs_code.specs.PlainInstr.{PlainInstr, plain_instr}
use Rattle.plcs_code.specs.Private.LaidCode.{PlainLaid, with_instrs}
use Rattle.plcs_code.proofs.Laying.{drafted}
use Rattle.plcs_code.proofs.laid.Laid.lay_jump.Goals as goal

pub returns-in_default-clause-counts : goal.returns-in_default-clause-counts
returns-in_default-clause-counts g c = (drafted c.lay_jump.ensures).counts

pub returns-clause-laid : goal.returns-clause-laid
returns-clause-laid g c =
    ap (λ (instrs : List PlainInstr). let laid : PlainLaid = record { instrs = instrs; spans = c.self.inside.spans.items } in laid)
    ((drafted c.lay_jump.ensures).instrs c.in-Ok.ensures.whole)
    ∙ ap (λ (laid : PlainLaid). with_instrs (option_to_list (option_map plain_instr c.args.jump)) laid) c.self.view_is

pub returns-clause-counts : goal.returns-clause-counts
returns-clause-counts g c = (drafted c.lay_jump.ensures).counts

pub returns-clause-counted : goal.returns-clause-counted
returns-clause-counted g c = (drafted c.lay_jump.ensures).counted c.in-Ok.ensures.whole
