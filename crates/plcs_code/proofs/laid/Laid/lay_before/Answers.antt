use Rattle.std.proofs.Common.{List, ap, ◌∙◌}
use Rattle.plcs_code.specs.Pieces.{own_pieces}
use Rattle.plcs_code.specs.PlainInstr.{PlainInstr}
use Rattle.plcs_code.specs.Private.LaidCode.{PlainLaid, with_instrs}
use Rattle.plcs_code.proofs.Laying.{drafted}
use Rattle.plcs_code.proofs.laid.Laid.lay_before.Goals as goal

pub returns-in_default-clause-counts : goal.returns-in_default-clause-counts
returns-in_default-clause-counts g c = (drafted c.lay_before.ensures).counts

pub returns-clause-laid : goal.returns-clause-laid
returns-clause-laid g c =
    ap (λ (instrs : List PlainInstr). let laid : PlainLaid = record { instrs = instrs; spans = c.self.inside.spans.items } in laid)
    ((drafted c.lay_before.ensures).instrs c.in-Ok.ensures.whole)
    ∙ ap (λ (laid : PlainLaid). with_instrs (own_pieces (g.M.Marked.marks c.args.marks.now) c.args.items.now c.args.node.now.label).before laid)
    c.self.view_is

pub returns-clause-counts : goal.returns-clause-counts
returns-clause-counts g c = (drafted c.lay_before.ensures).counts

pub returns-clause-counted : goal.returns-clause-counted
returns-clause-counted g c = (drafted c.lay_before.ensures).counted c.in-Ok.ensures.whole
