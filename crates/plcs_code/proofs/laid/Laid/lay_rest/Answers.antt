use Rattle.std.proofs.Common.{List, [], ◌++◌, ap, ◌∙◌}
use Rattle.std.specs.Option.{option_to_list}
use Rattle.std.specs.Prelude.{option_map}
use Rattle.plcs_code.specs.Pieces.{own_pieces}
use Rattle.plcs_code.specs.PlainInstr.{PlainInstr, plain_instr}
use Rattle.plcs_code.specs.Private.LaidCode.{PlainLaid, with_instrs}
use Rattle.plcs_code.proofs.Laying.{drafted, lays_append}
use Rattle.plcs_code.proofs.laid.Laid.lay_rest.Goals as goal

pub returns-in_default-clause-counts : goal.returns-in_default-clause-counts
returns-in_default-clause-counts g c = (drafted (lays_append c.lay_behind.ensures c.lay_jump.ensures)).counts

pub returns-clause-laid : goal.returns-clause-laid
returns-clause-laid g c =
    let done = drafted (lays_append c.lay_behind.ensures c.lay_jump.ensures) in
    ap (λ (instrs : List PlainInstr). let laid : PlainLaid = record { instrs = instrs; spans = c.self.inside.spans.items } in laid)
    (done.instrs c.in-Ok.ensures.whole)
    ∙ ap (λ (laid : PlainLaid).
    with_instrs
    ((own_pieces (g.M.Marked.marks c.args.marks.now) [] c.args.node.now.label).behind ++ option_to_list (option_map plain_instr c.args.back)) laid)
    c.self.view_is

pub returns-clause-counts : goal.returns-clause-counts
returns-clause-counts g c = (drafted (lays_append c.lay_behind.ensures c.lay_jump.ensures)).counts

pub returns-clause-counted : goal.returns-clause-counted
returns-clause-counted g c =
    (drafted (lays_append c.lay_behind.ensures c.lay_jump.ensures)).counted c.in-Ok.ensures.whole
