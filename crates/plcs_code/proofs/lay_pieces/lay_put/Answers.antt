use Rattle.std.proofs.Common.{sym, ap, ◌∙◌}
use Rattle.std.specs.Prelude.{option_map}
use Rattle.template_tree.specs.Programs.Part.{part_at}
use Rattle.plcs_code.specs.ExprCode.{listed_exprs, listed_instrs}
use Rattle.plcs_code.specs.Private.PlainHalt.{plain_halt}
use Rattle.plcs_code.specs.Private.PutInstr.{put_instr}
use Rattle.plcs_code.proofs.LaidPieces.{laid_piece}
use Rattle.plcs_code.proofs.Laying.{lays_same}
use Rattle.plcs_code.proofs.lay_pieces.lay_put.Goals as goal

pub returns-then-begin : goal.returns-then-begin
returns-then-begin g c =
    let label = c.args.node.now.label in
    laid_piece c.slot.result.0 label.slot 0 (option_map plain_halt c.args.stop)
    (listed_instrs (put_instr c.args.skip) (listed_exprs (part_at label.parts 0)))
    c.slot.ensures (sym c.begin.ensures.goes_on ∙ c.if-begin.true) c.begin.ensures.laid
    (lays_same (ap (listed_instrs (put_instr c.args.skip)) c.listed_exprs.ensures) c.lay_listed.ensures)
