use Rattle.std.proofs.Common.{sym, ◌∙◌}
use Rattle.std.specs.Prelude.{option_map}
use Rattle.template_tree.specs.Programs.Part.{part_at}
use Rattle.plcs_code.specs.ExprCode.{part_instrs}
use Rattle.plcs_code.specs.Private.PlainHalt.{plain_halt}
use Rattle.plcs_code.proofs.LaidPieces.{laid_piece}
use Rattle.plcs_code.proofs.lay_pieces.lay_first.Goals as goal

pub returns-then-begin : goal.returns-then-begin
returns-then-begin g c =
    laid_piece c.slot.result.0 c.args.node.now.label.slot c.args.point (option_map plain_halt c.args.stop)
    (part_instrs (part_at c.args.node.now.label.parts 0)) c.slot.ensures
    (sym c.begin.ensures.goes_on ∙ c.if-begin.true) c.begin.ensures.laid c.lay_part.ensures
