use Rattle.std.proofs.Common.{◌++◌, sym, ◌∙◌}
use Rattle.std.specs.Prelude.{option_map}
use Rattle.template_tree.specs.Programs.Part.{part_at}
use Rattle.plcs_code.specs.ExprCode.{part_instrs}
use Rattle.plcs_code.specs.Private.PlainHalt.{plain_halt}
use Rattle.plcs_code.proofs.LaidPieces.{laid_piece}
use Rattle.plcs_code.proofs.Laying.{lays_append}
use Rattle.plcs_code.proofs.lay_pieces.lay_enter.Goals as goal

pub returns-then-begin : goal.returns-then-begin
returns-then-begin g c =
    let label = c.args.node.now.label in
    laid_piece c.slot.result.0 label.slot 0 (option_map plain_halt c.args.stop)
    (part_instrs (part_at label.parts 1) ++ (part_instrs (part_at label.parts 2) ++ part_instrs (part_at label.parts 3)))
    c.slot.ensures (sym c.begin.ensures.goes_on ∙ c.if-begin.true) c.begin.ensures.laid
    (lays_append c.lay_part.ensures (lays_append c.lay_part-then-begin.ensures c.lay_part-then-begin-2.ensures))
