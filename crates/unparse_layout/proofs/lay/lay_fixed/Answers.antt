use Rattle.std.specs.Prelude.{refl, false, ◌*◌, ◌++◌, replicate, take}
use Rattle.std.proofs.Common.{◌∙◌}
use Rattle.unparse_layout.specs.LaidLine.{longest_line}
use Rattle.unparse_layout.proofs.PutCells.{plain_put, same_laid, whole_line}
use Rattle.unparse_layout.proofs.lay.lay_fixed.Goals as goal

pub returns : goal.returns
returns g c =
    c.laid.ensures
    ∙ same_laid c.args.slot.0 c.args.slot.0 c.args.kind c.put_bytes.new.out.cells.items
    (take longest_line (replicate (2 * c.args.level) 32 ++ c.args.bytes.now)) refl
    (whole_line record { cells = c.new.result; negative = false } c.put_blanks.new.out c.put_bytes.new.out (replicate (2 * c.args.level) 32)
    c.args.bytes.now c.new.ensures c.put_blanks.ensures
    (plain_put c.put_blanks.new.out c.put_bytes.new.out c.args.bytes.now c.put_blanks.ensures.plain c.put_blanks.ensures.short c.put_bytes.ensures))
