use Rattle.std.proofs.Common.{refl, slice_set}
use Rattle.screen_window.proofs.ChangedLines.{changed_line}
use Rattle.screen_window.proofs.lines.set_cell.Goals as goal

pub returns : goal.returns
returns c =
    changed_line (λ line. line.items) c.args.lines.now.items c.args.row c.index_mut.result.now _
    (λ line. slice_set line c.args.col c.args.cell) c.requires.row c.index_mut.ensures.value refl
