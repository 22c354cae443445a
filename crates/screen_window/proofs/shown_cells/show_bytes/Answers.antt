use Rattle.std.proofs.Common.{◌+◌, ap, ◌∙◌, arith}
use Rattle.std.proofs.lemmas.List.{length-set}
use Rattle.screen_window.specs.ShownRow.{shown_cell}
use Rattle.screen_window.proofs.ShownCells.{one_more}
use Rattle.screen_window.proofs.shown_cells.show_bytes.Goals as goal

-- one more is shown
pub loop-k-preserved : goal.loop-k-preserved
loop-k-preserved c = record {
  shown =
      one_more c.loop-k.line c.args.line.now c.args.bytes.now c.args.from c.loop-k.k _ (c.shown_cell.ensures ∙ ap shown_cell c.from.ensures)
      c.loop-k.invariant.shown (omega arith) (omega arith);
  width = length-set c.loop-k.line (c.args.from + c.loop-k.k) c.shown_cell.result ∙ c.loop-k.invariant.width;
}
