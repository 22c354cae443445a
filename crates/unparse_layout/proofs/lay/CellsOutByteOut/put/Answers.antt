use Rattle.std.specs.Prelude.{◌≡◌, refl, ℕ, ◌∷◌, [], take, length}
use Rattle.std.proofs.Common.{arith, ap, ◌∙◌}
use Rattle.arrayvec.specs.ArrayVec.{ArrayVec}
use Rattle.unparse_layout.specs.LaidLine.{screen_cell, longest_line}
use Rattle.unparse_layout.proofs.PutCells.{take_full}
use Rattle.unparse_layout.proofs.lay.CellsOutByteOut.put.Goals as goal

pub returns-in-Err : goal.returns-in-Err
returns-in-Err c =
    let same : c.try_push.new.self.items ≡ c.args.self.now.cells.items = ap (λ (v : ArrayVec ℕ). v.items) c.in-Err.ensures.err in
    let full : length c.args.self.now.cells.items ≡ longest_line = c.in-Err.ensures.full in
    record {
      put = record {
        cells = ap (take longest_line) same ∙ take_full longest_line c.args.self.now.cells.items (screen_cell c.args.self.now.negative c.args.byte ∷ []) (omega (arith, full));
      };
      image = refl;
      short = omega (arith, ap length same, full);
    }
