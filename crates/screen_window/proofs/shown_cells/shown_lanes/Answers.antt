use Rattle.std.proofs.Common.{ℕ, leb, cond, bit_and, bit_or}
use Rattle.std.proofs.lemmas.Simd.{zip2_of_maps, zip2_splat, zip2_splat_left}
use Rattle.screen_window.proofs.ShownCells.{lanes_shown}
use Rattle.screen_window.proofs.shown_cells.shown_lanes.Goals as goal

-- a comparison of lanes
abbrev no_more : ℕ → ℕ → ℕ
no_more a b = cond (leb a b) 65535 0

pub returns : goal.returns
returns c =
    let v = c.args.numbers in
    let long = c.requires in
    let in_default =
    zip2_of_maps bit_and _ _ v (zip2_splat_left {Y = ℕ} no_more 32 8 v long) (zip2_splat {Y = ℕ} no_more v 8 126 long) in
    let in_negative =
    zip2_of_maps bit_and _ _ v (zip2_splat_left {Y = ℕ} no_more 288 8 v long) (zip2_splat {Y = ℕ} no_more v 8 382 long) in
    lanes_shown v _ long (zip2_of_maps bit_or _ _ v in_default in_negative)
