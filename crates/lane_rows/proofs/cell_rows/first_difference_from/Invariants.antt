use Rattle.std.proofs.Common.{◌≡◌, ℕ, ◌<◌, slice_index}
use Rattle.lane_rows.proofs.cell_rows.first_difference_from.Given as goal

-- the rows are equal before the place
abbrev pub invariant-loop-i : goal.invariant-loop-i
invariant-loop-i l = (k : ℕ) → k < l.i → slice_index l.a k ≡ slice_index l.b k
