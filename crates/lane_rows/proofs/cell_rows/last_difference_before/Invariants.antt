use Rattle.std.proofs.Common.{◌≡◌, ℕ, ◌<◌, ◌≤◌, length, slice_index}
use Rattle.lane_rows.proofs.cell_rows.last_difference_before.Given as goal

-- the rows are equal from the place on
abbrev pub invariant-loop-left : goal.invariant-loop-left
invariant-loop-left l = record {
  within : l.left ≤ length l.a;
  equal : (k : ℕ) → l.left ≤ k → k < length l.a → slice_index l.a k ≡ slice_index l.b k;
}

abbrev pub decreases-loop-left : goal.decreases-loop-left
decreases-loop-left l = l.left
