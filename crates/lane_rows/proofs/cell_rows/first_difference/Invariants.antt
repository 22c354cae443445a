use Rattle.std.proofs.Common.{◌≡◌, ℕ, ◌-◌, ◌<◌, ◌≤◌, length, slice_index}
use Rattle.lane_rows.proofs.cell_rows.first_difference.Given as goal

-- the rows are equal before the place
abbrev pub invariant-loop-at : goal.invariant-loop-at
invariant-loop-at l = record {
  within : l.at ≤ length l.a;
  equal : (k : ℕ) → k < l.at → slice_index l.a k ≡ slice_index l.b k;
}

abbrev pub decreases-loop-at : goal.decreases-loop-at
decreases-loop-at l = length l.a - l.at
