use Rattle.std.proofs.Common.{◌≡◌, ℕ, ◌<◌, ◌≤◌, length, slice_index}
use Rattle.lane_rows.proofs.cell_rows.last_nonblank_before.Given as goal

-- the cells from the place on are blanks
abbrev pub invariant-loop-left : goal.invariant-loop-left
invariant-loop-left l = record {
  within : l.left ≤ length l.a;
  blank : (k : ℕ) → l.left ≤ k → k < length l.a → slice_index l.a k ≡ 32;
}

abbrev pub decreases-loop-left : goal.decreases-loop-left
decreases-loop-left l = l.left
