use Rattle.std.proofs.Common.{◌≡◌, ℕ, ◌<◌, ◌≤◌, length, slice_index}
use Rattle.lane_rows.proofs.cell_rows.last_nonblank.Given as goal

-- the cells from the place on are blanks
abbrev pub invariant-loop-end : goal.invariant-loop-end
invariant-loop-end l = record {
  within : l.end ≤ length l.a;
  blank : (k : ℕ) → l.end ≤ k → k < length l.a → slice_index l.a k ≡ 32;
}

abbrev pub decreases-loop-end : goal.decreases-loop-end
decreases-loop-end l = l.end
