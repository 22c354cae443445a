-- How much of the work of making code is counted.
use Rattle.std.specs.Prelude.{◌≡◌, ℕ, ◌+◌, ◌≤◌}
use Rattle.plcs_base.specs.Count.{raised_by}
use Rattle.plcs_base.specs.PlainCounts.{PlainCounts}

-- in making code just so many instructions are counted as emitted, and nothing else is counted; a count at its last
-- value stays there
abbrev pub Emits : (number : ℕ) (before now : PlainCounts) → Type 0
Emits number before now = now ≡ record before { emitted = raised_by number before.emitted }

-- in making code at most so many instructions are counted as emitted, and nothing else is counted
pub record EmitsAtMost (bound : ℕ) (before now : PlainCounts) : Type 0 where
  pub most : now.emitted ≤ before.emitted + bound
  pub later : before.emitted ≤ now.emitted
  pub others : now ≡ record before { emitted = now.emitted }
