-- How bounds on counted work add up over calls, one after the other.
use Rattle.std.specs.Prelude.{ℕ, ◌+◌, ◌≤◌}
use Rattle.plcs_base.specs.PlainCounts.{ChecksAtMost, ChecksOne, CountsNothing, LaysAtMost, LaysOne, PlainCounts}

-- a bound on the phrases checked: met where none or one is, and added up over two calls
pub record ChecksAddUp : Type 0 where
  pub none : (most : ℕ) (before now : PlainCounts) → CountsNothing before now → ChecksAtMost most before now
  pub one : (most : ℕ) (before now : PlainCounts) → 1 ≤ most → ChecksOne before now → ChecksAtMost most before now
  pub joined :
      (first second most : ℕ) (before between now : PlainCounts)
      → first + second ≤ most → ChecksAtMost first before between → ChecksAtMost second between now
      → ChecksAtMost most before now

-- a bound on the lines laid out: met where none or one is, and added up over two calls
pub record LaysAddUp : Type 0 where
  pub none : (most : ℕ) (before now : PlainCounts) → CountsNothing before now → LaysAtMost most before now
  pub one : (most : ℕ) (before now : PlainCounts) → 1 ≤ most → LaysOne before now → LaysAtMost most before now
  pub joined :
      (first second most : ℕ) (before between now : PlainCounts)
      → first + second ≤ most → LaysAtMost first before between → LaysAtMost second between now
      → LaysAtMost most before now
