-- How a count of wants rises in a call that can want memory of its own too.
use Rattle.std.specs.Prelude.{◌≡◌, ℕ, ◌-◌, ◌^◌, ◌≤◌}

-- how a count of wants rises: it never falls in a call; where want of memory isn't answered it is as before, and at its
-- last value it stays
pub record MayRiseWith (answered : Type 0) (before now : ℕ) : Type 0 where
  pub later : before ≤ now
  pub same : (answered → ⊥) → now ≡ before
  pub last : before ≡ 2 ^ 64 - 1 → now ≡ before
