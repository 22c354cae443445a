-- What the steps of a tick have come to, one after the other.
use Rattle.std.specs.Prelude.{◌≡◌, ℕ, ◌+◌, ◌≤◌, IsSome}
use Rattle.plcs_base.specs.PlainCounts.{PlainCounts}
use Rattle.plcs_machine.specs.Fetched.{FetchesBy}
use Rattle.synth_session.specs.PlainSession.{PlainSession}
use Rattle.synth_session.specs.Tick.{AreDefined, AreMade, Steps, after_steps, all_steps, steps_left, with_more}

-- of the steps of a tick that shows none, so many are made by now, with what was fetched for them; what comes of the
-- others is what comes of all
pub record SoFar (steps : Steps) (first now : PlainSession) (counts_first counts_now : PlainCounts) : Type 0 where
  pub number : ℕ
  pub are_made : AreMade steps number first
  pub after : now ≡ after_steps steps number first
  pub counted_made : now.made ≡ first.made + number
  pub asked : now.asked ≡ first.asked
  pub within : now.made ≤ now.asked
  pub stands : IsSome now.run
  pub fetched : ℕ
  pub counted : FetchesBy fetched counts_first counts_now
  pub same : all_steps steps (steps_left first) first ≡ with_more fetched (all_steps steps (steps_left now) now)
  pub defined : AreDefined steps (steps_left now) now
