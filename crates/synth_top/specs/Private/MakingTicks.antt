-- What the ticks of a pressed key do in a making, between two moments of it: from after the key was pressed on.
use Rattle.std.specs.Prelude.{◌≡◌, ℕ, Result, Ok, Err}
use Rattle.plcs_base.specs.PlainCounts.{PlainCounts}
use Rattle.synth_session.specs.CountedKey.{CountsPressed, CountsPressedAtMost}
use Rattle.synth_session.specs.PlainSession.{PlainSession}
use Rattle.synth_session.specs.Tick.{steps_left}
use Rattle.synth_top.specs.Making.{ticks_fetched}
use Rattle.synth_top.specs.Turn.{steps_of}
use Rattle.synth_top.specs.Private.TicksShown.{ticks_from}

-- how many instructions are fetched in all ticks of a making's session whose key was pressed; what was fetched in the
-- press isn't counted here
abbrev pub fetched_from_press : PlainSession → ℕ
fetched_from_press s = ticks_fetched (steps_of s) (steps_left s) s

-- between two moments of a making all ticks of a key were made
pub record TicksMade (before now : PlainSession) (counts_before counts_now : PlainCounts) : Type 0 where
  pub session : now ≡ (ticks_from before).after
  pub counts : CountsPressed 0 0 (fetched_from_press before) (fetched_from_press before) counts_before counts_now

-- what became of the ticks of a key in a making: all were made, or memory ran out in one
abbrev pub MakesTicks : {T E : Type 0} → (before now : PlainSession) → (counts_before counts_now : PlainCounts) →
    Result T E → Type 0
MakesTicks before now counts_before counts_now (Ok done) = TicksMade before now counts_before counts_now
MakesTicks before now counts_before counts_now (Err error) =
    CountsPressedAtMost 0 0 (fetched_from_press before) counts_before counts_now
