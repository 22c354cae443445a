-- When a journal is to be cleared, as the program decides it.
use Rattle.std.specs.Prelude.{◌≡◌, ◌≢◌, ℕ, Bool, false}
use Rattle.synth_kept.specs.Closing.{Closing}
use Rattle.synth_kept.specs.Closing.Closing.{LeftStanding, Cleared, NotCleared}
use Rattle.synth_top.specs.declared.status.Status.{Status}
use Rattle.synth_top.specs.declared.status.Status.TheVariants.{Done}

-- a journal is to be cleared where the program closes it: the editor is done, some key was given, and the last answer
-- wasn't the end
pub record IsToClear (run : Status) (given : ℕ) (ended : Bool) : Type 0 where
  pub done : run ≡ Done
  pub some : given ≢ 0
  pub going : ended ≡ false

-- as the program decides it, a journal is closed by clearing it exactly where it is to be cleared
abbrev pub ClosesAsDue : Closing → Status → ℕ → Bool → Type 0
ClosesAsDue LeftStanding run given ended = IsToClear run given ended → ⊥
ClosesAsDue Cleared run given ended = IsToClear run given ended
ClosesAsDue (NotCleared fault) run given ended = IsToClear run given ended
