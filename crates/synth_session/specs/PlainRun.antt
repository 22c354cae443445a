-- A run that stands, as plain data, and what is kept of the program for it.
use Rattle.std.specs.Prelude.{Bool, true, false, List, []}
use Rattle.plcs_store.specs.declared.kept.Kept.{Kept}
use Rattle.plcs_store.specs.declared.reason.RunReason.{RunReason}
use Rattle.plcs_store.specs.Configuration.{PlainConfiguration}

-- a run that stands: what it is in, why it stands still, what is kept of the program as it was then, and the latest
-- earlier whole configurations, at most 500, the latest first
pub record PlainRun : Type 0 where
  pub configuration : PlainConfiguration
  pub reason : RunReason
  pub kept : Kept
  pub earlier : List PlainConfiguration

-- whether a run that stands is over
abbrev pub is_ended : RunReason → Bool
is_ended RunReason.Placeholder = false
is_ended RunReason.Marked = false
is_ended (RunReason.Fault kind) = false
is_ended RunReason.InputWanted = false
is_ended RunReason.Paused = false
is_ended RunReason.Ended = true

-- a run of which no earlier configuration is held any more, as after an edit
abbrev pub without_earlier : PlainRun → PlainRun
without_earlier run = record run { earlier = [] }
