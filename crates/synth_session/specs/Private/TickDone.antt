-- What the steps of a tick did to a session.
use Rattle.std.specs.Prelude.{◌≡◌, true, false, Option, Some, None, Result, Ok, Err}
use Rattle.plcs_base.specs.declared.memory.OutOfMemory.{OutOfMemory}
use Rattle.plcs_store.specs.declared.reason.RunReason.{RunReason}
use Rattle.synth_session.specs.declared.tick.Tick.{Tick}
use Rattle.synth_session.specs.PlainSession.{PlainSession}
use Rattle.synth_session.specs.Tick.{Steps, TickOutcome, Tried, WantsInTick, rested_in}

-- a step of a tick was tried so: it was made, or the session is as it was, and its run is to rest for this reason
abbrev pub HasTried : Tried → (before now : PlainSession) → Option RunReason → Type 0
HasTried step before now None = (step.made ≡ true) × (now ≡ step.after)
HasTried step before now (Some reason) =
    (step.made ≡ false) × (now ≡ before) × (rested_in before reason before.run ≡ step.after)

-- the steps of a tick with this outcome were made in a session, or memory ran out in it
abbrev pub DoesTicked : TickOutcome → Steps → (before now : PlainSession) → Result Tick OutOfMemory → Type 0
DoesTicked outcome steps before now (Ok told) = (now ≡ outcome.after) × (told ≡ outcome.tick)
DoesTicked outcome steps before now (Err error) = WantsInTick steps before now
