-- What the steps of a read do: a kept key is looked for, and else a new one is taken and kept.
use Rattle.std.specs.Prelude.{◌≡◌, ℕ, ◌+◌, ◌^◌, ◌≤◌, List, [], ◌∷◌, ◌++◌, Option, Some, None, Result, Ok, Err, IfOk, OnOk}
use Rattle.std.specs.Io.KnownBytes.{Consumes, IsAtEnd}
use Rattle.synth_outside.specs.Source.{LosesAtMost}
use Rattle.key_journal.specs.Crash.{LeavesOnly, LeavesOneOf, Throughout}
use Rattle.key_journal.specs.Disk.{DiskState, Newest}
use Rattle.key_journal.specs.JournalRead.{Gave}
use Rattle.key_journal.specs.Recovered.{kept_keys}
use Rattle.key_journal.specs.Private.Stages.{HoldsAt, IsAppending, IsReplaying}
use Rattle.key_journal.specs.declared.stage.Stage.{Stage}
use Rattle.key_journal.specs.declared.stage.Stage.TheVariants.{Replaying, Appending}

-- a step of a read took a new key: the source gave one byte or is at its end, or may have lost one
abbrev pub GivesByte : {E : Type 0} → Option (List ℕ) → Option (List ℕ) → Result (Option ℕ) E → Type 0
GivesByte left left_after (Ok (Some byte)) = Consumes left left_after (byte ∷ [])
GivesByte left left_after (Ok None) = Consumes left left_after [] × IsAtEnd left_after
GivesByte left left_after (Err fault) = LosesAtMost left left_after 1

-- a new key is kept behind those that are
pub record KeepsKey {E : Type 0} (given key : ℕ) (past past_after : List DiskState)
    (result : Result Unit E) : Type 0 where
  pub each : Throughout (LeavesOneOf (kept_keys past) (key ∷ [])) past past_after
  pub safe : OnOk result (Newest (LeavesOnly (kept_keys past ++ key ∷ [])) past_after)
  pub holds : OnOk result (Newest (IsAppending (given + 1)) past_after)

-- a gate that isn't open is put behind the last whole block, before a new key is kept
pub record ShutsGate {E : Type 0} (given : ℕ) (past past_after : List DiskState)
    (result : Result Unit E) : Type 0 where
  pub each : Throughout (LeavesOnly (kept_keys past)) past past_after
  pub holds : OnOk result (Newest (IsAppending given) past_after)

-- the next kept key was found, or none is left to give
abbrev pub FindsKey : Option ℕ → ℕ → List ℕ → List DiskState → Type 0
FindsKey (Some key) given keys past =
    Newest (Gave given key keys) past × Newest (IsReplaying (given + 1)) past
FindsKey None given keys past = Newest (IsAppending given) past

-- a kept key is looked for, and a crash leaves the kept keys alone meanwhile
pub record Replays {E : Type 0} (given : ℕ) (past past_after : List DiskState)
    (result : Result (Option ℕ) E) : Type 0 where
  pub each : Throughout (LeavesOnly (kept_keys past)) past past_after
  pub found : IfOk result (λ key. FindsKey key given (kept_keys past) past_after)

-- what the step of a read that looks for a kept key makes of the stage: the key was found, or there is none
abbrev pub stage_after : Option ℕ → Stage
stage_after (Some key) = Replaying
stage_after None = Appending

-- a kept key is looked for from any stage, and how far the journal has come then
pub record ReplaysAt {E : Type 0} (stage : Stage) (given : ℕ) (past past_after : List DiskState)
    (result : Result (Option ℕ) E) : Type 0 where
  pub replays : Replays given past past_after result
  pub stage_is : IfOk result (λ key. stage ≡ stage_after key)

-- what holds of the disk after a step of a read that looked for a kept key, or kept a new one: it gave this key, or
-- the end
abbrev pub HoldsAfter : Stage → ℕ → Option ℕ → List DiskState → Type 0
HoldsAfter stage given (Some key) past = HoldsAt stage (given + 1) past × (given + 1 ≤ 2 ^ 61)
HoldsAfter stage given None past = HoldsAt stage given past
