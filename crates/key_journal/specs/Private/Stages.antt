-- How far a journal has come, and what then holds of its disk.
use Rattle.std.specs.Prelude.{◌≡◌, ◌≢◌, ℕ, ◌^◌, ◌≤◌, List, [], ◌∷◌, ◌++◌, length}
use Rattle.key_journal.specs.Crash.{LeavesAtLeast}
use Rattle.key_journal.specs.Disk.{DiskState, Newest}
use Rattle.key_journal.specs.Recovered.{recovered}
use Rattle.key_journal.specs.Private.Writes.{IsSynced}
use Rattle.key_journal.specs.declared.stage.GateContent.{GateContent}
use Rattle.key_journal.specs.declared.stage.GateContent.TheVariants.{Open, Shut, Cut}
use Rattle.key_journal.specs.declared.stage.Stage.{Stage}
use Rattle.key_journal.specs.declared.stage.Stage.TheVariants.{Unsynced, Replaying, Appending}

-- keys as they stand on the disk of a journal that has come past them: open gates, each with its key
abbrev pub blocks : List ℕ → List ℕ
blocks [] = []
blocks (key ∷ keys) = 1 ∷ key ∷ blocks keys

-- how far a journal has come on its disk: the bytes are so many keys behind open gates, and then a gate that isn't open
pub record IsShut (count : ℕ) (bytes : List ℕ) : Type 0 where
  pub keys : List ℕ
  pub gate : ℕ
  pub rest : List ℕ
  pub whole : bytes ≡ blocks keys ++ gate ∷ rest
  pub many : length keys ≡ count
  pub shut : gate ≢ 1

-- how far a journal has come whose disk is cut off: the bytes are so many keys behind open gates, and then at most one
-- byte
pub record IsCut (count : ℕ) (bytes : List ℕ) : Type 0 where
  pub keys : List ℕ
  pub rest : List ℕ
  pub whole : bytes ≡ blocks keys ++ rest
  pub many : length keys ≡ count
  pub short : length rest ≤ 1

-- at the stage at which kept keys are given: a crash leaves what a read gives, with at least so many
-- keys
pub record IsReplaying (given : ℕ) (state : DiskState) : Type 0 where
  pub synced : IsSynced state
  pub enough : given ≤ length (recovered state.bytes)

-- where the bytes are cut: a crash leaves what a read gives, with so many keys and then no whole block
pub record IsCutOff (given : ℕ) (state : DiskState) : Type 0 where
  pub synced : IsSynced state
  pub cut : IsCut given state.bytes

-- at the stage at which new keys are kept: a crash leaves what a read gives, with so many keys and then
-- a gate that isn't open
pub record IsAppending (given : ℕ) (state : DiskState) : Type 0 where
  pub synced : IsSynced state
  pub shut : IsShut given state.bytes

-- what holds of the disk at each stage of a journal, once so many keys were given
abbrev pub HoldsAt : Stage → ℕ → List DiskState → Type 0
HoldsAt Unsynced given past = Newest (LeavesAtLeast given) past
HoldsAt Replaying given past = Newest (IsReplaying given) past
HoldsAt Appending given past = Newest (IsAppending given) past

-- the bytes of a journal's disk, from where the journal has come, begin with this block: an open gate with its key, a
-- gate that isn't open, or at most one byte
abbrev pub BeginsWithGate : GateContent → List ℕ → Type 0
BeginsWithGate (Open key) bytes = (rest : List ℕ) × (bytes ≡ 1 ∷ key ∷ rest)
BeginsWithGate Shut bytes = (gate : ℕ) × (rest : List ℕ) × (bytes ≡ gate ∷ rest) × (gate ≢ 1)
BeginsWithGate Cut bytes = length bytes ≤ 1

-- what holds of the fields of a journal: of its disk at its stage, and of how many keys were given
pub record Stays (stage : Stage) (given : ℕ) (past : List DiskState) : Type 0 where
  pub holds : HoldsAt stage given past
  pub few : given ≤ 2 ^ 61
