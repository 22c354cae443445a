-- What a sink that passes bytes on to files is seen as, and what becomes of bytes that are put into it.
use Rattle.std.specs.Prelude.{◌≡◌, ℕ, List, Option, Some, None}
use Rattle.std.specs.Io.KnownBytes.{Appends, append_known}
use Rattle.synth_outside.specs.Cause.{RisesWith}
use Rattle.synth_outside.specs.Files.{NewContent, PlainFiles, begun_bytes, begun_name}
use Rattle.synth_outside.specs.declared.faults.FilesFault.{FilesFault}
use Rattle.synth_outside.specs.declared.faults.FilesFault.TheVariants.{NoFile, Failed, OutOfMemory}

-- what a sink that passes bytes on is seen as: what its files tell, what is begun, the bytes that wait, and the fault
-- that came, if one did
pub record Desk : Type 0 where
  pub told : PlainFiles
  pub begun : Option NewContent
  pub wait : List ℕ
  pub fault : Option FilesFault

-- what a sink that passes bytes on is seen as, made of its parts
abbrev pub desk : PlainFiles → Option NewContent → List ℕ → Option FilesFault → Desk
desk told begun wait fault = record { told = told; begun = begun; wait = wait; fault = fault }

-- the bytes that were passed on to what is begun, with those that wait in the sink
abbrev pub with_wait : Desk → Option (List ℕ)
with_wait desk = append_known (begun_bytes desk.begun) desk.wait

-- this fault came to the sink that passes bytes on, between two moments
abbrev pub Came : FilesFault → Desk → Desk → Type 0
Came fault before now = (before.fault ≡ None) × (now.fault ≡ Some fault)

-- the bytes were put into the sink: they are passed on or wait, unless a fault came, which stays
pub record Sent (before : Desk) (bytes : List ℕ) (now : Desk) : Type 0 where
  pub stored : now.told.stored ≡ before.told.stored
  pub name : begun_name now.begun ≡ begun_name before.begun
  pub unfailed : now.fault ≡ None → before.fault ≡ None
  pub told : now.fault ≡ None → Appends (with_wait before) (with_wait now) bytes
  pub kept : (fault : FilesFault) → before.fault ≡ Some fault → now.fault ≡ Some fault
  pub found : now.fault ≡ Some NoFile → before.fault ≡ Some NoFile
  pub faults : RisesWith (Came Failed before now) before.told.faults now.told.faults
  pub wants : RisesWith (Came OutOfMemory before now) before.told.wants now.told.wants

-- what becomes of bytes that a sink passes on as a whole: they were written behind what was begun, or this fault came
pub record Written (before : PlainFiles) (begun_before : Option NewContent) (bytes : List ℕ)
    (now : PlainFiles) (begun_now : Option NewContent) (fault : Option FilesFault) : Type 0 where
  pub stored : now.stored ≡ before.stored
  pub name : begun_name begun_now ≡ begun_name begun_before
  pub told : fault ≡ None → Appends (begun_bytes begun_before) (begun_bytes begun_now) bytes
  pub found : fault ≡ Some NoFile → ⊥
  pub faults : RisesWith (fault ≡ Some Failed) before.faults now.faults
  pub wants : RisesWith (fault ≡ Some OutOfMemory) before.wants now.wants
