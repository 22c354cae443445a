-- What a save makes of the map of files, and what it answers.
use Rattle.std.specs.Prelude.{◌≡◌, ◌⊎◌, ℕ, List, Option, Some, None, Result, IfErr, OnErr, OnOk}
use Rattle.synth_outside.specs.Cause.{HasCause}
use Rattle.synth_outside.specs.Files.{FileMap, IsSet, PlainFiles}
use Rattle.file_store.specs.declared.refusal.FileRefusal.{FileRefusal}

-- what a save made of the map of files: where that is told, it has the bytes under the name, and all else as before
abbrev pub IsSaved : Option FileMap → Option FileMap → List ℕ → List ℕ → Type 0
IsSaved None now name bytes = Unit {0}
IsSaved (Some map) now name bytes = IsSet map now name (Some bytes)

-- the bytes were saved under the name, and every other name is as before; or the whole map is as before, and a call
-- failed or memory ran out in the files, as their counts tell
pub record Saves {T : Type 0} (name bytes : List ℕ) (result : Result T FileRefusal) (before now : PlainFiles)
    : Type 0 where
  pub saved : OnOk result (IsSaved before.stored now.stored name bytes)
  pub kept : OnErr result (now.stored ≡ before.stored)
  pub only : IfErr result (λ refusal. (refusal ≡ FileRefusal.FileFault) ⊎ (refusal ≡ FileRefusal.OutOfMemory))
  pub fault : HasCause FileRefusal.FileFault before.faults now.faults result
  pub want : HasCause FileRefusal.OutOfMemory before.wants now.wants result
