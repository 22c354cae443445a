-- How far a file was read.
use Rattle.std.specs.Prelude.{◌≡◌, ℕ, ◌<◌, ◌≤◌, Bool, true, false, List, ◌++◌, length, Option, Some, None, Result, Ok, Err}
use Rattle.std.specs.FinMap.{get}
use Rattle.std.specs.Io.KnownBytes.{Consumes, IsAtEnd}
use Rattle.synth_outside.specs.Files.{FileMap}
use Rattle.file_store.specs.declared.refusal.FileRefusal.{FileRefusal}

-- the bytes of the file of the name are these, which were read, and those that are left
abbrev pub IsPartRead : Option FileMap → List ℕ → Option (List ℕ) → List ℕ → Type 0
IsPartRead None name left bytes = Unit {0}
IsPartRead (Some map) name None bytes = ⊥
IsPartRead (Some map) name (Some rest) bytes = get map name ≡ Some (bytes ++ rest)

-- a piece of a file was read: some bytes came behind the others, or none is left; or there are too many
abbrev pub IsChunk : ℕ → Option (List ℕ) → Option (List ℕ) → List ℕ → List ℕ → Result Bool FileRefusal → Type 0
IsChunk most before now old new (Ok true) =
    (piece : List ℕ) × (new ≡ old ++ piece) × Consumes before now piece × (0 < length piece) × (length new ≤ most)
IsChunk most before now old new (Ok false) = (new ≡ old) × IsAtEnd before
IsChunk most before now old new (Err FileRefusal.TooLong) =
    (piece : List ℕ) × Consumes before now piece × (most < length (old ++ piece))
IsChunk most before now old new (Err FileRefusal.FileFault) = Unit {0}
IsChunk most before now old new (Err FileRefusal.OutOfMemory) = Unit {0}
IsChunk most before now old new (Err refusal) = ⊥
