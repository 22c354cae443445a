-- What the file of a name is loaded as, or why it isn't loaded.
use Rattle.std.specs.Prelude.{◌≡◌, ◌⊎◌, ℕ, ◌<◌, List, length, Option, Some, None, Result, Ok, Err, IsErrOf}
use Rattle.std.specs.FinMap.{get}
use Rattle.synth_outside.specs.declared.faults.FilesFault.{FilesFault}
use Rattle.synth_outside.specs.Cause.{HasCause}
use Rattle.synth_outside.specs.Files.{FileMap, NewContent, PlainFiles, Lacks}
use Rattle.template_tree.specs.Programs.PlainTree.{Forest, PlainTree, roomless_tree}
use Rattle.file_store.specs.declared.refusal.FileRefusal.{FileRefusal}
use Rattle.template_tree.specs.Listings.Listing.{Bare}
use Rattle.file_store.specs.Loaded.{IsListingOf, Refused}
use Rattle.file_store.specs.Want.{MayRiseWith}

-- where the map is told, the file that is loaded has a content under the name, and this holds of it
abbrev pub Holds : Option FileMap → List ℕ → (List ℕ → Type 0) → Type 0
Holds None name P = Unit {0}
Holds (Some map) name P = (x : List ℕ) × (get map name ≡ Some x) × P x

-- why a file is not loaded that may have so many bytes; a call that failed and want of memory say nothing of it
abbrev pub IsFileRefused : ℕ → Option FileMap → List ℕ → FileRefusal → Type 0
IsFileRefused most stored name FileRefusal.NoFile = Lacks stored name
IsFileRefused most stored name FileRefusal.TooLong = Holds stored name (λ x. most < length x)
IsFileRefused most stored name FileRefusal.FileFault = Unit {0}
IsFileRefused most stored name FileRefusal.OutOfMemory = Unit {0}
IsFileRefused most stored name refusal = ⊥

-- why a listing file is not loaded
abbrev pub IsLoadRefused : Option FileMap → List ℕ → FileRefusal → Type 0
IsLoadRefused stored name FileRefusal.NoFile = Lacks stored name
IsLoadRefused stored name FileRefusal.FileFault = Unit {0}
IsLoadRefused stored name FileRefusal.OutOfMemory = Unit {0}
IsLoadRefused stored name refusal = Holds stored name (λ x. Refused x refusal)

-- what the answer of a load says of the file of the name
abbrev pub LoadingSays : Option FileMap → List ℕ → Result PlainTree FileRefusal → Type 0
LoadingSays stored name (Ok tree) = Holds stored name (λ x. IsListingOf x tree)
LoadingSays stored name (Err refusal) = IsLoadRefused stored name refusal

-- what the file of a name is loaded as, where that is a tree, may as well be that tree without its room
abbrev pub LoadingIgnoresRoom : Type 0
LoadingIgnoresRoom =
    (stored : Option FileMap) (name : List ℕ) (tree : PlainTree) → LoadingSays stored name (Ok tree)
    → LoadingSays stored name (Ok (roomless_tree tree))

-- the map of files is told, and has these bytes under the name that is loaded
abbrev pub HasContent : Option FileMap → List ℕ → List ℕ → Type 0
HasContent None name x = ⊥
HasContent (Some map) name x = get map name ≡ Some x

-- the map of files is told, and has no content under the name that is loaded
abbrev pub HasNoContent : Option FileMap → List ℕ → Type 0
HasNoContent None name = ⊥
HasNoContent (Some map) name = get map name ≡ None

-- a load of a file answers its program, unless a call failed or memory ran out
abbrev pub LoadsOnly : Result PlainTree FileRefusal → Forest → Type 0
LoadsOnly (Ok tree) items = Bare tree.items ≡ Bare items
LoadsOnly (Err own) items = (own ≡ FileRefusal.FileFault) ⊎ (own ≡ FileRefusal.OutOfMemory)

-- a load answers the refusal, unless a call failed or memory ran out
abbrev pub RefusesLoad : Result PlainTree FileRefusal → FileRefusal → Type 0
RefusesLoad (Ok tree) refusal = ⊥
RefusesLoad (Err own) refusal = (own ≡ refusal) ⊎ ((own ≡ FileRefusal.FileFault) ⊎ (own ≡ FileRefusal.OutOfMemory))

-- a load only reads files: the map and what is begun are as before, the count of faults rises where it answers that a
-- call failed, and that of wants at most where it answers want of memory
pub record OnlyReads {T : Type 0} (result : Result T FileRefusal) (before now : PlainFiles)
    (begun_before begun_now : Option NewContent) : Type 0 where
  pub stored : now.stored ≡ before.stored
  pub begun : begun_now ≡ begun_before
  pub fault : HasCause FileRefusal.FileFault before.faults now.faults result
  pub want : MayRiseWith (IsErrOf result FileRefusal.OutOfMemory) before.wants now.wants

-- the refusal that a load or a save answers where this fault of the files came
abbrev pub refusal_of : FilesFault → FileRefusal
refusal_of FilesFault.NoFile = FileRefusal.NoFile
refusal_of FilesFault.Failed = FileRefusal.FileFault
refusal_of FilesFault.OutOfMemory = FileRefusal.OutOfMemory

-- why the file of a name isn't loaded where memory is wanting
abbrev pub memory_refusal : FileRefusal
memory_refusal = FileRefusal.OutOfMemory
