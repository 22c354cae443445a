-- Files by name: the map of them, and what the calls on files do, where they are told.
use Rattle.std.specs.Prelude.{◌≡◌, ◌≢◌, ℕ, List, [], Option, Some, None, IsSome, Result}
use Rattle.std.specs.Ordering.{nat_cmp}
use Rattle.std.specs.Cmp.Lexicographic.{slice_cmp}
use Rattle.std.specs.FinMap.{FinMap, get, insert}
use Rattle.synth_outside.specs.Cause.{HasCause}
use Rattle.synth_outside.specs.declared.faults.FilesFault.{FilesFault}

-- the map of files: the bytes of each name that there is
abbrev pub FileMap : Type 0
FileMap = FinMap (slice_cmp nat_cmp) (List ℕ)

-- what files tell: their map, where they tell it, and their counts of faults and of wants of memory
pub record PlainFiles : Type 0 where
  pub stored : Option FileMap
  pub faults : ℕ
  pub wants : ℕ

-- a call on files counts its answer: each of their two counts has its cause in it
pub record CountsAnswer {T : Type 0} (before now : PlainFiles) (result : Result T FilesFault) : Type 0 where
  pub fault : HasCause FilesFault.Failed before.faults now.faults result
  pub want : HasCause FilesFault.OutOfMemory before.wants now.wants result

-- a call on files leaves their map as it is, and counts its answer
pub record LeavesMap {T : Type 0} (before now : PlainFiles) (result : Result T FilesFault) : Type 0 where
  pub stored : now.stored ≡ before.stored
  pub counts : CountsAnswer before now result

-- a new content of a file that was begun: the name that it is for, and its bytes so far, where they
-- are told
pub record NewContent : Type 0 where
  pub name : List ℕ
  pub bytes : Option (List ℕ)

-- the bytes so far of the new content of a file, where one was begun and they are told
abbrev pub begun_bytes : Option NewContent → Option (List ℕ)
begun_bytes None = None
begun_bytes (Some content) = content.bytes

-- for which name a call on files began a new content, of those that aren't committed yet; where none did, the empty one
abbrev pub begun_name : Option NewContent → List ℕ
begun_name None = []
begun_name (Some content) = content.name

-- a file is opened: the map of files has the name, and its bytes are left to read, from the first
-- one
abbrev pub Opens : Option FileMap → List ℕ → Option (List ℕ) → Type 0
Opens None name left = Unit {0}
Opens (Some map) name left = IsSome left × (left ≡ get map name)

-- a file of the name is missing: the map of files lacks it
abbrev pub Lacks : Option FileMap → List ℕ → Type 0
Lacks None name = Unit {0}
Lacks (Some map) name = get map name ≡ None

-- a new content of a file is begun for the name; it is told where the map is, and has no byte yet
abbrev pub BeginsContent : Option FileMap → List ℕ → Option NewContent → Type 0
BeginsContent stored name None = ⊥
BeginsContent None name (Some content) = content.name ≡ name
BeginsContent (Some map) name (Some content) = content ≡ record { name = name; bytes = Some [] }

-- one name of the map of files is set to the bytes; where they aren't told, to some
abbrev pub IsSet : FileMap → Option FileMap → List ℕ → Option (List ℕ) → Type 0
IsSet map now name (Some bytes) = now ≡ Some (insert map name bytes)
IsSet map now name None = (bytes : List ℕ) × (now ≡ Some (insert map name bytes))

-- a new content is committed: what was begun stands in the map of files under its name, and all
-- else is as before
abbrev pub Commits : Option FileMap → Option FileMap → Option NewContent → Type 0
Commits None now begun = Unit {0}
Commits (Some map) now begun = IsSet map now (begun_name begun) (begun_bytes begun)

-- the law that a name which is set in the map of files has the bytes that it is set to
abbrev pub OwnContentIsSet : Type 0
OwnContentIsSet = (map : FileMap) (name bytes : List ℕ) → get (insert map name bytes) name ≡
    Some bytes

-- the law that where a name is set in the map of files, every other name has what it had
abbrev pub OtherContentsStay : Type 0
OtherContentsStay = (map : FileMap) (name bytes other : List ℕ) → other ≢ name →
    get (insert map name bytes) other ≡ get map other
