-- Which line leads the reader on from where it has come, within the limits, and which one it refuses.
use Rattle.std.specs.Prelude.{◌≡◌, ℕ, Bool, Option, ◌+◌, ◌<◌, ◌≤◌, true, if◌then◌else◌, List, Some, None}
use Rattle.phrase_parser.specs.declared.not_read.NotRead.{NotRead}
use Rattle.template_tree.specs.Programs.Limit.{deepest_path, most_slots}
use Rattle.file_store.specs.declared.refusal.FileRefusal.{FileRefusal}
use Rattle.file_store.specs.Private.LineReading.{Says}
use Rattle.file_store.specs.Private.Reader.{Said, OpenNodes, opens, line_taken}

-- what the reader has taken so far: the open lists to which it has come, how many lines were read, and in how many of
-- them a node began
pub record Come : Type 0 where
  pub stack : OpenNodes
  pub lines : ℕ
  pub opened : ℕ

-- a node may begin in the line that the reader takes, behind so many others
pub record MayOpen (said : Said) (opened : ℕ) : Type 0 where
  pub shallow : opens said.saying ≡ true → said.level < deepest_path
  pub few : opens said.saying ≡ true → opened < most_slots

-- the line says something that leads the reader on from where it had come
pub record Taken (line : List ℕ) (before now : Come) (said : Said) : Type 0 where
  pub says : Says line said
  pub steps : line_taken before.stack said ≡ Some now.stack
  pub may_open : MayOpen said before.opened
  pub lines : now.lines ≡ before.lines + 1
  pub opened : now.opened ≡ (if opens said.saying then 1 else 0) + before.opened

-- the line leads the reader on, whatever it says
abbrev pub IsTaken : List ℕ → Come → Come → Type 0
IsTaken line before now = (said : Said) × Taken line before now said

-- the line says something with which a listing may go on from where the reader had come, and a node begins in it
abbrev pub GoesOn : List ℕ → Come → Said → Type 0
GoesOn line before said =
    (after : OpenNodes) × Says line said × (line_taken before.stack said ≡ Some after) × (opens said.saying ≡ true)

-- why the reader refuses the line where it had come
abbrev pub IsLineRefused : List ℕ → Come → FileRefusal → Type 0
IsLineRefused line before (FileRefusal.NotAListing k) =
    (k ≡ before.lines + 1) × ((said : Said) → Says line said → line_taken before.stack said ≡ None)
IsLineRefused line before FileRefusal.TooDeep = (said : Said) × GoesOn line before said × (deepest_path ≤ said.level)
IsLineRefused line before FileRefusal.TooLarge =
    (said : Said) × GoesOn line before said × (said.level < deepest_path) × (most_slots ≤ before.opened)
IsLineRefused line before FileRefusal.OutOfMemory = Unit {0}
IsLineRefused line before FileRefusal.NoFile = ⊥
IsLineRefused line before FileRefusal.FileFault = ⊥
IsLineRefused line before FileRefusal.TooLong = ⊥

-- what a line of this number that wasn't read does to the reader: why it then refuses the listing
abbrev pub refused_in : (number : ℕ) → NotRead → FileRefusal
refused_in number NotRead.OutOfMemory = FileRefusal.OutOfMemory
refused_in number NotRead.Refused = FileRefusal.NotAListing number

-- why the reader refuses a line where a node may begin in it, at a level behind so many others: what is past a limit,
-- if something is
abbrev pub IsPast : Bool → ℕ → ℕ → Option FileRefusal → Type 0
IsPast opens level opened None = (opens ≡ true → level < deepest_path) × (opens ≡ true → opened < most_slots)
IsPast opens level opened (Some FileRefusal.TooDeep) = (opens ≡ true) × (deepest_path ≤ level)
IsPast opens level opened (Some FileRefusal.TooLarge) = (opens ≡ true) × (level < deepest_path) × (most_slots ≤ opened)
IsPast opens level opened (Some refusal) = ⊥
