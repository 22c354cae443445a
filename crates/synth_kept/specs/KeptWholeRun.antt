-- A session whose keys are kept: which keys the editor was given, what it wrote, and what a crash leaves.
use Rattle.std.proofs.Common.{inl, inr}
use Rattle.std.specs.Prelude.{◌≡◌, ◌≢◌, ◌⊎◌, ℕ, ◌≤◌, List, [], ◌++◌, length, Option, Some, None, IsSome}
use Rattle.std.specs.Io.KnownBytes.{Consumes}
use Rattle.plcs_base.specs.PlainCounts.{PlainCounts}
use Rattle.synth_outside.specs.Files.{PlainFiles}
use Rattle.key_journal.specs.Crash.{LeavesAllOf, LeavesBetween, LeavesOneOf, Throughout}
use Rattle.key_journal.specs.Disk.{DiskState, Newest}
use Rattle.key_journal.specs.Journal.{left_of_both}
use Rattle.key_journal.specs.Recovered.{kept_keys}
use Rattle.key_journal.specs.declared.disk.DiskFault.{DiskFault}
use Rattle.synth_kept.specs.Closing.{Closing, Closes, ClearsWhere}
use Rattle.synth_kept.specs.KeptStatus.{fault_status}
use Rattle.synth_kept.specs.declared.status.KeptStatus.{KeptStatus}
use Rattle.synth_top.specs.declared.status.Status.{Status}
use Rattle.synth_top.specs.declared.status.Status.TheVariants.{Done, ReadFault, NoMemory, BadWords}
use Rattle.synth_top.specs.WholeRun.{Ended, QuitPressed, Told}
use Rattle.synth_top.specs.Making.{MadeAs, ToldMaking}
use Rattle.synth_top.specs.Options.{PlainOptions}
use Rattle.synth_top.specs.Task.{PlainTask}
use Rattle.synth_top.specs.Task.PlainTask.{Edit, Make}

-- what is told of the outside of a kept session: the bytes that the source of new keys has left, the
-- states of the disk, the bytes that the sink took and its count of wants, the files, and what was counted
pub record KeptTold : Type 0 where
  pub left : Option (List ℕ)
  pub past : List DiskState
  pub taken : Option (List ℕ)
  pub wants : ℕ
  pub files : PlainFiles
  pub counts : PlainCounts

-- both the source of new keys and the disk of a kept session tell
pub record TellsBoth (told : KeptTold) : Type 0 where
  pub source : IsSome told.left
  pub disk : told.past ≢ []

-- what the editor is told once it was given so many keys, by so many reads: the kept keys behind those,
-- and then the bytes of the source, are left to read
abbrev pub told_editor : KeptTold → ℕ → ℕ → Told
told_editor told given reads = record {
  streams =
      record { left = left_of_both told.left told.past given; reads = reads; taken = told.taken; wants = told.wants };
  files = told.files;
  counts = told.counts;
}

-- the bytes given to the editor are the kept keys and then all that was taken from the source; or
-- nothing was taken, and they are the first ones of the kept keys
abbrev pub AreKeys : List ℕ → List ℕ → List ℕ → List ℕ → Type 0
AreKeys keys taken last bytes =
    (bytes ≡ keys ++ taken)
    ⊎ ((taken ++ last ≡ []) × ((rest : List ℕ) × (keys ≡ bytes ++ rest)))

-- the bytes that the editor was given: none where no session was opened
abbrev pub bytes_given : {run : Status} {options : PlainOptions} {before now : Told}
    {after_reads after_fault : Type 0} → Ended run options before now after_reads after_fault → List ℕ
bytes_given (inl unopened) = []
bytes_given (inr ran) = ran.course.bytes

-- in a session whose keys are kept, one of the keys that the editor was given ended it
abbrev pub IsQuit : {run : Status} {options : PlainOptions} {before now : Told}
    {after_reads after_fault : Type 0} → Ended run options before now after_reads after_fault → Type 0
IsQuit (inl unopened) = ⊥
IsQuit (inr ran) = QuitPressed ran.course

-- the editor ran over the kept keys and then the bytes of the source, as over any source of these bytes
pub record WholeRunOverKeys (options : PlainOptions) (run : Status) (closing : Closing) (before now : KeptTold)
    (taken last : List ℕ) (after_reads after_fault : Type 0) : Type 0 where
  pub given : ℕ
  pub reads : ℕ
  pub ended : Ended run options (told_editor before 0 0) (told_editor now given reads)
      after_reads (after_reads ⊎ after_fault)
  -- which bytes it was given; a crash leaves all of them, whether they were kept before or taken now, and
  -- perhaps others behind them
  pub keys : TellsBoth before → AreKeys (kept_keys before.past) taken last (bytes_given ended)
  pub none_lost : TellsBoth before → Newest (LeavesAllOf (bytes_given ended)) now.past
  -- the journal of a session whose keys are kept is cleared exactly where a key ended it
  pub quit : TellsBoth before →
      ClearsWhere ((run ≡ Done) × IsQuit ended) closing

-- words that aren't of the command are refused over an open journal, or memory ran out over them, and
-- nothing is read
pub record RefusesWords (run : Status) (taken last : List ℕ) (same_outside : Type 0) : Type 0 where
  pub refused : (run ≡ BadWords) ⊎ (run ≡ NoMemory)
  pub none : taken ++ last ≡ []
  pub outside : same_outside

-- what a making over an open journal changes of all that is told
abbrev pub kept_making : KeptTold → ToldMaking
kept_making told = record { taken = told.taken; wants = told.wants; counts = told.counts }

-- a program was made over an open journal, as without one: no key was taken, the files are as they were, and the
-- journal is left standing
pub record MakesOverJournal (number : ℕ) (run : Status) (closing : Closing) (before now : KeptTold)
    (taken last : List ℕ) (after_reads : Type 0) : Type 0 where
  pub made : MadeAs run number (kept_making before) (kept_making now)
  pub none : taken ++ last ≡ []
  pub source : after_reads
  pub files : now.files ≡ before.files
  pub standing : ClearsWhere ⊥ closing

-- what was done over an open journal, by the task that the words ask for, where they are of the command
abbrev pub WholeRunByTask : Option PlainTask → Status → Closing → KeptTold → KeptTold → List ℕ → List ℕ →
    Type 0 → Type 0 → Type 0 → Type 0
WholeRunByTask None run closing before now taken last same_outside after_reads after_fault =
    RefusesWords run taken last same_outside
WholeRunByTask (Some (Edit options)) run closing before now taken last same_outside after_reads after_fault =
    WholeRunOverKeys options run closing before now taken last after_reads after_fault
WholeRunByTask (Some (Make number)) run closing before now taken last same_outside after_reads after_fault =
    MakesOverJournal number run closing before now taken last after_reads

-- a run of the editor over an open journal
pub record JournalWholeRun (task : Option PlainTask) (run : Status) (closing : Closing)
    (before now : KeptTold) (same_outside after_reads after_fault : Type 0) : Type 0 where
  -- the bytes that a session whose keys are kept took from its source of new keys, and one behind them at most that a
  -- failed read took
  pub taken : List ℕ
  pub last : List ℕ
  pub took : Consumes before.left now.left (taken ++ last)
  pub few : length last ≤ 1
  pub failed : (last ≡ []) ⊎ ((run ≡ ReadFault) ⊎ (run ≡ NoMemory))
  -- at each moment of the session a crash leaves the kept keys and then some of those bytes, in their order; at the end
  -- all of them, but for the one that a failed read took
  pub each : Throughout (LeavesBetween (kept_keys before.past) ((kept_keys before.past ++ taken) ++ last))
      before.past now.past
  pub safe : Newest (LeavesOneOf (kept_keys before.past ++ taken) last) now.past
  pub edits : WholeRunByTask task run closing before now taken last same_outside after_reads after_fault

-- the journal was opened: the editor ran over it, and then it was closed
pub record JournalSession (task : Option PlainTask) (status : KeptStatus) (before now : KeptTold)
    (same_outside after_reads after_fault : Type 0) : Type 0 where
  -- how the editor ended, the states of the disk then, and how the journal was closed
  pub run : Status
  pub behind : List DiskState
  pub closing : Closing
  pub editing : JournalWholeRun task run closing before (record now { past = behind })
      same_outside after_reads after_fault
  pub closed : Closes closing run status (kept_keys before.past ++ editing.taken) behind now.past

-- the journal couldn't be opened: nothing else was done, and a crash leaves what it could leave before
pub record KeptNotOpened (status : KeptStatus) (before now : KeptTold) (same_outside : Type 0) : Type 0 where
  pub fault : DiskFault
  pub answer : status ≡ fault_status fault
  pub outside : same_outside
  pub same : now ≡ before

-- what became of a session whose keys are kept, by its status: its journal couldn't be opened, or the editor ran over
-- it
abbrev pub KeptEnded : Option PlainTask → KeptStatus → KeptTold → KeptTold → Type 0 → Type 0 →
    Type 0 → Type 0
KeptEnded task status before now same_outside after_reads after_fault =
    KeptNotOpened status before now same_outside
    ⊎ JournalSession task status before now same_outside after_reads after_fault
