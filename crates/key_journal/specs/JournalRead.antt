-- What a read of a journal gives, and what a crash leaves meanwhile.
use Rattle.std.specs.Prelude.{◌≡◌, ℕ, zero, suc, ◌+◌, ◌≤◌, ◌⊎◌, List, [], ◌++◌, Option, Some, None, Bool, true, false, Result, Ok, Err, length, drop, slice_get, slice_index, IfOk, OnOk}
use Rattle.std.specs.Io.KnownBytes.{Consumes, IsAtEnd}
use Rattle.synth_outside.specs.Cause.{HasCause}
use Rattle.synth_outside.specs.declared.faults.SourceFault.{SourceFault}
use Rattle.synth_outside.specs.declared.faults.SourceFault.TheVariants.{Failed}
use Rattle.key_journal.specs.Crash.{LeavesOnly, LeavesOneOf, Throughout}
use Rattle.key_journal.specs.Disk.{DiskState, Newest}
use Rattle.key_journal.specs.Journal.{PlainJournalKeys, both_counts}
use Rattle.key_journal.specs.Recovered.{kept_keys}

-- what a read gave: this key, which stands among the keys at this place, counted from 0; a crash leaves
-- these keys alone
pub record Gave (place key : ℕ) (keys : List ℕ) (state : DiskState) : Type 0 where
  pub safe : LeavesOnly keys state
  pub next : slice_get keys place ≡ Some key

-- what a read that is the end says: the source is at its end, no key was taken, all kept ones were given
-- before, and a crash leaves them alone
pub record Ends (left : Option (List ℕ)) (place : ℕ) (keys taken : List ℕ) (past : List DiskState)
    : Type 0 where
  pub source : IsAtEnd left
  pub none : taken ≡ []
  pub all : drop place keys ≡ []
  pub safe : Newest (LeavesOnly keys) past

-- the answer of a read of a journal: the next key, or the end
abbrev pub NextOrEnd : Option ℕ → Option (List ℕ) → ℕ → List ℕ → List ℕ → List DiskState → Type 0
NextOrEnd (Some key) left place keys taken past = Newest (Gave place key (keys ++ taken)) past
NextOrEnd None left place keys taken past = Ends left place keys taken past

-- a read of a journal gave one more key, or the end, after so many keys
pub record ReadsKey {E : Type 0} (left left_after : Option (List ℕ)) (place : ℕ)
    (past past_after : List DiskState) (result : Result (Option ℕ) E) : Type 0 where
  -- the bytes that were taken from the source: at most one, and only once all kept keys were given
  pub taken : List ℕ
  pub few : length taken ≤ 1
  pub consumes : Consumes left left_after taken
  pub behind : (taken ≡ []) ⊎ (drop place (kept_keys past) ≡ [])
  -- at each moment of the read a crash leaves the kept keys, or these and then what was taken
  pub each : Throughout (LeavesOneOf (kept_keys past) taken) past past_after
  pub answer : IfOk result (λ key. NextOrEnd key left_after place (kept_keys past) taken past_after)

-- in a read of a journal the sum of the counts of faults of source and disk has the cause of the answer in it;
-- neither falls, and both stay where a key or the end is answered
pub record HasEitherCause {T : Type 0} (source source_after disk disk_after : ℕ)
    (result : Result T SourceFault) : Type 0 where
  pub sum : HasCause Failed (both_counts source disk) (both_counts source_after disk_after) result
  pub source_later : source ≤ source_after
  pub disk_later : disk ≤ disk_after
  pub source_same : OnOk result (source_after ≡ source)
  pub disk_same : OnOk result (disk_after ≡ disk)

-- the key that a read gave in its buffer, or that it was the end
abbrev pub key_read : {E : Type 0} → List ℕ → Result ℕ E → Result (Option ℕ) E
key_read buf (Ok zero) = Ok None
key_read buf (Ok (suc count)) = Ok (Some (slice_index buf 0))
key_read buf (Err fault) = Err fault

-- how many keys a journal gave, after a read that gave so many
abbrev pub given_after : {E : Type 0} → ℕ → Result ℕ E → ℕ
given_after given (Ok count) = given + count
given_after given (Err fault) = given

-- whether the answer of a read is the end of keys
abbrev pub is_end : {E : Type 0} → Result ℕ E → Bool
is_end (Ok zero) = true
is_end (Ok (suc count)) = false
is_end (Err fault) = false

-- a read of a journal gave at most one byte, a key, which is counted, and it is noted whether it was the end
pub record CountsKey {S D E : Type 0} (before now : PlainJournalKeys S D) (result : Result ℕ E)
    : Type 0 where
  pub one : IfOk result (λ count. count ≤ 1)
  pub given : now.given ≡ given_after before.given result
  pub ended : now.ended ≡ is_end result
