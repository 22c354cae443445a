-- What became of a journal over some reads, one after the other: what was taken, and what a crash
-- leaves.
use Rattle.std.specs.Prelude.{◌≡◌, ◌≢◌, ℕ, ◌+◌, ◌-◌, ◌^◌, ◌<◌, ◌≤◌, ◌⊎◌, List, [], ◌∷◌, ◌++◌, Option, Some, None, IsSome, true, false, length, drop, refl}
use Rattle.std.proofs.Common.{◌∙◌, inl, subst, sym, append-nil}
use Rattle.std.proofs.lemmas.Bool.{true≢false}
use Rattle.std.proofs.Math.Nat.{add-zero, le_refl}
use Rattle.std.specs.Io.KnownBytes.{Consumes, IsAtEnd}
use Rattle.key_journal.specs.Crash.{EachRecovers, LeavesBetween, LeavesOneOf, LeavesOnly, Throughout}
use Rattle.key_journal.specs.Disk.{DiskState, Newest}
use Rattle.key_journal.specs.Journal.{PlainJournalKeys}
use Rattle.key_journal.specs.Recovered.{kept_keys}

-- what holds over reads that were Ok, where a crash before them left the kept keys alone: at each
-- moment a crash leaves these and some of the taken ones, and at the end all of them; so many were
-- given, and where any was taken, all
pub record KeepsAll (past past_after : List DiskState) (given : ℕ) (taken : List ℕ) : Type 0 where
  pub each : Throughout (LeavesBetween (kept_keys past) (kept_keys past ++ taken)) past past_after
  pub safe : Newest (LeavesOnly (kept_keys past ++ taken)) past_after
  pub within : Newest (λ _. given ≤ length (kept_keys past ++ taken)) past_after
  pub behind : (taken ≡ []) ⊎ Newest (λ _. given ≡ length (kept_keys past ++ taken)) past_after

-- what holds over reads of which the last wasn't Ok: the key that it took may be missing, and wasn't
-- given
pub record KeepsAllButLast (past past_after : List DiskState) (given : ℕ) (taken last : List ℕ)
    : Type 0 where
  pub each : Throughout (LeavesBetween (kept_keys past) (kept_keys past ++ taken ++ last)) past past_after
  pub safe : Newest (LeavesOneOf (kept_keys past ++ taken) last) past_after
  pub within : Newest (λ _. given ≤ length (kept_keys past ++ taken)) past_after
  pub behind : (taken ++ last ≡ []) ⊎ Newest (λ _. given ≡ length (kept_keys past ++ taken)) past_after

-- how many answers of reads that were Ok were the end; where the answer before them wasn't the end, also
-- what the last one was
pub record CountsEnds {S D : Type 0} (left : S → Option (List ℕ)) (past : D → List DiskState)
    (first now : PlainJournalKeys S D) : Type 0 where
  pub ends : ℕ
  -- each read gave one key or was the end
  pub counted : now.reads < 2 ^ 64 - 1 →
      now.reads + first.given ≡ first.reads + now.given + ends
  pub noted : first.ended ≡ false → ends ≡ 0 → now.ended ≡ false
  pub at_end : first.ended ≡ false → now.ended ≡ true →
      IsAtEnd (left now.inner) × (drop now.given (kept_keys (past now.disk)) ≡ [])
  -- over the reads, where source and disk are told, no key comes after the end
  pub stays : first.ended ≡ false → IsSome (left first.inner) → past now.disk ≢ [] →
      (ends ≡ 0) ⊎ (now.ended ≡ true)

-- over reads of which the last wasn't Ok, how many answers were the end; where both are told, no key was taken after
-- the end
pub record CountsJournalFault {S D : Type 0} (left : S → Option (List ℕ)) (past : D → List DiskState)
    (first now : PlainJournalKeys S D) (last : List ℕ) : Type 0 where
  pub ends : ℕ
  -- each read but the last one gave one key or was the end
  pub counted : now.reads < 2 ^ 64 - 1 →
      now.reads + first.given ≡ first.reads + now.given + ends + 1
  pub none_behind : first.ended ≡ false → IsSome (left first.inner) → past now.disk ≢ [] →
      (ends ≡ 0) ⊎ (last ≡ [])

-- a journal after some reads that were Ok
pub record LeadsTo {S D : Type 0} (left : S → Option (List ℕ)) (source_faults : S → ℕ)
    (leads_to : S → S → Type 0) (past : D → List DiskState) (disk_faults : D → ℕ)
    (first now : PlainJournalKeys S D) : Type 0 where
  pub source : leads_to first.inner now.inner
  pub source_same : source_faults now.inner ≡ source_faults first.inner
  pub disk_same : disk_faults now.disk ≡ disk_faults first.disk
  -- the bytes that were taken from the source over some reads of the journal
  pub taken : List ℕ
  pub consumes : Consumes (left first.inner) (left now.inner) taken
  pub given_later : first.given ≤ now.given
  pub counts : CountsEnds left past first now
  pub keeps : first.given ≤ length (kept_keys (past first.disk)) →
      Newest (LeavesOnly (kept_keys (past first.disk))) (past first.disk) →
      KeepsAll (past first.disk) (past now.disk) now.given taken

-- a journal after some reads that were Ok and then one that wasn't
pub record BreaksAt {S D : Type 0} (left : S → Option (List ℕ)) (source_faults : S → ℕ)
    (leads_to breaks_at : S → S → Type 0) (past : D → List DiskState) (disk_faults : D → ℕ)
    (first now : PlainJournalKeys S D) : Type 0 where
  pub source : leads_to first.inner now.inner ⊎ breaks_at first.inner now.inner
  pub source_later : source_faults first.inner ≤ source_faults now.inner
  pub disk_later : disk_faults first.disk ≤ disk_faults now.disk
  -- the bytes that were taken from the source, and what the last read took
  pub taken : List ℕ
  pub last : List ℕ
  pub few : length last ≤ 1
  pub consumes : Consumes (left first.inner) (left now.inner) (taken ++ last)
  pub given_later : first.given ≤ now.given
  pub counts : CountsJournalFault left past first now last
  pub keeps : first.given ≤ length (kept_keys (past first.disk)) →
      Newest (LeavesOnly (kept_keys (past first.disk))) (past first.disk) →
      KeepsAllButLast (past first.disk) (past now.disk) now.given taken last

-- over no read a journal keeps all: a disk that doesn't change leaves the same
keeps_itself : (past : List DiskState) (given : ℕ) → given ≤ length (kept_keys past) →
    Newest (LeavesOnly (kept_keys past)) past → KeepsAll past past given []
keeps_itself [] given few safe = record { each = refl; safe = tt; within = tt; behind = inl refl }
keeps_itself (state ∷ past) given few safe = record {
  each = ([], refl, tt);
  safe = subst (λ (keys : List ℕ). LeavesOnly keys state) (sym (append-nil (kept_keys (state ∷ past)))) safe;
  within = subst (λ (keys : List ℕ). given ≤ length keys) (sym (append-nil (kept_keys (state ∷ past)))) few;
  behind = inl refl;
}

-- nothing is taken of a source that isn't read
takes_none : (left : Option (List ℕ)) → Consumes left left []
takes_none None = tt
takes_none (Some left) = refl

-- a journal over no read: it leads to itself
pub leads_to_itself : {S D : Type 0} (left : S → Option (List ℕ)) (source_faults : S → ℕ)
    (leads_to : S → S → Type 0) → ((source : S) → leads_to source source) →
    (past : D → List DiskState) (disk_faults : D → ℕ) (journal : PlainJournalKeys S D) →
    LeadsTo left source_faults leads_to past disk_faults journal journal
leads_to_itself left source_faults leads_to itself past disk_faults journal = record {
  source = itself journal.inner;
  source_same = refl;
  disk_same = refl;
  taken = [];
  consumes = takes_none (left journal.inner);
  given_later = le_refl journal.given;
  counts = record {
    ends = 0;
    counted = λ few. sym (add-zero (journal.reads + journal.given));
    noted = λ first none. first;
    at_end = λ first ended. absurd (true≢false (sym ended ∙ first));
    stays = λ first told disk. inl refl;
  };
  keeps = λ few safe. keeps_itself (past journal.disk) journal.given few safe;
}
