-- A journal that is closed after the editor's run.
use Rattle.std.proofs.Common.{◌≡◌, ℕ, Bool, false, ◌⊎◌, inl, inr, List, [], ◌∷◌, ◌++◌, refl, sym, ap, ◌∙◌, subst, Option, append-nil}
use Rattle.std.specs.Prelude.{IsTrue}
use Rattle.plcs_base.specs.PlainCounts.{PlainCounts}
use Rattle.synth_outside.specs.Files.{PlainFiles}
use Rattle.key_journal.specs.ClearedJournal.{LeavesNothingOr}
use Rattle.key_journal.specs.Crash.{LeavesOnly, LeavesOneOf}
use Rattle.key_journal.specs.Disk.{DiskState, Newest}
use Rattle.key_journal.specs.Journal.{PlainJournalKeys}
use Rattle.key_journal.specs.Recovered.{kept_keys, recovered}
use Rattle.synth_kept.specs.Closing.{Closing, Closes}
use Rattle.synth_kept.specs.Closing.Closing.{LeftStanding, Cleared, NotCleared}
use Rattle.synth_kept.specs.KeptWholeRun.{JournalWholeRun, JournalSession, KeptTold}
use Rattle.synth_kept.specs.Private.Agreement.{ClosesAsDue, IsToClear}
use Rattle.synth_kept.specs.Private.Clearing.{ClearsKeys}
use Rattle.synth_kept.specs.declared.status.KeptStatus.{KeptStatus}
use Rattle.synth_kept.specs.declared.status.KeptStatus.TheVariants.{Run}
use Rattle.synth_top.specs.declared.status.Status.{Status}
use Rattle.synth_top.specs.declared.status.Status.TheVariants.{Done}
use Rattle.synth_top.specs.Task.{PlainTask}
use Rattle.synth_kept.proofs.Moments.{newest_weaker, throughout_weaker}

-- where a crash left these keys alone, it leaves nothing or them while they are cleared
nothing_or_keys : (keys : List ℕ) (behind : List DiskState) → Newest (LeavesOnly keys) behind →
    (state : DiskState) → LeavesNothingOr behind state → LeavesOneOf [] keys state
nothing_or_keys keys [] safe state either = record {
  images = λ image left. elim (either.images image left) as (λ _. (recovered image ≡ []) ⊎ (recovered image ≡ keys)) [ inl none ↦ inl none | inr never ↦ absurd never ];
  reads = elim either.reads as (λ _. (recovered state.bytes ≡ []) ⊎ (recovered state.bytes ≡ keys)) [ inl none ↦ inl none | inr none ↦ inl none ];
}
nothing_or_keys keys (last ∷ behind) safe state either = record {
  images = λ image left. elim (either.images image left) as (λ _. (recovered image ≡ []) ⊎ (recovered image ≡ keys))
      [ inl none ↦ inl none | inr could ↦ inr (could.2 ∙ safe.images could.0 could.1) ];
  reads = elim either.reads as (λ _. (recovered state.bytes ≡ []) ⊎ (recovered state.bytes ≡ keys)) [ inl none ↦ inl none | inr same ↦ inr (same ∙ safe.reads) ];
}

-- all keys or all and then nothing more are the same
all_of_one : (keys last : List ℕ) → last ≡ [] → (state : DiskState) → LeavesOneOf keys last state → LeavesOnly keys state
all_of_one keys last none state one = record {
  images = λ image left. either (recovered image) (one.images image left);
  reads = either (recovered state.bytes) one.reads;
} where
  either : (found : List ℕ) → (found ≡ keys) ⊎ (found ≡ keys ++ last) → found ≡ keys
  either found (inl same) = same
  either found (inr same) = same ∙ ap (λ (l : List ℕ). keys ++ l) none ∙ append-nil keys

-- a run that is done left all keys
done_safe : (task : Option PlainTask) (run : Status) (closing : Closing) (before now : KeptTold)
    (same_outside after_reads after_fault : Type 0)
    (editing : JournalWholeRun task run closing before now same_outside after_reads after_fault) → run ≡ Done →
    Newest (LeavesOnly (kept_keys before.past ++ editing.taken)) now.past
done_safe task run closing before now same_outside after_reads after_fault editing done =
    newest_weaker _ _ now.past (all_of_one (kept_keys before.past ++ editing.taken) editing.last none_last) editing.safe where
      none_last : editing.last ≡ []
      none_last = elim editing.failed as (λ _. editing.last ≡ []) [
        | inl none ↦ none
        | inr why ↦
            elim why as (λ _. editing.last ≡ []) [ inl fault ↦ absurd (cc (fault, done)) | inr want ↦ absurd (cc (want, done)) ]
      ]

-- a test that failed wasn't passed
pub not_true : (test : Bool) → test ≡ false → IsTrue test → ⊥
not_true test failed passed = cc (failed, passed)

-- equal journals stand on the same source
pub same_inner : {S D : Type 0} (one other : PlainJournalKeys S D) → one ≡ other → one.inner ≡ other.inner
same_inner {S} {D} one other same = ap (λ (journal : PlainJournalKeys S D). journal.inner) same

-- what is told of this source and these states of the disk, beside what was written, the files and what was counted
abbrev pub told_of : {S : Type 0} → (S → Option (List ℕ)) → Option (List ℕ) → ℕ → PlainFiles → PlainCounts → S → List DiskState →
    KeptTold
told_of left written wants files counts source past =
    record { left = left source; past = past; taken = written; wants = wants; files = files; counts = counts }

module _ {S : Type 0} (left : S → Option (List ℕ)) (leads_to breaks_at : S → S → Type 0) (keys first last source : S)
    (same_first : first ≡ keys) (same_last : source ≡ last) (task : Option PlainTask) (run : Status)
    (origin behind : List DiskState) (written written_after : Option (List ℕ)) (wants wants_after : ℕ) (files files_after : PlainFiles)
    (counts counts_after : PlainCounts) (same_outside : Type 0) where
  abbrev pub Editing : Closing → Type 0
  Editing closing =
      JournalWholeRun task run closing (told_of left written wants files counts first origin)
      (told_of left written_after wants_after files_after counts_after last behind) same_outside (leads_to first last) (breaks_at first last)

  abbrev pub Keeps : KeptStatus → List DiskState → Type 0
  Keeps status past =
      JournalSession task status (told_of left written wants files counts keys origin)
      (told_of left written_after wants_after files_after counts_after source past) same_outside (leads_to keys source) (breaks_at keys source)

  keeps : (closing : Closing) (editing : Editing closing) (status : KeptStatus) (past : List DiskState) →
      Closes closing run status (kept_keys origin ++ editing.taken) behind past → Keeps status past
  keeps closing editing status past closed =
      subst (λ (s : S). JournalSession task status (told_of left written wants files counts s origin)
      (told_of left written_after wants_after files_after counts_after source past) same_outside (leads_to s source) (breaks_at s source)) same_first
      (subst (λ (s : S). JournalSession task status (told_of left written wants files counts first origin)
      (told_of left written_after wants_after files_after counts_after s past) same_outside (leads_to first s) (breaks_at first s)) (sym same_last)
      (record { run = run; behind = behind; closing = closing; editing = editing; closed = closed }))

  -- the journal stands
  pub keeps_standing : Editing LeftStanding → (past : List DiskState) → past ≡ behind → Keeps (Run run) past
  keeps_standing editing past same = keeps LeftStanding editing (Run run) past (record { answer = refl; same = same })

  -- a run that is done left all keys
  safe_when_done : (closing : Closing) (editing : Editing closing) → run ≡ Done → Newest (LeavesOnly (kept_keys origin ++ editing.taken)) behind
  safe_when_done closing editing done =
      done_safe task run closing (told_of left written wants files counts first origin)
      (told_of left written_after wants_after files_after counts_after last behind) same_outside (leads_to first last) (breaks_at first last) editing done

  -- it was cleared, or couldn't be
  pub keeps_clearing : (given : ℕ) (ended : Bool) → ((closing : Closing) → ClosesAsDue closing run given ended → Editing closing) →
      IsToClear run given ended → (status : KeptStatus) (past : List DiskState) (faults faults_after : ℕ) →
      ClearsKeys status behind past faults faults_after → Keeps status past
  keeps_clearing given ended edits clear status past faults faults_after (inl all) =
      let editing = edits Cleared clear in
      let safe = safe_when_done Cleared editing clear.done in
      keeps Cleared editing status past (record {
        done = clear.done;
        answer = all.answer;
        each = throughout_weaker _ _ behind past (nothing_or_keys (kept_keys origin ++ editing.taken) behind safe) all.clears.each;
        nothing = all.clears.cleared;
      })
  keeps_clearing given ended edits clear status past faults faults_after (inr failed) =
      let editing = edits (NotCleared failed.fault) clear in
      let safe = safe_when_done (NotCleared failed.fault) editing clear.done in
      keeps (NotCleared failed.fault) editing status past (record {
        done = clear.done;
        answer = failed.answer;
        each = throughout_weaker _ _ behind past (nothing_or_keys (kept_keys origin ++ editing.taken) behind safe) failed.clears.each;
        either = newest_weaker _ _ past (nothing_or_keys (kept_keys origin ++ editing.taken) behind safe) failed.clears.after;
      })
