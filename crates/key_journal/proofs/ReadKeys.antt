-- The next key: a kept one, or one that is taken from the source and kept.
use Rattle.std.proofs.Common.{◌≡◌, ℕ, ◌⊎◌, inl, inr, List, [], ◌∷◌, ◌++◌, length, drop, refl, sym, ap, ◌∙◌, subst, arith, append-nil, Ok, Err, Result, Some, None, Option}
use Rattle.std.specs.Prelude.{slice_get, IfOk}
use Rattle.std.specs.Io.KnownBytes.{Consumes, IsAtEnd}
use Rattle.synth_outside.specs.Source.{LosesAtMost}
use Rattle.std.proofs.Math.ListN.{drop_of_length-le}
use Rattle.std.proofs.KnownBytes.{Consumes-nil}
use Rattle.key_journal.specs.Crash.{LeavesOnly, LeavesOneOf, Throughout}
use Rattle.key_journal.specs.Disk.{DiskState, Newest, Syncs, with_sync}
use Rattle.key_journal.specs.JournalRead.{NextOrEnd, Gave, ReadsKey}
use Rattle.key_journal.specs.Recovered.{recovered, kept_keys}
use Rattle.key_journal.specs.Private.Keeping.{FindsKey, KeepsKey, Replays, ReplaysAt}
use Rattle.key_journal.specs.Private.Stages.{IsAppending}
use Rattle.key_journal.specs.declared.stage.Stage.{Stage}
use Rattle.key_journal.proofs.Blocks.{shut_count}
use Rattle.key_journal.proofs.FoundKeys.{get_seam, synced_leaves}
use Rattle.key_journal.proofs.Moments.{throughout_same, throughout_one, throughout_both, throughout_weaker, newest_after}

-- where all keys were given, none is left on the disk
none_behind : (given : ℕ) (past : List DiskState) → Newest (IsAppending given) past →
    drop given (kept_keys past) ≡ []
none_behind given [] appending = drop_of_length-le [] (omega arith)
none_behind given (state ∷ past) appending =
    let many : length (recovered state.bytes) ≡ given =
    ap length (shut_count given state.bytes appending.shut) ∙ appending.shut.many in
    drop_of_length-le (recovered state.bytes) (omega arith)

-- the source failed, and may have lost a byte
pub source_fails : {E : Type 0} (left left_after : Option (List ℕ)) (given : ℕ)
    (past : List DiskState) (answered : E) → Newest (IsAppending given) past →
    LosesAtMost left left_after 1 → ReadsKey {E = E} left left_after given past past (Err answered)
source_fails left left_after given past answered appending lost = record {
  taken = lost.0;
  few = lost.1;
  consumes = lost.2;
  behind = inr (none_behind given past appending);
  each = throughout_same _ past past refl;
  answer = tt;
}

-- the source is at its end
appending_leaves : (given : ℕ) (past : List DiskState) → Newest (IsAppending given) past →
    Newest (LeavesOnly (kept_keys past)) past
appending_leaves given [] appending = tt
appending_leaves given (state ∷ past) appending = synced_leaves state appending.synced

pub source_ends : {E : Type 0} (left left_after : Option (List ℕ)) (given : ℕ)
    (past : List DiskState) → Newest (IsAppending given) past →
    Consumes left left_after [] × IsAtEnd left_after →
    ReadsKey {E = E} left left_after given past past (Ok None)
source_ends left left_after given past appending ends = record {
  taken = [];
  few = omega arith;
  consumes = ends.0;
  behind = inl refl;
  each = throughout_same _ past past refl;
  answer = record {
    source = ends.1;
    none = refl;
    all = none_behind given past appending;
    safe = appending_leaves given past appending;
  };
}

-- a byte was taken, and couldn't be kept
pub keep_fails : {E F : Type 0} (left left_after : Option (List ℕ)) (given key : ℕ)
    (past now : List DiskState) (fault : E) (answered : F) → Newest (IsAppending given) past →
    Consumes left left_after (key ∷ []) → KeepsKey {E = E} given key past now (Err fault) →
    ReadsKey {E = F} left left_after given past now (Err answered)
keep_fails left left_after given key past now fault answered appending gives keeps = record {
  taken = key ∷ [];
  few = omega arith;
  consumes = gives;
  behind = inr (none_behind given past appending);
  each = keeps.each;
  answer = tt;
}

-- it was kept
key_gave : (given key : ℕ) (past now : List DiskState) → Newest (IsAppending given) past →
    Throughout (LeavesOneOf (kept_keys past) (key ∷ [])) past now →
    Newest (LeavesOnly (kept_keys past ++ key ∷ [])) now →
    Newest (Gave given key (kept_keys past ++ key ∷ [])) now
key_gave given key [] now appending each safe =
    subst (λ (states : List DiskState). Newest (Gave given key (key ∷ [])) states) (sym each) tt
key_gave given key (state ∷ past) [] appending each safe = tt
key_gave given key (state ∷ past) (next ∷ now) appending each safe =
    let many : length (recovered state.bytes) ≡ given =
    ap length (shut_count given state.bytes appending.shut) ∙ appending.shut.many in
    record {
      safe = safe;
      next = subst (λ (place : ℕ). slice_get (recovered state.bytes ++ key ∷ []) place ≡ Some key) many
          (get_seam (recovered state.bytes) [] key);
    }

pub keep_done : {E F : Type 0} (left left_after : Option (List ℕ)) (given key : ℕ)
    (past now : List DiskState) → Newest (IsAppending given) past →
    Consumes left left_after (key ∷ []) → KeepsKey {E = E} given key past now (Ok tt) →
    ReadsKey {E = F} left left_after given past now (Ok (Some key))
keep_done left left_after given key past now appending gives keeps = record {
  taken = key ∷ [];
  few = omega arith;
  consumes = gives;
  behind = inr (none_behind given past appending);
  each = keeps.each;
  answer = key_gave given key past now appending keeps.each keeps.safe;
}

only_one_of : (keys taken : List ℕ) (past now : List DiskState) → Throughout (LeavesOnly keys) past now →
    Throughout (LeavesOneOf keys taken) past now
only_one_of keys taken past now each =
    throughout_weaker _ _ past now
    (λ (state : DiskState) (only : LeavesOnly keys state). record {
      images = λ image left. inl (only.images image left);
      reads = inl only.reads;
    })
    each

-- a kept key was found
pub found_kept : {E F : Type 0} (left : Option (List ℕ)) (given key : ℕ) (past now : List DiskState) →
    Replays {E = E} given past now (Ok (Some key)) →
    ReadsKey {E = F} left left given past now (Ok (Some key))
found_kept left given key past now replays = record {
  taken = [];
  few = omega arith;
  consumes = Consumes-nil left;
  behind = inl refl;
  each = only_one_of (kept_keys past) [] past now replays.each;
  answer = subst (λ (keys : List ℕ). Newest (Gave given key keys) now) (sym (append-nil (kept_keys past))) replays.found.0;
}

-- a call after which the same keys are recovered
pub same_kept : (past now : List DiskState) → Throughout (LeavesOnly (kept_keys past)) past now →
    kept_keys now ≡ kept_keys past
same_kept [] now each = ap kept_keys each
same_kept (state ∷ past) now each =
    let reads : Newest (λ next. recovered next.bytes ≡ recovered state.bytes) now =
    newest_after _ (state ∷ past) now refl
    (throughout_weaker _ _ (state ∷ past) now (λ (next : DiskState) (only : LeavesOnly (recovered state.bytes) next). only.reads) each) in
    newest_kept now each reads where
      not_none : (added : List DiskState) → [] ≡ added ++ state ∷ past → ⊥
      not_none [] never = cc
      not_none (first ∷ added) never = cc

      newest_kept : (now : List DiskState) → Throughout (LeavesOnly (recovered state.bytes)) (state ∷ past) now →
          Newest (λ next. recovered next.bytes ≡ recovered state.bytes) now → kept_keys now ≡ recovered state.bytes
      newest_kept [] each reads = absurd (not_none each.0 each.1)
      newest_kept (next ∷ now) each reads = reads

-- a read goes on after a call after which the same keys are recovered
pub read_behind : {E : Type 0} (left left_after : Option (List ℕ)) (given : ℕ)
    (past between now : List DiskState) (result : Result (Option ℕ) E) →
    Throughout (LeavesOnly (kept_keys past)) past between →
    ReadsKey {E = E} left left_after given between now result →
    ReadsKey {E = E} left left_after given past now result
read_behind left left_after given past between now result each reads =
    let same : kept_keys between ≡ kept_keys past = same_kept past between each in
    record {
      taken = reads.taken;
      few = reads.few;
      consumes = reads.consumes;
      behind = subst (λ (keys : List ℕ). (reads.taken ≡ []) ⊎ (drop given keys ≡ [])) same reads.behind;
      each = throughout_both _ past between now (only_one_of (kept_keys past) reads.taken past between each)
          (subst (λ (keys : List ℕ). Throughout (LeavesOneOf keys reads.taken) between now) same reads.each);
      answer = subst (λ (keys : List ℕ). IfOk result (λ key. NextOrEnd key left_after given keys reads.taken now)) same reads.answer;
    }

-- a disk that is synced first
pub sync_leaves : (past between : List DiskState) → Syncs past between →
    Throughout (LeavesOnly (kept_keys past)) past between
sync_leaves [] between syncs = syncs
sync_leaves (state ∷ past) between syncs =
    throughout_one _ state past (with_sync state) between syncs
    (synced_leaves (with_sync state) (record { none = refl; synced = refl; reads = refl }))

pub replay_behind : {E : Type 0} (stage : Stage) (given : ℕ) (past between now : List DiskState)
    (result : Result (Option ℕ) E) → Throughout (LeavesOnly (kept_keys past)) past between →
    ReplaysAt {E = E} stage given between now result → ReplaysAt {E = E} stage given past now result
replay_behind stage given past between now result each replays =
    let same : kept_keys between ≡ kept_keys past = same_kept past between each in
    record {
      replays = record {
        each = throughout_both _ past between now each
            (subst (λ (keys : List ℕ). Throughout (LeavesOnly keys) between now) same replays.replays.each);
        found = subst (λ (keys : List ℕ). IfOk result (λ key. FindsKey key given keys now)) same replays.replays.found;
      };
      stage_is = replays.stage_is;
    }
