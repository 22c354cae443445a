-- A journal is opened by one sync, and cleared by shutting its first gate.
use Rattle.std.proofs.Common.{◌≡◌, ℕ, ◌⊎◌, inl, inr, List, [], ◌∷◌, drop, refl, sym, ap, ◌∙◌, subst, arith, Ok, Err, Result}
use Rattle.std.specs.Prelude.{OnOk, OnErr}
use Rattle.synth_outside.specs.Cause.{HasCause}
use Rattle.key_journal.specs.ClearedJournal.{Clears, CouldLeave, LeavesNothingOr}
use Rattle.key_journal.specs.Crash.{LeavesAtLeast, LeavesOnly, Throughout}
use Rattle.key_journal.specs.Disk.{DiskState, Leaves, Newest, Syncs, Tears, Torn, WritesToDisk, with_range, with_sync, overwritten}
use Rattle.key_journal.specs.OpenedJournal.{OpensDisk}
use Rattle.key_journal.specs.Recovered.{recovered, kept_keys}
use Rattle.key_journal.specs.declared.disk.DiskFault.{DiskFault}
use Rattle.key_journal.proofs.Blocks.{shut_recovers, torn_first}
use Rattle.key_journal.proofs.Moments.{newest_after, throughout_same, throughout_one}
use Rattle.key_journal.proofs.ReadKeys.{sync_leaves}
use Rattle.key_journal.specs.Private.ReadImage.{torn_written}
use Rattle.key_journal.proofs.FoundKeys.{synced_leaves}

-- once it is synced, a crash leaves the kept keys alone
pub sync_safe : (past now : List DiskState) → Syncs past now → Newest (LeavesOnly (kept_keys past)) now
sync_safe [] now syncs =
    subst (λ (states : List DiskState). Newest (LeavesOnly []) states) (sym syncs) tt
sync_safe (state ∷ past) now syncs =
    subst (λ (states : List DiskState). Newest (LeavesOnly (recovered state.bytes)) states) (sym syncs)
    (synced_leaves (with_sync state) (record { none = refl; synced = refl; reads = refl }))

pub opens_disk : {D : Type 0} (past : D → List DiskState) (faults : D → ℕ) (disk now : D) →
    Syncs (past disk) (past now) →
    HasCause {T = Unit {0}} DiskFault.Failed (faults disk) (faults now) (Ok tt) →
    OpensDisk {D = D} {T = Unit {0}} past faults disk now (Ok tt)
opens_disk past faults disk now syncs cause = record {
  each = sync_leaves (past disk) (past now) syncs;
  safe = sync_safe (past disk) (past now) syncs;
  same = tt;
  cause = cause;
}

-- a state whose first byte was torn
first_torn : (state : DiskState) (past : List DiskState) (bytes : List ℕ) → LeavesAtLeast 1 state →
    Torn 0 1 state.bytes bytes → LeavesNothingOr (state ∷ past) (with_range state 0 1 bytes)
first_torn state past bytes least torn = record {
  images = λ image left. could image left (torn_first left.0 image (least.images left.0 left.1) left.2);
  reads = torn_first state.bytes bytes least.reads torn;
} where
  could : (image : List ℕ) → (left : (earlier : List ℕ) × Leaves state.synced state.pending earlier × Torn 0 1 earlier image) →
      (recovered image ≡ []) ⊎ (recovered image ≡ recovered left.0) →
      (recovered image ≡ []) ⊎ CouldLeave (state ∷ past) (recovered image)
  could image left (inl none) = inl none
  could image left (inr same) = inr (left.0, left.1, same)

-- what holds at each moment holds of the newest state, since the call changed nothing before
clears_so : {E : Type 0} (past now : List DiskState) (result : Result (Unit {0}) E) →
    Throughout (LeavesNothingOr past) past now → OnOk result (Newest (LeavesOnly []) now) →
    Clears {E = E} past now result
clears_so [] now result each cleared =
    record { each = each; after = newest_after (LeavesNothingOr []) [] now tt each; cleared = cleared }
clears_so (state ∷ past) now result each cleared = record {
  each = each;
  after = newest_after (LeavesNothingOr (state ∷ past)) (state ∷ past) now
      (record { images = λ image left. inr (image, left, refl); reads = inr refl }) each;
  cleared = cleared;
}

pub clear_fails : {E : Type 0} (past now : List DiskState) (fault : E) → Newest (LeavesAtLeast 1) past →
    Tears 0 1 past now → Clears {E = E} past now (Err fault)
clear_fails [] now fault least tears = clears_so [] now (Err fault) tears tt
clear_fails (state ∷ past) now fault least tears =
    let each : Throughout (LeavesNothingOr (state ∷ past)) (state ∷ past) now = elim tears [
      | inl same ↦ throughout_same _ (state ∷ past) now same
      | inr torn ↦ throughout_one _ state past _ now torn.2 (first_torn state past torn.0 least torn.1)
    ] in
    clears_so (state ∷ past) now (Err fault) each tt

-- nothing is recovered behind a first gate that was shut
zero_first : (bytes : List ℕ) → recovered (overwritten bytes 0 (0 ∷ [])) ≡ []
zero_first bytes = shut_recovers 0 (drop 1 bytes) (λ never. cc)

pub clear_ends : {E : Type 0} (past between now : List DiskState) (result : Result (Unit {0}) E) →
    Newest (LeavesAtLeast 1) past → WritesToDisk 0 (0 ∷ []) past between →
    OnOk result (Syncs between now) → OnErr result (now ≡ between) → Clears {E = E} past now result
clear_ends [] between now (Ok done) least writes syncs same =
    let none : now ≡ [] = subst (λ (states : List DiskState). Syncs states now) writes syncs in
    clears_so [] now (Ok done) none (subst (λ (states : List DiskState). Newest (LeavesOnly []) states) (sym none) tt)
clear_ends [] between now (Err fault) least writes syncs same =
    clears_so [] now (Err fault) (same ∙ writes) tt
clear_ends (state ∷ past) between now (Ok done) least writes syncs same =
    let next : DiskState = with_range state 0 1 (overwritten state.bytes 0 (0 ∷ [])) in
    let is : now ≡ with_sync next ∷ next ∷ state ∷ past = subst (λ (states : List DiskState). Syncs states now) writes syncs in
    let torn : LeavesNothingOr (state ∷ past) next =
    first_torn state past (overwritten state.bytes 0 (0 ∷ [])) least
    (torn_written 0 (0 ∷ []) state.bytes (omega arith)) in
    clears_so (state ∷ past) now (Ok done) (
      with_sync next ∷ next ∷ [],
      is,
      (
        record {
          images = λ image left. inl (ap recovered left ∙ zero_first state.bytes);
          reads = inl (zero_first state.bytes);
        },
        (torn, tt),
      ),
    )
    (subst (λ (states : List DiskState). Newest (LeavesOnly []) states) (sym is)
    (record {
      images = λ image left. ap recovered left ∙ zero_first state.bytes;
      reads = zero_first state.bytes;
    }))
clear_ends (state ∷ past) between now (Err fault) least writes syncs same =
    clears_so (state ∷ past) now (Err fault)
    (throughout_one _ state past _ now (same ∙ writes)
    (first_torn state past (overwritten state.bytes 0 (0 ∷ [])) least
    (torn_written 0 (0 ∷ []) state.bytes (omega arith))))
    tt
