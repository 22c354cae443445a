-- A write that is synced at once, over a disk that is synced.
use Rattle.std.proofs.Common.{◌≡◌, ℕ, ◌+◌, ◌-◌, ◌≤◌, inl, inr, List, [], ◌∷◌, ◌++◌, length, take, refl, sym, ◌∙◌, subst, arith, Ok, Err}
use Rattle.std.proofs.lemmas.Grind.{common_steps}
use Rattle.key_journal.specs.Disk.{DiskState, Torn, Leaves, MayLeave, Newest, WritesToDisk, Tears, Syncs, overwritten, with_range, with_sync}
use Rattle.key_journal.specs.Private.ReadImage.{torn_written}
use Rattle.key_journal.specs.Private.Writes.{IsSyncedAs, IsSynced, IsTornFrom, WritesSynced}
use Rattle.key_journal.proofs.Moments.{throughout_same, throughout_one}

-- whole bytes are torn ones of themselves
pub torn_same : (at count : ℕ) (bytes : List ℕ) → Torn at count bytes bytes
torn_same at count bytes =
    record { front = refl; back = refl; no_shorter = omega arith; no_longer = omega arith }

-- what a crash leaves of a synced state
pub synced_images : (bytes : List ℕ) (state : DiskState) → IsSyncedAs bytes state →
    (image : List ℕ) → MayLeave state image → image ≡ bytes
synced_images bytes state synced image left =
    let family : List (ℕ × ℕ) → Type 0 = λ pending. Leaves state.synced pending image in
    subst family synced.none left ∙ synced.synced

-- what a crash leaves once a range of a synced state was torn
pub torn_state : (state : DiskState) (at count : ℕ) (bytes : List ℕ) → IsSynced state →
    Torn at count state.bytes bytes → IsTornFrom at count state.bytes (with_range state at count bytes)
torn_state state at count bytes synced torn = record {
  images = λ image left.
      let family : List ℕ → Type 0 = λ earlier. Torn at count earlier image in
      subst family (synced_images state.bytes state synced left.0 left.1) left.2;
  reads = torn;
}

-- the write itself isn't Ok
pub write_fails : {E : Type 0} (at : ℕ) (piece : List ℕ) (before now : List DiskState)
    (fault : E) → Newest IsSynced before → Tears at (length piece) before now →
    WritesSynced {E = E} at piece before now (Err fault)
write_fails at piece [] now fault synced tears = record { each = tears; done = tt }
write_fails at piece (state ∷ past) now fault synced tears = record {
  each = elim tears [
    | inl same ↦ throughout_same _ (state ∷ past) now same
    | inr torn ↦ throughout_one _ state past _ now torn.2 (torn_state state at (length piece) torn.0 synced torn.1)
  ];
  done = tt;
}

-- what a crash leaves once the piece was written
written_state : (at : ℕ) (piece : List ℕ) (state : DiskState) → IsSynced state →
    at ≤ length state.bytes →
    IsTornFrom at (length piece) state.bytes (with_range state at (length piece) (overwritten state.bytes at piece))
written_state at piece state synced within =
    torn_state state at (length piece) (overwritten state.bytes at piece) synced (torn_written at piece state.bytes within)

-- the sync behind it isn't Ok
pub sync_fails : {E : Type 0} (at : ℕ) (piece : List ℕ) (before between now : List DiskState)
    (fault : E) → Newest IsSynced before → Newest (λ state. at ≤ length state.bytes) before →
    WritesToDisk at piece before between → now ≡ between →
    WritesSynced {E = E} at piece before now (Err fault)
sync_fails at piece [] between now fault synced within writes same =
    record { each = same ∙ writes; done = tt }
sync_fails at piece (state ∷ past) between now fault synced within writes same = record {
  each = throughout_one _ state past _ now (same ∙ writes) (written_state at piece state synced within);
  done = tt;
}

-- both are Ok
pub both_done : {E : Type 0} (at : ℕ) (piece : List ℕ) (before between now : List DiskState) →
    Newest IsSynced before → Newest (λ state. at ≤ length state.bytes) before →
    WritesToDisk at piece before between → Syncs between now →
    WritesSynced {E = E} at piece before now (Ok tt)
both_done at piece [] between now synced within writes syncs =
    let none : now ≡ [] = subst (λ (past : List DiskState). Syncs past now) writes syncs in
    record { each = none; done = subst (λ (past : List DiskState). Newest (IsSyncedAs (overwritten [] at piece)) past) (sym none) tt }
both_done at piece (state ∷ past) between now synced within writes syncs =
    let next : DiskState = with_range state at (length piece) (overwritten state.bytes at piece) in
    let is : now ≡ with_sync next ∷ next ∷ state ∷ past = subst (λ (past : List DiskState). Syncs past now) writes syncs in
    let torn : IsTornFrom at (length piece) state.bytes next = written_state at piece state synced within in
    record {
      each = (
        with_sync next ∷ next ∷ [],
        is,
        (
          record {
            images = λ image left. subst (λ (bytes : List ℕ). Torn at (length piece) state.bytes bytes) (sym left) torn.reads;
            reads = torn.reads;
          },
          (torn, tt),
        ),
      );
      done = subst (λ (past : List DiskState). Newest (IsSyncedAs (overwritten state.bytes at piece)) past) (sym is)
          (record { none = refl; synced = refl; reads = refl });
    }
