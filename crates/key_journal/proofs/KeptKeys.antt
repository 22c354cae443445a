-- A key is kept: it is written behind its gate, and then the gate is opened.
use Rattle.std.proofs.Common.{◌≡◌, ℕ, ◌+◌, ◌*◌, ◌≤◌, ◌⊎◌, inl, List, [], ◌∷◌, ◌++◌, length, refl, sym, ap, ◌∙◌, subst, arith, length-append, Ok, Err, Result}
use Rattle.std.proofs.lemmas.Result.{on_ok_weaker}
use Rattle.key_journal.specs.Crash.{LeavesOnly, LeavesOneOf, Throughout}
use Rattle.key_journal.specs.Disk.{DiskState, Torn, Newest, disk_bytes, overwritten as written_to}
use Rattle.key_journal.specs.Recovered.{recovered, kept_keys}
use Rattle.key_journal.specs.Private.Keeping.{KeepsKey}
use Rattle.key_journal.specs.Private.Stages.{IsAppending, IsShut, blocks}
use Rattle.key_journal.specs.Private.Writes.{IsSynced, IsSyncedAs, IsTornFrom, WritesSynced}
use Rattle.key_journal.proofs.Blocks.{HasKey, length_blocks, torn_key, written_key, torn_gate, written_gate, shut_count}
use Rattle.key_journal.proofs.Moments.{throughout_both, throughout_weaker}
use Rattle.key_journal.proofs.SyncedWrites.{synced_images}

-- a crash leaves these keys, with the next one behind a gate that isn't open
pub record Stands (given key : ℕ) (keys : List ℕ) (state : DiskState) : Type 0 where
  pub synced : IsSynced state
  pub has : HasKey given key state.bytes
  pub same : has.keys ≡ keys

-- the key stands behind its gate
pub record PutsKey (given key : ℕ) (past between : List DiskState) : Type 0 where
  pub each : Throughout (LeavesOneOf (kept_keys past) (key ∷ [])) past between
  pub stands : Newest (Stands given key (kept_keys past)) between

-- the gate's place and the key's are within the disk
pub key_within : (given : ℕ) (past : List DiskState) → Newest (IsAppending given) past →
    Newest (λ state. 2 * given + 1 ≤ length state.bytes) past
key_within given [] appending = tt
key_within given (state ∷ past) appending =
    let shut : IsShut given state.bytes = appending.shut in
    let total : length state.bytes ≡ length (blocks shut.keys) + (1 + length shut.rest) =
    rw (shut.whole, length-append) (omega arith) in
    omega (arith, total, length_blocks shut.keys, shut.many)

pub gate_within : (given key : ℕ) (keys : List ℕ) (past : List DiskState) →
    Newest (Stands given key keys) past → Newest (λ state. 2 * given ≤ length state.bytes) past
gate_within given key keys [] stands = tt
gate_within given key keys (state ∷ past) stands =
    let has : HasKey given key state.bytes = stands.has in
    let total : length state.bytes ≡ length (blocks has.keys) + (3 + length has.rest) =
    rw (has.whole, length-append) (omega arith) in
    omega (arith, total, length_blocks has.keys, has.many)

-- such a disk is synced
pub appending_synced : (given : ℕ) (past : List DiskState) → Newest (IsAppending given) past →
    Newest IsSynced past
appending_synced given [] appending = tt
appending_synced given (state ∷ past) appending = appending.synced

pub stands_synced : (given key : ℕ) (keys : List ℕ) (past : List DiskState) →
    Newest (Stands given key keys) past → Newest IsSynced past
stands_synced given key keys [] stands = tt
stands_synced given key keys (state ∷ past) stands = stands.synced

-- while the key is written, the same keys are recovered
pub key_moments : (given key : ℕ) (past between : List DiskState) → Newest (IsAppending given) past →
    Throughout (IsTornFrom (2 * given + 1) 2 (disk_bytes past)) past between →
    Throughout (LeavesOneOf (kept_keys past) (key ∷ [])) past between
key_moments given key [] between appending each = each
key_moments given key (state ∷ past) between appending each =
    throughout_weaker _ _ (state ∷ past) between
    (λ (next : DiskState) (torn : IsTornFrom (2 * given + 1) 2 state.bytes next). record {
      images = λ image left. inl (torn_key given state.bytes image appending.shut (torn.images image left));
      reads = inl (torn_key given state.bytes next.bytes appending.shut torn.reads);
    })
    each

-- once it is written it stands there
key_stands : (given key : ℕ) (past between : List DiskState) → Newest (IsAppending given) past →
    Throughout (IsTornFrom (2 * given + 1) 2 (disk_bytes past)) past between →
    Newest (IsSyncedAs (written_to (disk_bytes past) (2 * given + 1) (key ∷ 0 ∷ []))) between →
    Newest (Stands given key (kept_keys past)) between
key_stands given key [] between appending each done =
    subst (λ (states : List DiskState). Newest (Stands given key []) states) (sym each) tt
key_stands given key (state ∷ past) [] appending each done = tt
key_stands given key (state ∷ past) (next ∷ between) appending each done =
    let bytes : List ℕ = written_to state.bytes (2 * given + 1) (key ∷ 0 ∷ []) in
    let there : (has : HasKey given key bytes) × (has.keys ≡ recovered state.bytes) =
    let put : (has : HasKey given key bytes) × (has.keys ≡ appending.shut.keys) =
    written_key given key state.bytes appending.shut in
    (put.0, put.1 ∙ sym (shut_count given state.bytes appending.shut)) in
    let here : (has : HasKey given key next.bytes) × (has.keys ≡ recovered state.bytes) =
    subst (λ (bytes : List ℕ). (has : HasKey given key bytes) × (has.keys ≡ recovered state.bytes)) (sym done.reads) there in
    record {
      synced = record { none = done.none; synced = done.synced ∙ sym done.reads; reads = refl };
      has = here.0;
      same = here.1;
    }

pub puts_key : {E : Type 0} (given key : ℕ) (past between : List DiskState) →
    Newest (IsAppending given) past →
    WritesSynced {E = E} (2 * given + 1) (key ∷ 0 ∷ []) past between (Ok tt) →
    PutsKey given key past between
puts_key given key past between appending written = record {
  each = key_moments given key past between appending written.each;
  stands = key_stands given key past between appending written.each written.done;
}

-- where the key isn't written whole
pub key_fails : {E : Type 0} (given key : ℕ) (past now : List DiskState) (fault : E) →
    Newest (IsAppending given) past →
    Throughout (IsTornFrom (2 * given + 1) 2 (disk_bytes past)) past now →
    KeepsKey {E = E} given key past now (Err fault)
key_fails given key past now fault appending each =
    record { each = key_moments given key past now appending each; safe = tt; holds = tt }

-- while the gate is opened, the key is recovered or isn't
gate_moments : (given key : ℕ) (keys : List ℕ) (between now : List DiskState) →
    Newest (Stands given key keys) between →
    Throughout (IsTornFrom (2 * given) 1 (disk_bytes between)) between now →
    Throughout (LeavesOneOf keys (key ∷ [])) between now
gate_moments given key keys [] now stands each = each
gate_moments given key keys (state ∷ past) now stands each =
    let one_of : (image : List ℕ) → Torn (2 * given) 1 state.bytes image →
    (recovered image ≡ keys) ⊎ (recovered image ≡ keys ++ key ∷ []) = λ image torn.
    subst (λ (keys : List ℕ). (recovered image ≡ keys) ⊎ (recovered image ≡ keys ++ key ∷ [])) stands.same
    (torn_gate given key state.bytes image stands.has torn) in
    throughout_weaker _ _ (state ∷ past) now
    (λ (next : DiskState) (torn : IsTornFrom (2 * given) 1 state.bytes next). record {
      images = λ image left. one_of image (torn.images image left);
      reads = one_of next.bytes torn.reads;
    })
    each

-- once it is open
gate_open : (given key : ℕ) (keys : List ℕ) (between now : List DiskState) →
    Newest (Stands given key keys) between →
    Throughout (IsTornFrom (2 * given) 1 (disk_bytes between)) between now →
    Newest (IsSyncedAs (written_to (disk_bytes between) (2 * given) (1 ∷ []))) now →
    Newest (LeavesOnly (keys ++ key ∷ [])) now × Newest (IsAppending (given + 1)) now
gate_open given key keys [] now stands each done =
    subst (λ (states : List DiskState). Newest (LeavesOnly (keys ++ key ∷ [])) states × Newest (IsAppending (given + 1)) states) (sym each) (tt, tt)
gate_open given key keys (state ∷ past) [] stands each done = (tt, tt)
gate_open given key keys (state ∷ past) (next ∷ now) stands each done =
    let there : (shut : IsShut (given + 1) (written_to state.bytes (2 * given) (1 ∷ []))) × (shut.keys ≡ stands.has.keys ++ key ∷ []) =
    written_gate given key state.bytes stands.has in
    let here : (shut : IsShut (given + 1) next.bytes) × (shut.keys ≡ stands.has.keys ++ key ∷ []) =
    subst (λ (bytes : List ℕ). (shut : IsShut (given + 1) bytes) × (shut.keys ≡ stands.has.keys ++ key ∷ [])) (sym done.reads) there in
    let found : recovered next.bytes ≡ keys ++ key ∷ [] =
    shut_count (given + 1) next.bytes here.0 ∙ here.1 ∙ ap (λ (keys : List ℕ). keys ++ key ∷ []) stands.same in
    let synced : IsSynced next = record { none = done.none; synced = done.synced ∙ sym done.reads; reads = refl } in (
      record {
        images = λ image left. ap recovered (synced_images next.bytes next synced image left) ∙ found;
        reads = found;
      },
      record { synced = synced; shut = here.0 },
    )

-- both writes, whatever the second answers
pub keeps_key : {E : Type 0} (given key : ℕ) (past between now : List DiskState)
    (result : Result (Unit {0}) E) → PutsKey given key past between →
    WritesSynced {E = E} (2 * given) (1 ∷ []) between now result →
    KeepsKey {E = E} given key past now result
keeps_key given key past between now result puts written =
    let whole : Newest (IsSyncedAs (written_to (disk_bytes between) (2 * given) (1 ∷ []))) now →
    Newest (LeavesOnly (kept_keys past ++ key ∷ [])) now × Newest (IsAppending (given + 1)) now =
    gate_open given key (kept_keys past) between now puts.stands written.each in
    record {
      each = throughout_both _ past between now puts.each
          (gate_moments given key (kept_keys past) between now puts.stands written.each);
      safe = on_ok_weaker result (λ done. (whole done).0) written.done;
      holds = on_ok_weaker result (λ done. (whole done).1) written.done;
    }
