-- A kept key is found, or a gate that isn't open is put behind the last one.
use Rattle.std.proofs.Common.{◌≡◌, ℕ, ◌+◌, ◌*◌, ◌≤◌, List, [], ◌∷◌, ◌++◌, length, take, drop, refl, sym, ap, ◌∙◌, subst, arith, length-append, Ok, Result, Some, None}
use Rattle.std.specs.Prelude.{slice_get}
use Rattle.std.proofs.lemmas.Grind.{common_steps}
use Rattle.std.proofs.lemmas.Result.{on_ok_weaker}
use Rattle.key_journal.specs.Crash.{LeavesOnly, Throughout}
use Rattle.key_journal.specs.Disk.{DiskState, Newest, disk_bytes, overwritten as written_to}
use Rattle.key_journal.specs.JournalRead.{Gave}
use Rattle.key_journal.specs.Recovered.{recovered, kept_keys}
use Rattle.key_journal.specs.Private.Keeping.{FindsKey, ShutsGate, Replays}
use Rattle.key_journal.specs.Private.Stages.{BeginsWithGate, IsAppending, IsCutOff, IsReplaying, IsShut, blocks}
use Rattle.key_journal.specs.Private.Writes.{IsSynced, IsSyncedAs, IsTornFrom, WritesSynced}
use Rattle.key_journal.specs.declared.stage.GateContent.TheVariants.{Open, Shut, Cut}
use Rattle.key_journal.proofs.Blocks.{blocks_of, recovered_blocks, length_blocks, torn_cut, written_cut}
use Rattle.key_journal.proofs.Moments.{throughout_same, throughout_weaker}
use Rattle.key_journal.proofs.SyncedWrites.{synced_images}

-- what a crash leaves of a synced state
pub synced_leaves : (state : DiskState) → IsSynced state → LeavesOnly (recovered state.bytes) state
synced_leaves state synced = record {
  images = λ image left. ap recovered (synced_images state.bytes state synced image left);
  reads = refl;
}

-- the element at the seam of two lists
pub get_seam : (front rest : List ℕ) (key : ℕ) → slice_get (front ++ key ∷ rest) (length front) ≡ Some key
get_seam [] rest key = refl
get_seam (first ∷ front) rest key = get_seam front rest key

-- the front of a list that is long enough
taken_length : (count : ℕ) (keys : List ℕ) → count ≤ length keys → length (take count keys) ≡ count
taken_length count keys enough = grind (arith, common_steps)

-- an open gate stands after so many keys
found_open : (given key : ℕ) (state : DiskState) → IsReplaying given state →
    BeginsWithGate (Open key) (drop (2 * given) state.bytes) →
    Gave given key (recovered state.bytes) state × IsReplaying (given + 1) state
found_open given key state replaying begins =
    let keys : List ℕ = recovered state.bytes in
    let whole : state.bytes ≡ blocks (take given keys) ++ 1 ∷ key ∷ begins.0 =
    blocks_of given state.bytes replaying.enough ∙ ap (λ (rest : List ℕ). blocks (take given keys) ++ rest) begins.1 in
    let found : keys ≡ take given keys ++ key ∷ recovered begins.0 =
    ap recovered whole ∙ recovered_blocks (take given keys) (1 ∷ key ∷ begins.0) in
    let many : length (take given keys) ≡ given = taken_length given keys replaying.enough in
    let there : slice_get (take given keys ++ key ∷ recovered begins.0) given ≡ Some key =
    subst (λ (place : ℕ). slice_get (take given keys ++ key ∷ recovered begins.0) place ≡ Some key) many
    (get_seam (take given keys) (recovered begins.0) key) in
    let total : length keys ≡ given + (1 + length (recovered begins.0)) =
    ap length found ∙ rw (length-append, many) (omega arith) in (
      record {
        safe = synced_leaves state replaying.synced;
        next = subst (λ (keys : List ℕ). slice_get keys given ≡ Some key) (sym found) there;
      },
      record { synced = replaying.synced; enough = omega (arith, total) },
    )

pub finds_open : (given key : ℕ) (past : List DiskState) → Newest (IsReplaying given) past →
    Newest (λ state. BeginsWithGate (Open key) (drop (2 * given) state.bytes)) past →
    FindsKey (Some key) given (kept_keys past) past
finds_open given key [] replaying begins = (tt, tt)
finds_open given key (state ∷ past) replaying begins = found_open given key state replaying begins

-- a gate that isn't open stands there
pub finds_shut : (given : ℕ) (past : List DiskState) → Newest (IsReplaying given) past →
    Newest (λ state. BeginsWithGate Shut (drop (2 * given) state.bytes)) past →
    Newest (IsAppending given) past
finds_shut given [] replaying begins = tt
finds_shut given (state ∷ past) replaying begins = record {
  synced = replaying.synced;
  shut = record {
    keys = take given (recovered state.bytes);
    gate = begins.0;
    rest = begins.1;
    whole = blocks_of given state.bytes replaying.enough ∙
        ap (λ (rest : List ℕ). blocks (take given (recovered state.bytes)) ++ rest) begins.2;
    many = taken_length given (recovered state.bytes) replaying.enough;
    shut = begins.3;
  };
}

-- less than a block stands there
pub finds_cut : (given : ℕ) (past : List DiskState) → Newest (IsReplaying given) past →
    Newest (λ state. BeginsWithGate Cut (drop (2 * given) state.bytes)) past → Newest (IsCutOff given) past
finds_cut given [] replaying begins = tt
finds_cut given (state ∷ past) replaying begins = record {
  synced = replaying.synced;
  cut = record {
    keys = take given (recovered state.bytes);
    rest = drop (2 * given) state.bytes;
    whole = blocks_of given state.bytes replaying.enough;
    many = taken_length given (recovered state.bytes) replaying.enough;
    short = begins;
  };
}

-- the place behind the blocks is within the disk
pub cut_within : (given : ℕ) (past : List DiskState) → Newest (IsCutOff given) past →
    Newest (λ state. 2 * given ≤ length state.bytes) past
cut_within given [] cut = tt
cut_within given (state ∷ past) cut =
    let total : length state.bytes ≡ length (blocks cut.cut.keys) + length cut.cut.rest =
    rw (cut.cut.whole, length-append) refl in
    omega (arith, total, length_blocks cut.cut.keys, cut.cut.many)

pub cut_synced : (given : ℕ) (past : List DiskState) → Newest (IsCutOff given) past →
    Newest IsSynced past
cut_synced given [] cut = tt
cut_synced given (state ∷ past) cut = cut.synced

-- once the gate is shut
gate_shut : (given : ℕ) (past now : List DiskState) → Newest (IsCutOff given) past →
    Throughout (IsTornFrom (2 * given) 1 (disk_bytes past)) past now →
    Newest (IsSyncedAs (written_to (disk_bytes past) (2 * given) (0 ∷ []))) now →
    Newest (IsAppending given) now
gate_shut given [] now cut each done =
    subst (λ (states : List DiskState). Newest (IsAppending given) states) (sym each) tt
gate_shut given (state ∷ past) [] cut each done = tt
gate_shut given (state ∷ past) (next ∷ now) cut each done = record {
  synced = record { none = done.none; synced = done.synced ∙ sym done.reads; reads = refl };
  shut = subst (λ (bytes : List ℕ). IsShut given bytes) (sym done.reads) (written_cut given state.bytes cut.cut);
}

cut_moments : (given : ℕ) (past now : List DiskState) → Newest (IsCutOff given) past →
    Throughout (IsTornFrom (2 * given) 1 (disk_bytes past)) past now →
    Throughout (LeavesOnly (kept_keys past)) past now
cut_moments given [] now cut each = each
cut_moments given (state ∷ past) now cut each =
    throughout_weaker _ _ (state ∷ past) now
    (λ (next : DiskState) (torn : IsTornFrom (2 * given) 1 state.bytes next). record {
      images = λ image left. torn_cut given state.bytes image cut.cut (torn.images image left);
      reads = torn_cut given state.bytes next.bytes cut.cut torn.reads;
    })
    each

pub shuts_gate : {E : Type 0} (given : ℕ) (past now : List DiskState) (result : Result (Unit {0}) E) →
    Newest (IsCutOff given) past → WritesSynced {E = E} (2 * given) (0 ∷ []) past now result →
    ShutsGate {E = E} given past now result
shuts_gate given past now result cut written = record {
  each = cut_moments given past now cut written.each;
  holds = on_ok_weaker result (gate_shut given past now cut written.each) written.done;
}

-- a kept key is found, and nothing is written
pub replays_open : {E : Type 0} (given key : ℕ) (past now : List DiskState) →
    Newest (IsReplaying given) past →
    Newest (λ state. BeginsWithGate (Open key) (drop (2 * given) state.bytes)) past → now ≡ past →
    Replays {E = E} given past now (Ok (Some key))
replays_open given key past now replaying begins same = record {
  each = throughout_same _ past now same;
  found = subst (λ (states : List DiskState). FindsKey (Some key) given (kept_keys past) states) (sym same) (finds_open given key past replaying begins);
}

-- none is found behind a gate that isn't open
pub replays_shut : {E : Type 0} (given : ℕ) (past now : List DiskState) →
    Newest (IsReplaying given) past →
    Newest (λ state. BeginsWithGate Shut (drop (2 * given) state.bytes)) past → now ≡ past →
    Replays {E = E} given past now (Ok None)
replays_shut given past now replaying begins same = record {
  each = throughout_same _ past now same;
  found = subst (λ (states : List DiskState). Newest (IsAppending given) states) (sym same) (finds_shut given past replaying begins);
}
