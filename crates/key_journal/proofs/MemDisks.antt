-- The states of a disk in memory, from the calls that were done.
use Rattle.std.proofs.Common.{◌≡◌, ℕ, ◌+◌, ◌-◌, ◌≤◌, ◌^◌, List, [], ◌∷◌, ◌++◌, length, min, refl, sym, ap, ◌∙◌, subst, arith}
use Rattle.std.specs.Prelude.{fold}
use Rattle.std.proofs.lemmas.Grind.{common_steps}
use Rattle.std.proofs.lemmas.List.Sums.{fold-append}
use Rattle.key_journal.specs.Disk.{DiskState, Newest, WritesToDisk, disk_bytes, with_range, with_sync, overwritten}
use Rattle.key_journal.specs.MemDisk.{empty_state, states, with_call, with_write}
use Rattle.key_journal.specs.Private.MemDiskFields.{HoldsBytes}
use Rattle.key_journal.specs.declared.mem_disk.DiskCall.{DiskCall}
use Rattle.key_journal.specs.declared.mem_disk.DiskCall.TheVariants.{Write, Sync}

-- there is always a state
told_from : (calls : List DiskCall) (state : DiskState) (past : List DiskState) →
    (next : DiskState) × (older : List DiskState) × (fold with_call (state ∷ past) calls ≡ next ∷ older)
told_from [] state past = (state, past, refl)
told_from (Write at piece ∷ calls) state past = told_from calls (with_write state at piece) (state ∷ past)
told_from (Sync ∷ calls) state past = told_from calls (with_sync state) (state ∷ past)

-- one call more puts one state in front
pub one_more : (calls : List DiskCall) (call : DiskCall) →
    states (calls ++ call ∷ []) ≡ with_call (states calls) call
one_more calls call = fold-append with_call (empty_state ∷ []) calls (call ∷ [])

-- a place within what the disk reads as is within its bytes
pub place_within : (at : ℕ) (bytes : List ℕ) (done : List DiskCall) → HoldsBytes bytes done →
    Newest (λ state. at ≤ length state.bytes) (states done) → at ≤ length bytes
place_within at bytes done holds within =
    let told : (next : DiskState) × (older : List DiskState) × (states done ≡ next ∷ older) = told_from done empty_state [] in
    let here : at ≤ length told.0.bytes = subst (λ (past : List DiskState). Newest (λ state. at ≤ length state.bytes) past) told.2 within in
    let same : bytes ≡ told.0.bytes = holds.same ∙ ap disk_bytes told.2 in
    subst (λ (bytes : List ℕ). at ≤ length bytes) (sym same) here

-- a write within the bytes begins at its place
pub starts_within : (at size : ℕ) → at ≤ size → min at size ≡ at
starts_within at size within = omega (arith, within)

bytes_written : (past : List DiskState) (at : ℕ) (piece : List ℕ) (next : DiskState) (older : List DiskState) →
    past ≡ next ∷ older → at ≤ length (disk_bytes past) →
    disk_bytes (with_call past (Write at piece)) ≡ overwritten (disk_bytes past) at piece
bytes_written [] at piece next older told within = absurd (cc)
bytes_written (state ∷ past) at piece next older told within =
    ap (λ (start : ℕ). overwritten state.bytes start piece) (starts_within at (length state.bytes) within)

-- a write within the bytes of a disk in memory is a write to a disk
pub writes_to_disk : (past : List DiskState) (at : ℕ) (piece : List ℕ) →
    Newest (λ state. at ≤ length state.bytes) past → WritesToDisk at piece past (with_call past (Write at piece))
writes_to_disk [] at piece within = refl
writes_to_disk (state ∷ past) at piece within =
    ap (λ (start : ℕ). with_range state start (length piece) (overwritten state.bytes start piece) ∷ state ∷ past)
    (starts_within at (length state.bytes) within)

-- the bytes hold once a write is done
pub holds_written : (bytes after : List ℕ) (at : ℕ) (piece : List ℕ) (done : List DiskCall) →
    HoldsBytes bytes done → at ≤ length bytes → at + length piece ≤ 2 ^ 62 →
    after ≡ overwritten bytes at piece → HoldsBytes after (done ++ Write at piece ∷ [])
holds_written bytes after at piece done holds within inside is =
    let told : (next : DiskState) × (older : List DiskState) × (states done ≡ next ∷ older) = told_from done empty_state [] in
    let many : length (overwritten bytes at piece) ≡ at + length piece + (length bytes - (at + length piece)) =
    grind (arith, common_steps) in
    record {
      same = is ∙ ap (λ (bytes : List ℕ). overwritten bytes at piece) holds.same ∙
          sym (ap disk_bytes (one_more done (Write at piece)) ∙
          bytes_written (states done) at piece told.0 told.1 told.2 (rw (← holds.same) within));
      inside = rw is (omega (arith, many, within, inside, holds.inside));
    }
