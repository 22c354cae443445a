-- That a disk in memory reads as one of the images that a crash may leave of it.
use Rattle.std.proofs.Common.{◌≡◌, ℕ, ◌+◌, ◌-◌, ◌≤◌, List, [], ◌∷◌, ◌++◌, length, take, drop, min, refl, arith}
use Rattle.std.proofs.lemmas.Grind.{common_steps}
use Rattle.std.specs.Prelude.{fold}
use Rattle.key_journal.specs.Disk.{DiskState, Newest, ReadsAsImage, Torn, overwritten, with_sync}
use Rattle.key_journal.specs.MemDisk.{empty_state, states, with_call, with_write}
use Rattle.key_journal.specs.declared.mem_disk.DiskCall.{DiskCall}
use Rattle.key_journal.specs.declared.mem_disk.DiskCall.TheVariants.{Write, Sync}

-- bytes that are written as a whole are torn ones too, so that what a disk in memory reads as is an image
pub torn_written : (at : ℕ) (piece bytes : List ℕ) → at ≤ length bytes →
    Torn at (length piece) bytes (overwritten bytes at piece)
torn_written at piece bytes within =
    let front_length : length (take at bytes) ≡ at = grind (arith, common_steps) in
    let both_length : length (take at bytes ++ piece) ≡ at + length piece = grind (arith, common_steps) in
    let whole_length : length (overwritten bytes at piece) ≡ at + length piece + (length bytes - (at + length piece)) =
    grind (arith, common_steps) in
    record {
      front = grind (arith, common_steps);
      back = grind (arith, common_steps);
      no_shorter = omega arith;
      no_longer = omega arith;
    }

-- where the newest state of a disk in memory reads as an image, so does each later one
from_image : (calls : List DiskCall) (state : DiskState) (past : List DiskState) → ReadsAsImage state →
    Newest ReadsAsImage (fold with_call (state ∷ past) calls)
from_image [] state past reads = reads
from_image (Write at piece ∷ calls) state past reads =
    let start : ℕ = min at (length state.bytes) in
    from_image calls (with_write state at piece) (state ∷ past)
    (state.bytes, reads, torn_written start piece state.bytes (start_within at (length state.bytes)))
  where
    start_within : (at size : ℕ) → min at size ≤ size
    start_within at size = omega arith
from_image (Sync ∷ calls) state past reads = from_image calls (with_sync state) (state ∷ past) refl

-- a disk in memory reads as one of its images, whatever calls were done
pub states_read_as_image : (calls : List DiskCall) → Newest ReadsAsImage (states calls)
states_read_as_image calls = from_image calls empty_state [] refl
