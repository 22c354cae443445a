-- A frame that is found by its number, and what the frames are once it is changed.
use Rattle.std.specs.Prelude.{◌≡◌, refl, ℕ, ◌-◌, ◌<◌, List, [], ◌∷◌, length, slice_get, slice_set, Option, Some, None, IsSome, option_and_then}
use Rattle.std.specs.Option.{option_map_or}
use Rattle.std.proofs.Common.{get_or, ap, sym, ◌∙◌, arith}
use Rattle.std.proofs.lemmas.Option.{slice_get_read, slice_get_within}
use Rattle.plcs_store.specs.declared.frame.Frame.{Frame}
use Rattle.plcs_store.specs.Act.{with_newest}
use Rattle.plcs_store.specs.CellAt.{changed_at, newest}
use Rattle.plcs_store.specs.Undone.{loop_at, newest_frame}

module _ (frames seen : List Frame) (same : frames ≡ seen) (k : ℕ) (frame : Frame) (within : k < length frames) (read : frame ≡ get_or frames k frame) where
  pub found : slice_get seen k ≡ Some frame
  found = ap (λ (xs : List Frame). slice_get xs k) (sym same) ∙ slice_get_read frames (length frames) k frame refl within read

  pub changed : (change : Frame → Frame) (new : Frame) → new ≡ change frame → slice_set frames k new ≡ changed_at k change seen
  changed change new is_new =
      ap (slice_set frames k) is_new
      ∙ sym (ap (λ (o : Option Frame). option_map_or (λ (one : Frame). slice_set frames k (change one)) o frames)
      (slice_get_read frames (length frames) k frame refl within read))
      ∙ ap (changed_at k change) same

-- the newest is found by the count of the frames
module _ (frames seen : List Frame) (same : frames ≡ seen) (n : ℕ) (count : n ≡ length frames) (some : 0 < n) (frame : Frame) (read : frame ≡ get_or frames (n - 1) frame) where
  number : n - 1 ≡ newest seen
  number = ap (λ (m : ℕ). m - 1) (count ∙ ap length same)

  within : n - 1 < length frames
  within = omega (arith, count, some)

  pub newest_found : newest_frame seen ≡ Some frame
  newest_found = ap (slice_get seen) (sym number) ∙ found frames seen same (n - 1) frame within read

  pub newest_changed : (change : Frame → Frame) (new : Frame) → new ≡ change frame → slice_set frames (n - 1) new ≡ with_newest change seen
  newest_changed change new is_new =
      changed frames seen same (n - 1) frame within read change new is_new ∙ ap (λ (m : ℕ). changed_at m change seen) number

  pub found_loop : (k : ℕ) → loop_at k seen ≡ slice_get frame.loops k
  found_loop k = ap (option_and_then (λ (one : Frame). slice_get one.loops k)) newest_found

-- a loop is found in some frame, and before the count of its loops
pub some_frame : (k : ℕ) (frames : List Frame) → IsSome (loop_at k frames) → 0 < length frames
some_frame k [] there = cc
some_frame k (frame ∷ frames) there = omega arith

pub number_within : {A : Type 0} (xs : List A) (k : ℕ) (found : Option A) → slice_get xs k ≡ found → IsSome found → k < length xs
number_within xs k None e there = cc
number_within xs k (Some a) e there = slice_get_within xs k a e
