-- `take_back`: there is room for the loop that a step took away, since the configuration before it had the loop.
use Rattle.std.specs.Prelude.{◌≡◌, refl, ℕ, zero, suc, ◌+◌, ◌-◌, ◌≤◌, List, [], ◌∷◌, length, slice_get, slice_set, Option, Some, None}
use Rattle.std.specs.List.{insert}
use Rattle.std.specs.Option.{option_map_or}
use Rattle.std.proofs.Common.{ap, ◌∙◌, arith}
use Rattle.std.proofs.lemmas.Option.{none-some, same_Some}
use Rattle.plcs_store.specs.declared.frame.Frame.{Frame}
use Rattle.plcs_store.specs.declared.kept_loop.KeptLoop.{KeptLoop}
use Rattle.plcs_store.specs.Act.{HasLoopRoom, with_newest}
use Rattle.plcs_store.specs.CellAt.{changed_at, newest}
use Rattle.plcs_store.specs.Limit.{most_loops}
use Rattle.plcs_store.specs.Undone.{newest_frame, with_loop_at}

-- ---- lists of which one item is changed

pub changed_behind : {A : Type 0} (k : ℕ) (f : A → A) (x : A) (xs : List A) → changed_at (suc k) f (x ∷ xs) ≡ x ∷ changed_at k f xs
changed_behind {A} k f x xs = by (slice_get xs k)
  where
    by : (got : Option A)
        → option_map_or (λ item. slice_set (x ∷ xs) (suc k) (f item)) got (x ∷ xs) ≡ x ∷ option_map_or (λ item. slice_set xs k (f item)) got xs
    by None = refl
    by (Some a) = refl

pub changed_length : {A : Type 0} (k : ℕ) (f : A → A) (xs : List A) → length (changed_at k f xs) ≡ length xs
changed_length k f [] = refl
changed_length zero f (x ∷ xs) = refl
changed_length (suc k) f (x ∷ xs) = ap length (changed_behind k f x xs) ∙ ap suc (changed_length k f xs)

changed_there : {A : Type 0} (k : ℕ) (f : A → A) (xs : List A) (a : A) → slice_get xs k ≡ Some a → slice_get (changed_at k f xs) k ≡ Some (f a)
changed_there k f [] a e = absurd (none-some a e)
changed_there zero f (x ∷ xs) a e = ap (λ one. Some (f one)) (same_Some x a e)
changed_there {A} (suc k) f (x ∷ xs) a e =
    ap (λ (ys : List A). slice_get ys (suc k)) (changed_behind k f x xs) ∙ changed_there k f xs a e

-- a list with one more is longer by one, wherever that is put
inserted_length : {A : Type 0} (xs : List A) (k : ℕ) (x : A) → length (insert xs k x) ≡ length xs + 1
inserted_length [] zero x = refl
inserted_length [] (suc k) x = refl
inserted_length (y ∷ xs) zero x = omega arith
inserted_length (y ∷ xs) (suc k) x =
    let more = inserted_length xs k x in
    omega (arith, more)

-- ---- the newest frame

-- the newest of frames of which the newest is changed
newest_changed : (change : Frame → Frame) (frames : List Frame) (frame : Frame) → newest_frame frames ≡ Some frame
    → newest_frame (with_newest change frames) ≡ Some (change frame)
newest_changed change frames frame e =
    ap (λ (n : ℕ). slice_get (with_newest change frames) (n - 1)) (changed_length (newest frames) change frames)
    ∙ changed_there (newest frames) change frames frame e

pub loop_room : (number : ℕ) (kept : KeptLoop) (frames : List Frame)
    → ((frame : Frame) → newest_frame (with_newest (with_loop_at number kept) frames) ≡ Some frame → length frame.loops ≤ most_loops)
    → HasLoopRoom frames
loop_room number kept frames few one e =
    let more = inserted_length one.loops number kept in
    let within = few (with_loop_at number kept one) (newest_changed (with_loop_at number kept) frames one e) in
    omega (arith, more, within)
