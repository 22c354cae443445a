-- `resumed_runs_fit`, `fitting_runs_are_resolved`: frames of which the newest is changed.
use Rattle.std.specs.Prelude.{◌≡◌, refl, ℕ, zero, suc, ◌-◌, List, [], ◌∷◌, length, slice_get, slice_set, Option, Some, None}
use Rattle.std.specs.Option.{option_map_or}
use Rattle.std.proofs.Common.{ap, ◌∙◌, arith}
use Rattle.plcs_store.specs.declared.frame.Frame.{Frame}
use Rattle.plcs_store.specs.Act.{with_newest}
use Rattle.plcs_store.specs.CellAt.{changed_at}

changed_above : {A : Type 0} (k : ℕ) (f : A → A) (x : A) (xs : List A) → changed_at (suc k) f (x ∷ xs) ≡ x ∷ changed_at k f xs
changed_above {A} k f x xs = by (slice_get xs k)
  where
    by : (got : Option A)
        → option_map_or (λ item. slice_set (x ∷ xs) (suc k) (f item)) got (x ∷ xs) ≡ x ∷ option_map_or (λ item. slice_set xs k (f item)) got xs
    by None = refl
    by (Some a) = refl

pub changed_length : {A : Type 0} (k : ℕ) (f : A → A) (xs : List A) → length (changed_at k f xs) ≡ length xs
changed_length k f [] = refl
changed_length zero f (x ∷ xs) = refl
changed_length (suc k) f (x ∷ xs) = ap length (changed_above k f x xs) ∙ ap suc (changed_length k f xs)

-- the newest is above the others
pub newest_above : (f : Frame → Frame) (one above : Frame) (frames : List Frame)
    → with_newest f (one ∷ (above ∷ frames)) ≡ one ∷ with_newest f (above ∷ frames)
newest_above f one above frames =
    let upper : length (one ∷ (above ∷ frames)) - 1 ≡ suc (length frames) = omega arith in
    let lower : length frames ≡ length (above ∷ frames) - 1 = omega arith in
    ap (λ (k : ℕ). changed_at k f (one ∷ (above ∷ frames))) upper
    ∙ changed_above (length frames) f one (above ∷ frames)
    ∙ ap (λ (k : ℕ). one ∷ changed_at k f (above ∷ frames)) lower
