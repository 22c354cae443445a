-- `resolve_frames`: the newest frame is put where a run begins, or stays where it is.
use Rattle.std.specs.Prelude.{◌≡◌, refl, ℕ, zero, suc, Bool, if◌then◌else◌, List, [], ◌∷◌, slice_get, slice_set, Option, Some, None, option_map, unwrap_or}
use Rattle.std.specs.Option.{option_map_or}
use Rattle.std.proofs.Common.{ap, sym, ◌∙◌}
use Rattle.std.proofs.lemmas.Bool.{eq-eqb, ne_eqb}
use Rattle.std.proofs.lemmas.Option.{none-some, same_Some}
use Rattle.template_tree.specs.Positions.Place.{PlainPlace, Start}
use Rattle.template_tree.specs.Programs.PlainTree.{Forest}
use Rattle.plcs_store.specs.declared.frame.Frame.{Frame}
use Rattle.plcs_store.specs.Act.{newest_at, with_newest}
use Rattle.plcs_store.specs.CellAt.{changed_at, newest}
use Rattle.plcs_store.specs.Configuration.{frame_at, frame_place, top_place}
use Rattle.plcs_store.specs.Resume.{resolved_frame, resolved_place}

-- ---- lists of which one item is changed

changed_behind : {A : Type 0} (k : ℕ) (f : A → A) (x : A) (xs : List A) → changed_at (suc k) f (x ∷ xs) ≡ x ∷ changed_at k f xs
changed_behind {A} k f x xs = by (slice_get xs k)
  where
    by : (got : Option A)
        → option_map_or (λ item. slice_set (x ∷ xs) (suc k) (f item)) got (x ∷ xs) ≡ x ∷ option_map_or (λ item. slice_set xs k (f item)) got xs
    by None = refl
    by (Some a) = refl

unchanged : {A : Type 0} (k : ℕ) (f : A → A) (xs : List A) → ((a : A) → slice_get xs k ≡ Some a → f a ≡ a) → changed_at k f xs ≡ xs
unchanged k f [] same = refl
unchanged {A} zero f (x ∷ xs) same = ap (λ (a : A). a ∷ xs) (same x refl)
unchanged {A} (suc k) f (x ∷ xs) same = changed_behind k f x xs ∙ ap (λ (rest : List A). x ∷ rest) (unchanged k f xs same)

changed_same : {A : Type 0} (k : ℕ) (f g : A → A) (xs : List A) → ((a : A) → slice_get xs k ≡ Some a → f a ≡ g a)
    → changed_at k f xs ≡ changed_at k g xs
changed_same k f g [] same = refl
changed_same {A} zero f g (x ∷ xs) same = ap (λ (a : A). a ∷ xs) (same x refl)
changed_same {A} (suc k) f g (x ∷ xs) same =
    changed_behind k f x xs ∙ ap (λ (rest : List A). x ∷ rest) (changed_same k f g xs same) ∙ sym (changed_behind k g x xs)

-- ---- the place

-- a place with another point stays
pub other_resolved : (program : Forest) (place : PlainPlace) → (place.point ≡ 0 → ⊥) → resolved_place program place ≡ place
other_resolved program place other =
    ap (λ (b : Bool). let p : PlainPlace = if b then unwrap_or (Start program place.slot) place else place in p) (ne_eqb place.point 0 other)

-- a place with point 0 goes where a run begins, if it does
pub start_resolved : (program : Forest) (place : PlainPlace) (start : Option PlainPlace) → place.point ≡ 0 → start ≡ Start program place.slot
    → resolved_place program place ≡ unwrap_or start place
start_resolved program place start zeroth is =
    ap (λ (b : Bool). let p : PlainPlace = if b then unwrap_or (Start program place.slot) place else place in p) (eq-eqb place.point 0 zeroth)
    ∙ ap (λ (o : Option PlainPlace). unwrap_or o place) (sym is)

-- ---- the frames

top_frame : (frames : List Frame) (place : PlainPlace) (frame : Frame) → Some place ≡ top_place frames → slice_get frames (newest frames) ≡ Some frame
    → frame_place frame ≡ place
top_frame frames place frame top e = same_Some (frame_place frame) place (sym (ap (option_map frame_place) e) ∙ sym top)

pub none_resolved : (program : Forest) (frames : List Frame) → None ≡ top_place frames → frames ≡ with_newest (resolved_frame program) frames
none_resolved program frames none =
    sym (unchanged (newest frames) (resolved_frame program) frames
    (λ (a : Frame) e. absurd (none-some (frame_place a) (none ∙ ap (option_map frame_place) e))))

pub same_resolved : (program : Forest) (frames : List Frame) (place : PlainPlace) → Some place ≡ top_place frames
    → resolved_place program place ≡ place → frames ≡ with_newest (resolved_frame program) frames
same_resolved program frames place top same =
    sym (unchanged (newest frames) (resolved_frame program) frames
    (λ (a : Frame) e.
    let at = top_frame frames place a top e in
    ap (λ (p : PlainPlace). frame_at (resolved_place program p) a) at ∙ ap (λ (p : PlainPlace). frame_at p a) (same ∙ sym at)))

pub set_resolved : (program : Forest) (frames : List Frame) (place start : PlainPlace) → Some place ≡ top_place frames
    → resolved_place program place ≡ start → newest_at start frames ≡ with_newest (resolved_frame program) frames
set_resolved program frames place start top same =
    changed_same (newest frames) (frame_at start) (resolved_frame program) frames
    (λ (a : Frame) e.
    let at = top_frame frames place a top e in
    ap (λ (p : PlainPlace). frame_at p a) (sym same ∙ ap (resolved_place program) (sym at)))
