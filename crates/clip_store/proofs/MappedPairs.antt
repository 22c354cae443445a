-- Pairs of which each fragment is changed by a function that keeps the number of slots, as where it loses its room or
-- what is elided in it.
use Rattle.std.specs.Prelude.{◌≡◌, refl, ℕ, ◌+◌, Bool, true, false, cond, if◌then◌else◌, ◌||◌, nat_le, nat_lt, List, [], ◌∷◌, length, map, Some, option_map}
use Rattle.std.proofs.Common.{ap, ◌∙◌, arith}
use Rattle.std.specs.Map.{values_of}
use Rattle.std.specs.Str.{bytes_eq}
use Rattle.std.proofs.lemmas.List.{length-map}
use Rattle.std.proofs.lemmas.List.Sums.{sum_by-cons}
use Rattle.clip_store.specs.PlainFragment.{PlainFragment, slots_of}
use Rattle.clip_store.specs.PlainClips.{Pair, clip_named, slots_held, with_clip, without_name}
use Rattle.clip_store.specs.ClipLimit.{is_full, most_clips, most_clip_slots}

-- a pair, and pairs, with the fragment changed
abbrev mapped_pair : (PlainFragment → PlainFragment) → Pair → Pair
mapped_pair change pair = (pair.0, change pair.1)

abbrev pub mapped : (PlainFragment → PlainFragment) → List Pair → List Pair
mapped change pairs = map (λ pair. (pair.0, change pair.1)) pairs

module _ (change : PlainFragment → PlainFragment) where
  length_mapped : (pairs : List Pair) → length (mapped change pairs) ≡ length pairs
  length_mapped pairs = length-map pairs (mapped_pair change)

  slots_held_mapped : ((fragment : PlainFragment) → slots_of (change fragment) ≡ slots_of fragment) → (pairs : List Pair)
      → slots_held (mapped change pairs) ≡ slots_held pairs
  slots_held_mapped same [] = refl
  slots_held_mapped same (pair ∷ pairs) =
      omega (
        arith,
        sum_by-cons slots_of (change pair.1) (values_of (mapped change pairs)),
        sum_by-cons slots_of pair.1 (values_of pairs),
        same pair.1,
        slots_held_mapped same pairs,
      )

  module _ (name : List ℕ) where
    pub clip_named_mapped : (pairs : List Pair) → clip_named name (mapped change pairs) ≡ option_map change (clip_named name pairs)
    clip_named_mapped [] = refl
    clip_named_mapped (pair ∷ pairs) = by (bytes_eq name pair.0) (clip_named_mapped pairs)
      where
        by : (here : Bool)
            → clip_named name (mapped change pairs) ≡ option_map change (clip_named name pairs)
            → cond here (Some (change pair.1)) (clip_named name (mapped change pairs))
            ≡ option_map change (cond here (Some pair.1) (clip_named name pairs))
        by true rest = refl
        by false rest = rest

    pub with_clip_mapped : (fragment : PlainFragment) (pairs : List Pair)
        → with_clip name (change fragment) (mapped change pairs) ≡ mapped change (with_clip name fragment pairs)
    with_clip_mapped fragment [] = refl
    with_clip_mapped fragment (pair ∷ pairs) = by (bytes_eq name pair.0) (with_clip_mapped fragment pairs)
      where
        by : (here : Bool)
            → with_clip name (change fragment) (mapped change pairs) ≡ mapped change (with_clip name fragment pairs)
            → (if here then (pair.0, change fragment) ∷ mapped change pairs
            else mapped_pair change pair ∷ with_clip name (change fragment) (mapped change pairs))
            ≡ mapped change (if here then (pair.0, fragment) ∷ pairs else pair ∷ with_clip name fragment pairs)
        by true rest = refl
        by false rest = ap (λ all. mapped_pair change pair ∷ all) rest

    without_mapped : (pairs : List Pair) → without_name name (mapped change pairs) ≡ mapped change (without_name name pairs)
    without_mapped [] = refl
    without_mapped (pair ∷ pairs) = by (bytes_eq name pair.0) (without_mapped pairs)
      where
        by : (here : Bool)
            → without_name name (mapped change pairs) ≡ mapped change (without_name name pairs)
            → cond here (mapped change pairs) (mapped_pair change pair ∷ without_name name (mapped change pairs))
            ≡ mapped change (cond here pairs (pair ∷ without_name name pairs))
        by true rest = refl
        by false rest = ap (λ all. mapped_pair change pair ∷ all) rest

    pub full_mapped : ((fragment : PlainFragment) → slots_of (change fragment) ≡ slots_of fragment) → (slots : ℕ) (pairs : List Pair)
        → is_full name slots (mapped change pairs) ≡ is_full name slots pairs
    full_mapped same slots pairs =
        let number : length (without_name name (mapped change pairs)) ≡ length (without_name name pairs) =
        ap length (without_mapped pairs) ∙ length_mapped (without_name name pairs) in
        let held : slots_held (without_name name (mapped change pairs)) ≡ slots_held (without_name name pairs) =
        ap slots_held (without_mapped pairs) ∙ slots_held_mapped same (without_name name pairs) in
        λ i. nat_le most_clips (number i) || nat_lt most_clip_slots (held i + slots)
