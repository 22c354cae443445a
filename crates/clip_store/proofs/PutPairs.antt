-- What the pairs are where a fragment came under a name.
use Rattle.std.proofs.Common.{◌≡◌, ℕ, suc, ◌+◌, ◌≤◌, Bool, true, false, cond, if◌then◌else◌, List, [], ◌∷◌, length, is_some, Option, Some, None, option_map, unwrap_or, IfSome, refl, arith}
use Rattle.std.specs.List.{All}
use Rattle.std.specs.Map.{values_of}
use Rattle.std.specs.Str.{bytes_eq}
use Rattle.std.proofs.lemmas.List.Elements.{All-cons, All-nil}
use Rattle.std.proofs.lemmas.List.Sums.{sum_by-cons}
use Rattle.std.proofs.lemmas.Map.Entries.{sum_by-remove_entry}
use Rattle.clip_store.specs.PlainFragment.{PlainFragment, slots_of}
use Rattle.clip_store.specs.PlainClips.{Pair, clip_named, slots_held, with_clip, without_name}

module _ (name : List ℕ) where
  -- one pair is under the name where it is held, and none where it isn't
  pub length-without : (pairs : List Pair) → length (without_name name pairs) + (if is_some (clip_named name pairs) then 1 else 0) ≡ length pairs
  length-without [] = refl
  length-without (pair ∷ pairs) = by (bytes_eq name pair.0) (length-without pairs)
    where
      by : (here : Bool)
          → length (without_name name pairs) + (if is_some (clip_named name pairs) then 1 else 0) ≡ length pairs
          → length (cond here pairs (pair ∷ without_name name pairs)) + (if is_some (cond here (Some pair.1) (clip_named name pairs)) then 1 else 0) ≡ length (pair ∷ pairs)
      by true rest = omega arith
      by false rest = omega arith

  -- so where it isn't held the pairs under other names are all
  pub length-absent : (pairs : List Pair) → clip_named name pairs ≡ None → length (without_name name pairs) ≡ length pairs
  length-absent pairs absent =
      let all : length (without_name name pairs) + 0 ≡ length pairs = rw absent at (length-without pairs) in
      omega arith

  pub slots_held-absent : (pairs : List Pair) → clip_named name pairs ≡ None → slots_held (without_name name pairs) ≡ slots_held pairs
  slots_held-absent pairs absent =
      let all : slots_held (without_name name pairs) + 0 ≡ slots_held pairs =
      rw absent at (sum_by-remove_entry slots_of (bytes_eq name) pairs) in
      omega arith

  -- and where it is held, all but the one
  pub length-held : (pairs : List Pair) (old : PlainFragment) → clip_named name pairs ≡ Some old → length (without_name name pairs) + 1 ≡ length pairs
  length-held pairs old held = rw held at (length-without pairs)

  pub slots_held-held : (pairs : List Pair) (old : PlainFragment) → clip_named name pairs ≡ Some old
      → slots_held (without_name name pairs) + slots_of old ≡ slots_held pairs
  slots_held-held pairs old held = rw held at (sum_by-remove_entry slots_of (bytes_eq name) pairs)

  -- the fragment under a name has no more slots than all together
  pub slots_of-le-slots_held : (pairs : List Pair) → IfSome (clip_named name pairs) (λ fragment. slots_of fragment ≤ slots_held pairs)
  slots_of-le-slots_held pairs = by (clip_named name pairs) (sum_by-remove_entry slots_of (bytes_eq name) pairs)
    where
      by : (found : Option PlainFragment)
          → slots_held (without_name name pairs) + unwrap_or (option_map slots_of found) 0 ≡ slots_held pairs
          → IfSome found (λ fragment. slots_of fragment ≤ slots_held pairs)
      by None sum = tt
      by (Some fragment) sum = omega arith

module _ (name : List ℕ) (fragment : PlainFragment) where
  -- where the fragment came there is one pair more than under other names
  pub length-with_clip : (pairs : List Pair) → length (with_clip name fragment pairs) ≡ length (without_name name pairs) + 1
  length-with_clip [] = refl
  length-with_clip (pair ∷ pairs) = by (bytes_eq name pair.0) (length-with_clip pairs)
    where
      by : (here : Bool)
          → length (with_clip name fragment pairs) ≡ length (without_name name pairs) + 1
          → length (if here then (pair.0, fragment) ∷ pairs else pair ∷ with_clip name fragment pairs) ≡ length (cond here pairs (pair ∷ without_name name pairs)) + 1
      by true rest = omega arith
      by false rest = omega arith

  -- and so many slots more
  pub slots_held-with_clip : (pairs : List Pair) → slots_held (with_clip name fragment pairs) ≡ slots_held (without_name name pairs) + slots_of fragment
  slots_held-with_clip [] = omega (arith, sum_by-cons slots_of fragment [])
  slots_held-with_clip (pair ∷ pairs) = by (bytes_eq name pair.0) (slots_held-with_clip pairs)
    where
      by : (here : Bool)
          → slots_held (with_clip name fragment pairs) ≡ slots_held (without_name name pairs) + slots_of fragment
          → slots_held (if here then (pair.0, fragment) ∷ pairs else pair ∷ with_clip name fragment pairs) ≡ slots_held (cond here pairs (pair ∷ without_name name pairs)) + slots_of fragment
      by true rest = omega (arith, sum_by-cons slots_of fragment (values_of pairs))
      by false rest = omega (arith, sum_by-cons slots_of pair.1 (values_of (with_clip name fragment pairs)), sum_by-cons slots_of pair.1 (values_of (without_name name pairs)))

  -- what holds of each fragment and of the one that comes holds of each then
  pub All-with_clip : (P : PlainFragment → Type 0) (pairs : List Pair) → P fragment → All P (values_of pairs) → All P (values_of (with_clip name fragment pairs))
  All-with_clip P [] here all = All-cons P fragment [] here (All-nil P)
  All-with_clip P (pair ∷ pairs) here all = by (bytes_eq name pair.0) (All-with_clip P pairs here (λ k d below. all (suc k) d (omega arith)))
    where
      by : (found : Bool) → All P (values_of (with_clip name fragment pairs))
          → All P (values_of (if found then (pair.0, fragment) ∷ pairs else pair ∷ with_clip name fragment pairs))
      by true rest = All-cons P fragment (values_of pairs) here (λ k d below. all (suc k) d (omega arith))
      by false rest = All-cons P pair.1 (values_of (with_clip name fragment pairs)) (all 0 pair.1 (omega arith)) rest
