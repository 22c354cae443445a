-- Clips as plain data: names with their fragments, in order.
use Rattle.std.specs.Prelude.{ℕ, if◌then◌else◌, List, [], ◌∷◌, map, Option}
use Rattle.std.specs.List.{sum_by}
use Rattle.std.specs.Map.{values_of, lookup, remove_entry}
use Rattle.std.specs.Str.{bytes_eq}
use Rattle.clip_store.specs.PlainFragment.{PlainFragment, kept_fragment, roomless_fragment, slots_of}

-- a clip: a name and the fragment under it
abbrev pub Pair : Type 0
Pair = List ℕ × PlainFragment

-- clips: the pairs in order, and for how many new names there is room that needs no memory
pub record PlainClips : Type 0 where
  pub pairs : List Pair
  pub spare : ℕ

-- the fragment that clips have under the name, if the name is held
abbrev pub clip_named : List ℕ → List Pair → Option PlainFragment
clip_named name pairs = lookup (bytes_eq name) pairs

-- the clips under other names, where each name is held once
abbrev pub without_name : List ℕ → List Pair → List Pair
without_name name pairs = remove_entry (bytes_eq name) pairs

-- the clips with the fragment under the name: a name that is held keeps its place, and a new one comes last
abbrev pub with_clip : List ℕ → PlainFragment → List Pair → List Pair
with_clip name fragment [] = (name, fragment) ∷ []
with_clip name fragment (pair ∷ pairs) =
    if bytes_eq name pair.0 then (pair.0, fragment) ∷ pairs else pair ∷ with_clip name fragment pairs

-- how many slots clips as plain data have together, in their fragments
abbrev pub slots_held : List Pair → ℕ
slots_held pairs = sum_by slots_of (values_of pairs)

-- clips as plain data, each fragment without the room of its lists
abbrev pub roomless_pairs : List Pair → List Pair
roomless_pairs pairs = map (λ pair. (pair.0, roomless_fragment pair.1)) pairs

-- names with their fragments, in order, as clips keep them: each fragment whole and without the room of its lists
abbrev pub kept_pairs : List Pair → List Pair
kept_pairs pairs = map (λ pair. (pair.0, kept_fragment pair.1)) pairs
