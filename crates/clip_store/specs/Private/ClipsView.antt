-- What clips in memory are seen as, within the limits and with the number of their slots.
use Rattle.std.specs.Prelude.{◌≡◌, ℕ, List, map}
use Rattle.indexmap.specs.IndexMap.{spare}
use Rattle.clip_store.specs.declared.fragment.Fragment.{Fragment}
use Rattle.clip_store.specs.declared.clips.Clips.TheInside.{Inside}
use Rattle.clip_store.specs.PlainFragment.{plain_fragment}
use Rattle.clip_store.specs.PlainClips.{Pair, PlainClips, slots_held}
use Rattle.clip_store.specs.ClipLimit.{AreClips}

-- the clips that the entries of the map are
abbrev pub pairs_of : List (List ℕ × Fragment) → List Pair
pairs_of entries = map (λ entry. (entry.0, plain_fragment entry.1)) entries

-- the clips that are seen, and the room of the map
abbrev pub seen : Inside → PlainClips
seen a = record { pairs = pairs_of a.fragments.entries; spare = spare a.fragments }

-- the clips are within the limits, and their number of slots is kept
pub record IsKept (a : Inside) : Type 0 where
  pub clips : AreClips (pairs_of a.fragments.entries)
  pub slots : a.slots ≡ slots_held (pairs_of a.fragments.entries)
