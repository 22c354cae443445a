-- The laws of room for clips: how a fragment is found, put, counted and made whole doesn't depend on the room of its
-- lists.
use Rattle.std.specs.Prelude.{◌≡◌, ℕ, List, option_map}
use Rattle.clip_store.specs.PlainFragment.{PlainFragment, roomless_fragment, slots_of, whole_fragment}
use Rattle.clip_store.specs.PlainClips.{Pair, clip_named, roomless_pairs, with_clip}
use Rattle.clip_store.specs.ClipLimit.{is_full}

-- a fragment without room stays the same where its room is taken away again
abbrev pub FragmentRoomGoesOnce : Type 0
FragmentRoomGoesOnce =
    (fragment : PlainFragment) → roomless_fragment (roomless_fragment fragment) ≡ roomless_fragment fragment

-- of clips without room the fragment under a name is that fragment without room
abbrev pub ClipsIgnoreRoom : Type 0
ClipsIgnoreRoom =
    (name : List ℕ) (pairs : List Pair)
    → clip_named name (roomless_pairs pairs) ≡ option_map roomless_fragment (clip_named name pairs)

-- a fragment without room, put among clips without room, gives the clips without room
abbrev pub PutsIgnoreRoom : Type 0
PutsIgnoreRoom =
    (name : List ℕ) (fragment : PlainFragment) (pairs : List Pair)
    → with_clip name (roomless_fragment fragment) (roomless_pairs pairs)
    ≡ roomless_pairs (with_clip name fragment pairs)

-- whether so many slots can come under a name is told of clips without room as of those with it
abbrev pub FullnessIgnoresRoom : Type 0
FullnessIgnoresRoom =
    (name : List ℕ) (slots : ℕ) (pairs : List Pair)
    → is_full name slots (roomless_pairs pairs) ≡ is_full name slots pairs

-- a fragment without room has as many slots as with it
abbrev pub FragmentSlotsIgnoreRoom : Type 0
FragmentSlotsIgnoreRoom = (fragment : PlainFragment) → slots_of (roomless_fragment fragment) ≡ slots_of fragment

-- a fragment without room, with nothing elided, is the whole fragment without room
abbrev pub WholenessIgnoresRoom : Type 0
WholenessIgnoresRoom =
    (fragment : PlainFragment)
    → whole_fragment (roomless_fragment fragment) ≡ roomless_fragment (whole_fragment fragment)

-- a fragment without room gets none where it is made whole, with nothing elided
abbrev pub WholenessBringsNoRoom : Type 0
WholenessBringsNoRoom =
    (fragment : PlainFragment)
    → roomless_fragment (whole_fragment (roomless_fragment fragment)) ≡ whole_fragment (roomless_fragment fragment)
