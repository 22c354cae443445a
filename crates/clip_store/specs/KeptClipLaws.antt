-- The laws of clips as they are kept, whole and without room: how a fragment is found, put and counted doesn't depend
-- on what was elided in it.
use Rattle.std.specs.Prelude.{◌≡◌, ℕ, List, option_map}
use Rattle.clip_store.specs.PlainFragment.{PlainFragment, kept_fragment, slots_of, whole_fragment}
use Rattle.clip_store.specs.PlainClips.{Pair, clip_named, kept_pairs, with_clip}
use Rattle.clip_store.specs.ClipLimit.{is_full}

-- a fragment in which nothing is elided stays the same where it is made whole again
abbrev pub WholenessGoesOnce : Type 0
WholenessGoesOnce = (fragment : PlainFragment) → whole_fragment (whole_fragment fragment) ≡ whole_fragment fragment

-- of clips as they are kept the fragment under a name is that fragment as it is kept
abbrev pub ClipsAreKeptWhole : Type 0
ClipsAreKeptWhole =
    (name : List ℕ) (pairs : List Pair)
    → clip_named name (kept_pairs pairs) ≡ option_map kept_fragment (clip_named name pairs)

-- a fragment as it is kept, put among clips as they are kept, gives the clips as they are kept
abbrev pub PutsAreKeptWhole : Type 0
PutsAreKeptWhole =
    (name : List ℕ) (fragment : PlainFragment) (pairs : List Pair)
    → with_clip name (kept_fragment fragment) (kept_pairs pairs) ≡ kept_pairs (with_clip name fragment pairs)

-- whether so many slots can come under a name is told of clips as they are kept as of those that are there
abbrev pub FullnessIsKept : Type 0
FullnessIsKept =
    (name : List ℕ) (slots : ℕ) (pairs : List Pair) → is_full name slots (kept_pairs pairs) ≡ is_full name slots pairs

-- a fragment as it is kept has as many slots as the one that is there
abbrev pub FragmentSlotsAreKept : Type 0
FragmentSlotsAreKept = (fragment : PlainFragment) → slots_of (kept_fragment fragment) ≡ slots_of fragment
