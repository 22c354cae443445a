-- The limits of clips and the room for new ones, and what is refused by them.
use Rattle.std.specs.Prelude.{◌≡◌, ℕ, ◌+◌, ◌≤◌, Bool, true, false, ◌||◌, nat_le, nat_lt, List, length, All, is_some}
use Rattle.std.specs.List.{IsDistinct}
use Rattle.std.specs.Map.{keys_of, values_of}
use Rattle.std.specs.Str.{bytes_eq}
use Rattle.clip_store.specs.declared.limit.TheConstants.{MOST_CLIPS, MOST_CLIP_SLOTS}
use Rattle.clip_store.specs.declared.clips.ClipFault.{ClipFault}
use Rattle.clip_store.specs.PlainFragment.{PlainFragment, IsFragment, slots_of}
use Rattle.clip_store.specs.PlainClips.{Pair, PlainClips, clip_named, slots_held, without_name}

-- under how many names clips may be held
abbrev pub most_clips : ℕ
most_clips = MOST_CLIPS

-- how many slots the fragments of all clips may have together
abbrev pub most_clip_slots : ℕ
most_clip_slots = MOST_CLIP_SLOTS

-- a fragment as it may be held: it may come into a program, and it alone has no more slots than all may have
pub record IsClip (fragment : PlainFragment) : Type 0 where
  pub sound : IsFragment fragment
  pub few : slots_of fragment ≤ most_clip_slots

-- clips within the limits: each name is held once, and each fragment may come into a program
pub record AreClips (pairs : List Pair) : Type 0 where
  pub once : IsDistinct bytes_eq (keys_of pairs)
  pub few : length pairs ≤ most_clips
  pub small : slots_held pairs ≤ most_clip_slots
  pub sound : All IsFragment (values_of pairs)

-- a fragment of so many slots can't come under the name: as many other names are held as may be, or together with the
-- fragments under other names it would have too many slots
abbrev pub is_full : List ℕ → ℕ → List Pair → Bool
is_full name slots pairs =
    nat_le most_clips (length (without_name name pairs)) || nat_lt most_clip_slots
    (slots_held (without_name name pairs) + slots)

-- a fragment comes under the name without memory: the name is held, or there is room for a new one
abbrev pub has_room : List ℕ → PlainClips → Bool
has_room name clips = is_some (clip_named name clips.pairs) || nat_lt 0 clips.spare

-- the fault with which a fragment of so many slots isn't taken; memory runs out only where there is no room
abbrev pub IsClipFault : ClipFault → List ℕ → ℕ → PlainClips → Type 0
IsClipFault ClipFault.Full name slots clips = is_full name slots clips.pairs ≡ true
IsClipFault ClipFault.OutOfMemory name slots clips =
    (is_full name slots clips.pairs ≡ false) × (has_room name clips ≡ false)
