-- What isn't full, and the pairs within the limits after a fragment came.
use Rattle.std.proofs.Common.{◌≡◌, ℕ, zero, suc, ◌+◌, ◌<◌, ◌≤◌, Bool, true, false, not, List, length, is_some, IfSome, Option, Some, None, refl, sym, ap, ◌∙◌, true≢false, arith}
use Rattle.std.proofs.lemmas.Bool.Decides.{nat_tests}
use Rattle.std.specs.List.{IsDistinct}
use Rattle.std.specs.Map.{keys_of}
use Rattle.std.specs.Str.{bytes_eq}
use Rattle.clip_store.specs.PlainFragment.{PlainFragment, IsFragment, slots_of}
use Rattle.clip_store.specs.PlainClips.{Pair, PlainClips, clip_named, slots_held, with_clip, without_name}
use Rattle.clip_store.specs.ClipLimit.{AreClips, IsClip, has_room, is_full, most_clips, most_clip_slots}
use Rattle.clip_store.proofs.PutPairs.{All-with_clip, length-with_clip, slots_held-with_clip, slots_of-le-slots_held}
use Rattle.std.proofs.lemmas.Map.Views.{IfSome-lookup_from_All}

-- so few other names are held
pub few_others : (name : List ℕ) (slots : ℕ) (pairs : List Pair) → is_full name slots pairs ≡ false → length (without_name name pairs) < most_clips
few_others name slots pairs fits = grind (arith, nat_tests)

-- and so few slots are taken
pub few_slots : (name : List ℕ) (slots : ℕ) (pairs : List Pair) → is_full name slots pairs ≡ false
    → slots_held (without_name name pairs) + slots ≤ most_clip_slots
few_slots name slots pairs fits = grind (arith, nat_tests)

-- more slots than all may have are too many under any name
pub too_many : (name : List ℕ) (slots : ℕ) (pairs : List Pair) → most_clip_slots < slots → is_full name slots pairs ≡ true
too_many name slots pairs over = grind (arith, nat_tests)

-- what would hold as many slots as were counted isn't full
pub fits : (name : List ℕ) (slots counted : ℕ) (pairs : List Pair) (held : Bool)
    → held ≡ not (is_full name counted pairs) → held ≡ true → counted ≡ slots → is_full name slots pairs ≡ false
fits name slots counted pairs held told holds are = rw (← are) (by (is_full name counted pairs) (sym holds ∙ told))
  where
    by : (full : Bool) → true ≡ not full → full ≡ false
    by true is = is
    by false is = refl

-- so a fragment comes and the pairs stay within the limits
pub AreClips-with_clip : (name : List ℕ) (fragment : PlainFragment) (pairs : List Pair)
    → AreClips pairs → IsFragment fragment → is_full name (slots_of fragment) pairs ≡ false
    → IsDistinct bytes_eq (keys_of (with_clip name fragment pairs))
    → AreClips (with_clip name fragment pairs)
AreClips-with_clip name fragment pairs clips sound fits once =
    record {
      once = once;
      few = omega (arith, length-with_clip name fragment pairs, few_others name (slots_of fragment) pairs fits);
      small = omega (arith, slots_held-with_clip name fragment pairs, few_slots name (slots_of fragment) pairs fits);
      sound = All-with_clip name fragment IsFragment pairs sound clips.sound;
    }

-- no room is spare where any would do
none_spare : (spare : ℕ) → (0 < spare → false ≡ true) → spare ≤ 0
none_spare zero does = omega arith
none_spare (suc spare) does = absurd (true≢false (sym (does (omega arith))))

-- and there is none for a new name then
pub no_room : (name : List ℕ) (clips : PlainClips) → clip_named name clips.pairs ≡ None
    → (0 < clips.spare → false ≡ true) → has_room name clips ≡ false
no_room name clips absent does =
    let none : clips.spare ≤ 0 = none_spare clips.spare does in
    let unheld : is_some (clip_named name clips.pairs) ≡ false = ap is_some absent in
    grind (arith, nat_tests)

-- the fragment under a name is one that may be held
pub IsClip-named : (name : List ℕ) (pairs : List Pair) → AreClips pairs → IfSome (clip_named name pairs) IsClip
IsClip-named name pairs clips =
    by (clip_named name pairs) (IfSome-lookup_from_All IsFragment (bytes_eq name) pairs clips.sound) (slots_of-le-slots_held name pairs)
  where
    by : (found : Option PlainFragment) → IfSome found IsFragment
        → IfSome found (λ fragment. slots_of fragment ≤ slots_held pairs) → IfSome found IsClip
    by None sound few = tt
    by (Some fragment) sound few = record { sound = sound; few = omega (arith, clips.small) }
