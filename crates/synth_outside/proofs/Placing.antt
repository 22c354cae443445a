-- Setting a name in a list of entries, by the place of its first entry.
use Rattle.std.proofs.Common.{◌≡◌, ℕ, ◌+◌, suc, Bool, true, false, not, List, [], ◌∷◌, ◌++◌, Some, None, length, set, refl, arith, cond, nat_lt, position}
use Rattle.std.proofs.lemmas.Grind.{common_steps}
use Rattle.std.specs.List.{position_or_len}
use Rattle.std.specs.Bool.{if◌then◌else◌}
use Rattle.synth_outside.specs.Private.Entries.{is_named}

-- the list with these bytes under the name, in place of its first entry or, where it has none, at
-- the end
abbrev pub with_content : List ℕ → List ℕ → List (List ℕ × List ℕ) → List (List ℕ × List ℕ)
with_content name bytes [] = (name, bytes) ∷ []
with_content name bytes (entry ∷ entries) =
    if is_named name entry then (name, bytes) ∷ entries else entry ∷ with_content name bytes entries

-- one entry more in front, which has the name or not
placed_behind : {A : Type 0} (b : Bool) (v x : A) (xs whole : List A) (k : ℕ) → whole ≡
    cond (nat_lt k (length xs)) (set xs k v) (xs ++ v ∷ []) → (if b then v ∷ xs else x ∷ whole) ≡
    cond (nat_lt (cond (not b) (1 + k) 0) (suc (length xs)))
    (set (x ∷ xs) (cond (not b) (1 + k) 0) v) (x ∷ (xs ++ v ∷ []))
placed_behind true v x xs whole k e = grind (arith, common_steps)
placed_behind false v x xs whole k e = grind (arith, common_steps)

-- the first entry of the name is written over, or there is none and a new one is put behind
with_content-placed : (name bytes : List ℕ) (entries : List (List ℕ × List ℕ)) →
    with_content name bytes entries ≡
    cond (nat_lt (position_or_len (is_named name) entries) (length entries))
    (set entries (position_or_len (is_named name) entries) (name, bytes))
    (entries ++ (name, bytes) ∷ [])
with_content-placed name bytes [] = refl
with_content-placed name bytes (entry ∷ entries) =
    placed_behind (is_named name entry) (name, bytes) entry entries _ _
    (with_content-placed name bytes entries)

-- where the name has an entry, it is written over
pub at_place : (name bytes : List ℕ) (entries : List (List ℕ × List ℕ)) (place : ℕ) →
    position (is_named name) entries ≡ Some place → set entries place (name, bytes) ≡
    with_content name bytes entries
at_place name bytes entries place found = grind (arith, common_steps, with_content-placed)

-- where it has none, one is put behind
pub behind : (name bytes : List ℕ) (entries : List (List ℕ × List ℕ)) →
    position (is_named name) entries ≡ None → entries ++ (name, bytes) ∷ [] ≡
    with_content name bytes entries
behind name bytes entries missing = grind (arith, common_steps, with_content-placed)
