-- Tables in whose places nothing stands.
use Rattle.std.specs.Prelude.{◌≡◌, refl, ℕ, zero, suc, ◌+◌, ◌*◌, ◌%◌, ◌<◌, List, [], ◌∷◌, length, Option, Some, None, slice_get}
use Rattle.std.specs.Option.{option_and_then, option_or}
use Rattle.std.proofs.Common.{ap, ◌∙◌, arith}
use Rattle.std.proofs.Math.Nat.{mod-lt}
use Rattle.slot_homes.specs.declared.homes.Entry.{Entry}
use Rattle.slot_homes.specs.Said.{NothingSaid, entry_at, home_for, home_said_from, probes, stride}

-- nothing stands in the first so many places
abbrev pub AreEmpty : List (Option Entry) → (k : ℕ) → Type 0
AreEmpty table k = (j : ℕ) → j < k → slice_get table j ≡ Some None

empty_at : (table : List (Option Entry)) (slot probe : ℕ) → AreEmpty table (length table) → entry_at table slot probe ≡ None
empty_at [] slot probe empty = refl
empty_at (x ∷ xs) slot probe empty =
    ap (option_and_then (λ entry. entry)) (empty ((slot + probe * stride) % length (x ∷ xs)) (mod-lt (slot + probe * stride) (omega arith)))

none_from : (table : List (Option Entry)) (slot probe left : ℕ) → AreEmpty table (length table) → home_said_from table slot probe left ≡ None
none_from table slot probe zero empty = refl
none_from table slot probe (suc left) empty =
    ap (λ o. option_or (home_for slot o) (home_said_from table slot (probe + 1) left)) (empty_at table slot probe empty)
    ∙ none_from table slot (probe + 1) left empty

-- where nothing stands in any place, nothing is said
pub nothing_said : (table : List (Option Entry)) → AreEmpty table (length table) → NothingSaid table
nothing_said table empty = λ slot. none_from table slot 0 probes empty
