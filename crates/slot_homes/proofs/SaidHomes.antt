-- What is said of a slot, place after place, and what is once it was put.
use Rattle.std.specs.Prelude.{◌≡◌, refl, ℕ, zero, suc, ◌+◌, ◌*◌, ◌-◌, ◌%◌, ◌==◌, ◌<◌, ◌≤◌, Bool, true, false, if◌then◌else◌, List, [], ◌∷◌, length, Option, Some, None, slice_get, slice_set}
use Rattle.std.specs.Option.{option_and_then, option_or}
use Rattle.std.proofs.Common.{ap, sym, ◌∙◌, arith, eqb-true, eq-eqb, ne_eqb}
use Rattle.std.proofs.Math.Bool.{false≢true}
use Rattle.std.proofs.Math.Nat.{mod-lt}
use Rattle.std.proofs.lemmas.List.{length-set}
use Rattle.slot_homes.specs.declared.home.Home.{Home}
use Rattle.slot_homes.specs.declared.homes.Entry.{Entry}
use Rattle.slot_homes.specs.Said.{AreTaken, OthersStay, entry_at, home_for, home_said, home_said_from, is_free, probes, stride}

-- an entry is the slot's, or another one's
pub own_home : (slot : ℕ) (entry : Entry) → entry.slot.0 ≡ slot → home_for slot (Some entry) ≡ Some entry.home
own_home slot entry same = ap (λ (b : Bool). if b then Some entry.home else None) (eq-eqb entry.slot.0 slot same)

pub other_home : (slot : ℕ) (entry : Entry) → (entry.slot.0 ≡ slot → ⊥) → home_for slot (Some entry) ≡ None
other_home slot entry other = ap (λ (b : Bool). if b then Some entry.home else None) (ne_eqb entry.slot.0 slot other)

-- where a place is another's, nothing is said of the slot there
pub taken_none : (slot : ℕ) (entry : Option Entry) → is_free slot entry ≡ false → home_for slot entry ≡ None
taken_none slot None taken = absurd (false≢true (sym taken))
taken_none slot (Some entry) taken = other_home slot entry (λ same. false≢true (sym taken ∙ eq-eqb entry.slot.0 slot same))

-- where a place is free for the slot, nothing is said of another there
pub free_none : (slot other : ℕ) (entry : Option Entry) → (other ≡ slot → ⊥) → is_free slot entry ≡ true → home_for other entry ≡ None
free_none slot other None apart free = refl
free_none slot other (Some entry) apart free =
    other_home other entry (λ same. apart (sym same ∙ eqb-true entry.slot.0 slot free))

-- one place more is another's
pub taken_next : (table : List (Option Entry)) (slot many : ℕ) → AreTaken table slot many
    → is_free slot (entry_at table slot many) ≡ false → AreTaken table slot (many + 1)
taken_next table slot many taken here = λ j within. by j within (j == many) refl
  where
    by : (j : ℕ) → j < many + 1 → (b : Bool) → (j == many) ≡ b → is_free slot (entry_at table slot j) ≡ false
    by j within true same = ap (λ n. is_free slot (entry_at table slot n)) (eqb-true j many same) ∙ here
    by j within false other = taken j (below (λ e. false≢true (sym other ∙ eq-eqb j many e)))
      where
        below : (j ≡ many → ⊥) → j < many
        below apart = omega (arith, within, apart)

-- ---- what is looked at in turn

module _ (table : List (Option Entry)) (slot : ℕ) where
  -- what is said in the places that are left is what is said
  abbrev pub Left : (probe : ℕ) → Type 0
  Left probe = home_said_from table slot probe (probes - probe) ≡ home_said table slot

  pub left_none : (probe : ℕ) → probes ≤ probe → Left probe → None ≡ home_said table slot
  left_none probe past left =
      let none : 0 ≡ probes - probe = omega (arith, past) in
      ap (λ n. home_said_from table slot probe n) none ∙ left

  -- one place after another
  next : (probe : ℕ) → probe < probes
      → option_or (home_for slot (entry_at table slot probe)) (home_said_from table slot (probe + 1) (probes - (probe + 1)))
      ≡ home_said_from table slot probe (probes - probe)
  next probe within =
      let more : suc (probes - (probe + 1)) ≡ probes - probe = omega (arith, within) in
      ap (λ n. home_said_from table slot probe n) more

  pub left_here : (probe : ℕ) → probe < probes → Left probe → (home : Home)
      → home_for slot (entry_at table slot probe) ≡ Some home → Some home ≡ home_said table slot
  left_here probe within left home is =
      sym (ap (λ o. option_or o (home_said_from table slot (probe + 1) (probes - (probe + 1)))) is) ∙ next probe within ∙ left

  pub left_next : (probe : ℕ) → probe < probes → Left probe → home_for slot (entry_at table slot probe) ≡ None → Left (probe + 1)
  left_next probe within left is =
      sym (ap (λ o. option_or o (home_said_from table slot (probe + 1) (probes - (probe + 1)))) is) ∙ next probe within ∙ left

-- ---- a place that is set

set_same : {X : Type 0} (xs : List X) (i : ℕ) (x : X) → i < length xs → slice_get (slice_set xs i x) i ≡ Some x
set_same [] i x within = absurd (omega (arith, within))
set_same (y ∷ ys) zero x within = refl
set_same (y ∷ ys) (suc i) x within = set_same ys i x (omega (arith, within))

set_other : {X : Type 0} (xs : List X) (i j : ℕ) (x : X) → (j ≡ i → ⊥) → slice_get (slice_set xs i x) j ≡ slice_get xs j
set_other [] i j x other = refl
set_other (y ∷ ys) zero zero x other = absurd (other refl)
set_other (y ∷ ys) zero (suc j) x other = refl
set_other (y ∷ ys) (suc i) zero x other = refl
set_other (y ∷ ys) (suc i) (suc j) x other = set_other ys i j x (λ e. other (ap suc e))

module _ (table : List (Option Entry)) (some : 0 < length table) (entry : Entry) (probe : ℕ) where
  -- the place, and the table then
  abbrev place : ℕ
  place = (entry.slot.0 + probe * stride) % length table

  abbrev made : List (Option Entry)
  made = slice_set table place (Some entry)

  -- the place after the slot's first, by this number, in the one table and in the other
  at : (j : ℕ) → (entry.slot.0 + j * stride) % length made ≡ (entry.slot.0 + j * stride) % length table
  at j = ap (λ n. (entry.slot.0 + j * stride) % n) (length-set table place (Some entry))

  -- there stands the entry, or what stood there before
  stands : (j : ℕ) → home_for entry.slot.0 (entry_at table entry.slot.0 j) ≡ None → (b : Bool) → ((entry.slot.0 + j * stride) % length table == place) ≡ b
      → home_for entry.slot.0 (entry_at made entry.slot.0 j) ≡ (if b then Some entry.home else None)
  stands j none true same =
      let is : (entry.slot.0 + j * stride) % length made ≡ place = at j ∙ eqb-true ((entry.slot.0 + j * stride) % length table) place same in
      ap (λ n. home_for entry.slot.0 (option_and_then (λ e. e) (slice_get made n))) is
      ∙ ap (λ o. home_for entry.slot.0 (option_and_then (λ e. e) o)) (set_same table place (Some entry) (mod-lt (entry.slot.0 + probe * stride) some))
      ∙ own_home entry.slot.0 entry refl
  stands j none false other =
      ap (λ n. home_for entry.slot.0 (option_and_then (λ e. e) (slice_get made n))) (at j)
      ∙ ap (λ o. home_for entry.slot.0 (option_and_then (λ e. e) o))
      (set_other table place ((entry.slot.0 + j * stride) % length table) (Some entry) apart)
      ∙ none
    where
      apart : (entry.slot.0 + j * stride) % length table ≡ place → ⊥
      apart e = absurd (false≢true (sym other ∙ eq-eqb ((entry.slot.0 + j * stride) % length table) place e))

  module _ (taken : AreTaken table entry.slot.0 probe) where
    others : (j : ℕ) → j < probe → home_for entry.slot.0 (entry_at table entry.slot.0 j) ≡ None
    others j within = taken_none entry.slot.0 (entry_at table entry.slot.0 j) (taken j within)

    -- so what is said from a place up to the one that was set is what was put there
    said_to : (d j : ℕ) → j + d ≡ probe → probe < probes → home_said_from made entry.slot.0 j (probes - j) ≡ Some entry.home
    said_to zero j e within = here
      where
        same : (entry.slot.0 + j * stride) % length made ≡ place
        same = at j ∙ ap (λ n. (entry.slot.0 + n * stride) % length table) (omega (arith, e))

        here : home_said_from made entry.slot.0 j (probes - j) ≡ Some entry.home
        here =
            sym (next made entry.slot.0 j (omega (arith, e, within)))
            ∙ ap (λ o. option_or o (home_said_from made entry.slot.0 (j + 1) (probes - (j + 1))))
            (ap (λ n. home_for entry.slot.0 (option_and_then (λ e. e) (slice_get made n))) same
            ∙ ap (λ o. home_for entry.slot.0 (option_and_then (λ e. e) o)) (set_same table place (Some entry) (mod-lt (entry.slot.0 + probe * stride) some))
            ∙ own_home entry.slot.0 entry refl)
    said_to (suc d) j e within =
        by ((entry.slot.0 + j * stride) % length table == place) refl (said_to d (j + 1) (omega (arith, e)) within)
      where
        by : (b : Bool) → ((entry.slot.0 + j * stride) % length table == place) ≡ b
            → home_said_from made entry.slot.0 (j + 1) (probes - (j + 1)) ≡ Some entry.home
            → home_said_from made entry.slot.0 j (probes - j) ≡ Some entry.home
        by true is further =
            sym (next made entry.slot.0 j (omega (arith, e, within)))
            ∙ ap (λ o. option_or o (home_said_from made entry.slot.0 (j + 1) (probes - (j + 1))))
            (stands j (others j (omega (arith, e))) true is)
        by false is further =
            sym (next made entry.slot.0 j (omega (arith, e, within)))
            ∙ ap (λ o. option_or o (home_said_from made entry.slot.0 (j + 1) (probes - (j + 1))))
            (stands j (others j (omega (arith, e))) false is)
            ∙ further

    -- and so what is said
    pub put_said : probe < probes → home_said made entry.slot.0 ≡ Some entry.home
    put_said within = said_to probe 0 (omega arith) within

  -- of another slot, of which nothing was said in the place that was set, the same is said as before
  module _ (other : ℕ) (apart : other ≡ entry.slot.0 → ⊥) (none : home_for other (entry_at table entry.slot.0 probe) ≡ None) where
    same_at : (j : ℕ) → home_for other (entry_at made other j) ≡ home_for other (entry_at table other j)
    same_at j = by ((other + j * stride) % length table == place) refl
      where
        where_it_was : (other + j * stride) % length made ≡ (other + j * stride) % length table
        where_it_was = ap (λ n. (other + j * stride) % n) (length-set table place (Some entry))

        by : (b : Bool) → ((other + j * stride) % length table == place) ≡ b → home_for other (entry_at made other j) ≡ home_for other (entry_at table other j)
        by true same =
            let is : (other + j * stride) % length table ≡ place = eqb-true ((other + j * stride) % length table) place same in
            ap (λ n. home_for other (option_and_then (λ e. e) (slice_get made n))) (where_it_was ∙ is)
            ∙ ap (λ o. home_for other (option_and_then (λ e. e) o)) (set_same table place (Some entry) (mod-lt (entry.slot.0 + probe * stride) some))
            ∙ other_home other entry (λ e. apart (sym e))
            ∙ sym none
            ∙ ap (λ n. home_for other (option_and_then (λ e. e) (slice_get table n))) (sym is)
        by false elsewhere =
            ap (λ n. home_for other (option_and_then (λ e. e) (slice_get made n))) where_it_was
            ∙ ap (λ o. home_for other (option_and_then (λ e. e) o)) (set_other table place ((other + j * stride) % length table) (Some entry) away)
          where
            away : (other + j * stride) % length table ≡ place → ⊥
            away e = false≢true (sym elsewhere ∙ eq-eqb ((other + j * stride) % length table) place e)

    same_from : (left j : ℕ) → home_said_from made other j left ≡ home_said_from table other j left
    same_from zero j = refl
    same_from (suc left) j =
        ap (λ o. option_or o (home_said_from made other (j + 1) left)) (same_at j)
        ∙ ap (λ said. option_or (home_for other (entry_at table other j)) said) (same_from left (j + 1))

    pub other_said : home_said made other ≡ home_said table other
    other_said = same_from probes 0

-- so all others stay where the place was free
module _ (table : List (Option Entry)) (entry : Entry) (probe : ℕ) where
  -- nothing is said of another in the place
  stay : (table : List (Option Entry)) (other : ℕ) → (other ≡ entry.slot.0 → ⊥) → home_for other (entry_at table entry.slot.0 probe) ≡ None
      → home_said (slice_set table ((entry.slot.0 + probe * stride) % length table) (Some entry)) other ≡ home_said table other
  stay [] other apart none = refl
  stay (x ∷ xs) other apart none = other_said (x ∷ xs) (omega arith) entry probe other apart none

  pub all_stay : is_free entry.slot.0 (entry_at table entry.slot.0 probe) ≡ true
      → OthersStay table (slice_set table ((entry.slot.0 + probe * stride) % length table) (Some entry)) entry.slot.0
  all_stay free other apart kept =
      stay table other apart (free_none entry.slot.0 other (entry_at table entry.slot.0 probe) apart free)

-- and all but one stay where none was
pub but_one_stays : (table : List (Option Entry)) (entry : Entry) → AreTaken table entry.slot.0 probes
    → OthersStay table (slice_set table ((entry.slot.0 + 0 * stride) % length table) (Some entry)) entry.slot.0
but_one_stays table entry taken other apart kept = by (is_free other (entry_at table entry.slot.0 0)) refl
  where
    by : (b : Bool) → is_free other (entry_at table entry.slot.0 0) ≡ b
        → home_said (slice_set table ((entry.slot.0 + 0 * stride) % length table) (Some entry)) other ≡ home_said table other
    by true its = absurd (kept (taken, its))
    by false another =
        stay table entry 0 table other apart (taken_none other (entry_at table entry.slot.0 0) another)
