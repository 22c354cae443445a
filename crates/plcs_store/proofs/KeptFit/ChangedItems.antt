-- Lists of which an item is changed, put behind the others, or dropped at the end: what is found in them.
-- Frames are found by their numbers, and no act changes more than one of them; so what is found after an act is what
-- was found before it, but for that one. Each lemma is an induction on the list.
use Rattle.std.specs.Prelude.{◌≡◌, refl, ℕ, zero, suc, ◌<◌, List, [], ◌∷◌, ◌++◌, length, take, slice_get, slice_set, Option, Some, None, ◌⊎◌}
use Rattle.std.proofs.Common.{ap, sym, ◌∙◌, subst, arith, inl, inr}
use Rattle.std.proofs.lemmas.Option.{none-some, same_Some}
use Rattle.plcs_store.specs.CellAt.{changed_at}
use Rattle.plcs_store.proofs.TakenBack.{changed_behind}

-- ---- an item changed

-- what is found in a list of which one item is changed is what was there, or that item changed
pub changed_related : {A : Type 0} (R : Option A → Option A → Type 0) (k : ℕ) (f : A → A) (xs : List A)
    → ((found : Option A) → R found found) → ((a : A) → slice_get xs k ≡ Some a → R (Some a) (Some (f a)))
    → (j : ℕ) → R (slice_get xs j) (slice_get (changed_at k f xs) j)
changed_related R k f [] same own j = same None
changed_related R zero f (x ∷ xs) same own zero = own x refl
changed_related R zero f (x ∷ xs) same own (suc j) = same (slice_get xs j)
changed_related {A} R (suc k) f (x ∷ xs) same own zero =
    subst (λ (ys : List A). R (Some x) (slice_get ys 0)) (sym (changed_behind k f x xs)) (same (Some x))
changed_related {A} R (suc k) f (x ∷ xs) same own (suc j) =
    subst (λ (ys : List A). R (slice_get xs j) (slice_get ys (suc j))) (sym (changed_behind k f x xs))
    (changed_related R k f xs same own j)

-- the others are as they were
pub other_item : {A : Type 0} (k : ℕ) (f : A → A) (xs : List A) (j : ℕ) → (j ≡ k → ⊥) → slice_get (changed_at k f xs) j ≡ slice_get xs j
other_item k f [] j differs = refl
other_item zero f (x ∷ xs) zero differs = absurd (differs refl)
other_item zero f (x ∷ xs) (suc j) differs = refl
other_item {A} (suc k) f (x ∷ xs) zero differs = ap (λ (ys : List A). slice_get ys 0) (changed_behind k f x xs)
other_item {A} (suc k) f (x ∷ xs) (suc j) differs =
    ap (λ (ys : List A). slice_get ys (suc j)) (changed_behind k f x xs) ∙ other_item k f xs j (λ e. differs (ap suc e))

-- and that item is changed
pub own_item : {A : Type 0} (k : ℕ) (f : A → A) (xs : List A) (a : A) → slice_get xs k ≡ Some a → slice_get (changed_at k f xs) k ≡ Some (f a)
own_item k f [] a found = absurd (none-some a found)
own_item {A} zero f (x ∷ xs) a found = ap (λ (one : A). Some (f one)) (same_Some x a found)
own_item {A} (suc k) f (x ∷ xs) a found =
    ap (λ (ys : List A). slice_get ys (suc k)) (changed_behind k f x xs) ∙ own_item k f xs a found

-- ---- an item set

-- what is found in a list of which one item is set is what was there, or the one that was set
pub set_item : {A : Type 0} (xs : List A) (k : ℕ) (b : A) (j : ℕ) (found : A) → slice_get (slice_set xs k b) j ≡ Some found
    → (found ≡ b) ⊎ (slice_get xs j ≡ Some found)
set_item [] k b j found e = inr e
set_item (x ∷ xs) zero b zero found e = inl (sym (same_Some b found e))
set_item (x ∷ xs) zero b (suc j) found e = inr e
set_item (x ∷ xs) (suc k) b zero found e = inr e
set_item (x ∷ xs) (suc k) b (suc j) found e = set_item xs k b j found e

-- where something was, there is that, or what was set
pub item_still : {A : Type 0} (xs : List A) (k : ℕ) (b : A) (j : ℕ) (a : A) → slice_get xs j ≡ Some a
    → (found : A) × (slice_get (slice_set xs k b) j ≡ Some found) × ((found ≡ b) ⊎ (found ≡ a))
item_still [] k b j a e = absurd (none-some a e)
item_still (x ∷ xs) zero b zero a e = (b, refl, inl refl)
item_still (x ∷ xs) zero b (suc j) a e = (a, e, inr refl)
item_still (x ∷ xs) (suc k) b zero a e = (a, e, inr refl)
item_still (x ∷ xs) (suc k) b (suc j) a e = item_still xs k b j a e

-- ---- an item put behind the others

pub item_before : {A : Type 0} (xs ys : List A) (k : ℕ) (a : A) → slice_get xs k ≡ Some a → slice_get (xs ++ ys) k ≡ Some a
item_before [] ys k a found = absurd (none-some a found)
item_before (x ∷ xs) ys zero a found = found
item_before (x ∷ xs) ys (suc k) a found = item_before xs ys k a found

pub last_item : {A : Type 0} (xs : List A) (last : A) → slice_get (xs ++ last ∷ []) (length xs) ≡ Some last
last_item [] last = refl
last_item (x ∷ xs) last = last_item xs last

-- what is found there was there, or is the last
pub item_in_longer : {A : Type 0} (xs : List A) (last : A) (k : ℕ) (a : A) → slice_get (xs ++ last ∷ []) k ≡ Some a
    → (slice_get xs k ≡ Some a) ⊎ ((k ≡ length xs) × (a ≡ last))
item_in_longer [] last zero a found = inr (refl, sym (same_Some last a found))
item_in_longer [] last (suc k) a found = absurd (none-some a found)
item_in_longer (x ∷ xs) last zero a found = inl found
item_in_longer (x ∷ xs) last (suc k) a found =
    elim (item_in_longer xs last k a found) as (λ _. (slice_get xs k ≡ Some a) ⊎ ((suc k ≡ length (x ∷ xs)) × (a ≡ last))) [
      | inl there ↦ inl there
      | inr (at_end, is) ↦ inr (ap suc at_end, is)
    ]

-- ---- the first items alone

pub item_among_first : {A : Type 0} (n : ℕ) (xs : List A) (k : ℕ) (a : A) → slice_get (take n xs) k ≡ Some a
    → (slice_get xs k ≡ Some a) × (k < n)
item_among_first zero xs k a found = absurd (none-some a found)
item_among_first (suc n) [] k a found = absurd (none-some a found)
item_among_first (suc n) (x ∷ xs) zero a found = (found, omega arith)
item_among_first (suc n) (x ∷ xs) (suc k) a found =
    let there = item_among_first n xs k a found in
    (there.0, omega (arith, there.1))

pub first_item : {A : Type 0} (n : ℕ) (xs : List A) (k : ℕ) (a : A) → slice_get xs k ≡ Some a → k < n → slice_get (take n xs) k ≡ Some a
first_item zero xs k a found few = absurd (omega (arith, few))
first_item (suc n) [] k a found few = absurd (none-some a found)
first_item (suc n) (x ∷ xs) zero a found few = found
first_item (suc n) (x ∷ xs) (suc k) a found few = first_item n xs k a found (omega (arith, few))
