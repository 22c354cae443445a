-- Places in order, without some of them and with others: what is done place by place, and what comes of it.
use Rattle.std.proofs.Common.{◌≡◌, ℕ, ◌+◌, ◌<◌, zero, suc, Bool, true, false, cond, List, [], ◌∷◌, ◌++◌, length, drop, take, get_or, refl, sym, ap, subst, ◌∙◌, add-one, append_assoc, arith}
use Rattle.std.specs.Prelude.{◌&&◌, ◌||◌, not}
use Rattle.std.specs.List.{AllByRecursion, filter}
use Rattle.std.specs.List.Sorted.{IsNonDecreasingBy, IsPartitionPoint, IsStrictlySortedBy}
use Rattle.std.specs.Ordering.{eq_by_cmp, is_eq, is_gt, is_lt, ordering_index, ordering_reverse}
use Rattle.std.specs.declared.cmp.Ordering.{Ordering}
use Rattle.std.specs.declared.cmp.Ordering.TheVariants.{Less, Equal, Greater}
use Rattle.std.proofs.lemmas.List.Folds.{list_any-append}
use Rattle.std.proofs.lemmas.List.Kept.{IsStrictlySortedBy-filter}
use Rattle.std.proofs.lemmas.List.Sorted.{searchable_from_sorted}
use Rattle.plcs_base.specs.Mark.{phrase_cmp}
use Rattle.plcs_base.specs.PlaceOrder.{places_total, same_place}
use Rattle.plcs_base.specs.declared.place.PhraseAt.{PhraseAt}
use Rattle.decl_table.specs.Private.UsesView.{IsWith, IsWithout, earlier_places, is_among, later_places}

-- places without some, which are taken out one after the other
abbrev pub taken_out : (out places : List PhraseAt) → List PhraseAt
taken_out [] places = places
taken_out (at ∷ out) places = earlier_places at places ++ taken_out out (later_places at places)

-- places with others, which are put in one after the other
abbrev pub put_in : (more places : List PhraseAt) → List PhraseAt
put_in [] places = places
put_in (at ∷ more) places = earlier_places at places ++ (at ∷ put_in more (later_places at places))

-- ---- what passes a test

and_false : (a : Bool) → (a && false) ≡ false
and_false true = refl
and_false false = refl

and_true : (a : Bool) → (a && true) ≡ a
and_true true = refl
and_true false = refl

or_false : (a : Bool) → (a || false) ≡ a
or_false true = refl
or_false false = refl

-- a place is among those that pass where it is among all and passes
among_filter : (test : PhraseAt → Bool) (q : PhraseAt) (places : List PhraseAt)
    → is_among q (filter test places) ≡ (is_among q places && test q)
among_filter test q [] = refl
among_filter test q (x ∷ xs) = by (test x) (eq_by_cmp phrase_cmp q x) refl refl (among_filter test q xs)
  where
    by : (passes same : Bool) → test x ≡ passes → eq_by_cmp phrase_cmp q x ≡ same
        → is_among q (filter test xs) ≡ (is_among q xs && test q)
        → is_among q (cond passes (x ∷ filter test xs) (filter test xs)) ≡ ((same || is_among q xs) && test q)
    by true true p e again =
        ap (λ b. b || is_among q (filter test xs)) e ∙ sym (ap test (same_place q x e) ∙ p)
    by true false p e again = ap (λ b. b || is_among q (filter test xs)) e ∙ again
    by false true p e again =
        let fails : test q ≡ false = ap test (same_place q x e) ∙ p in
        again ∙ ap (λ b. is_among q xs && b) fails ∙ and_false (is_among q xs) ∙ sym fails
    by false false p e again = again

all_filter : (P : PhraseAt → Type 0) (test : PhraseAt → Bool) (xs : List PhraseAt) → AllByRecursion P xs → AllByRecursion P (filter test xs)
all_filter P test [] all = all
all_filter P test (x ∷ xs) all = by (test x) (all_filter P test xs all.1)
  where
    by : (passes : Bool) → AllByRecursion P (filter test xs) → AllByRecursion P (cond passes (x ∷ filter test xs) (filter test xs))
    by true again = (all.0, again)
    by false again = again

-- each that passes is what the test says
all_passing : (P : PhraseAt → Type 0) (test : PhraseAt → Bool) → ((x : PhraseAt) → test x ≡ true → P x) → (xs : List PhraseAt)
    → AllByRecursion P (filter test xs)
all_passing P test means [] = tt
all_passing P test means (x ∷ xs) = by (test x) refl (all_passing P test means xs)
  where
    by : (passes : Bool) → test x ≡ passes → AllByRecursion P (filter test xs)
        → AllByRecursion P (cond passes (x ∷ filter test xs) (filter test xs))
    by true p again = (means x p, again)
    by false p again = again

none_passes : (test : PhraseAt → Bool) (xs : List PhraseAt) → AllByRecursion (λ x. test x ≡ false) xs → filter test xs ≡ []
none_passes test [] all = refl
none_passes test (x ∷ xs) all = ap (λ b. cond b (x ∷ filter test xs) (filter test xs)) all.0 ∙ none_passes test xs all.1

all_pass : (test : PhraseAt → Bool) (xs : List PhraseAt) → AllByRecursion (λ x. test x ≡ true) xs → filter test xs ≡ xs
all_pass test [] all = refl
all_pass test (x ∷ xs) all =
    ap (λ b. cond b (x ∷ filter test xs) (filter test xs)) all.0 ∙ ap (λ rest. x ∷ rest) (all_pass test xs all.1)

all_append : (P : PhraseAt → Type 0) (xs ys : List PhraseAt) → AllByRecursion P xs → AllByRecursion P ys → AllByRecursion P (xs ++ ys)
all_append P [] ys all others = others
all_append P (x ∷ xs) ys all others = (all.0, all_append P xs ys all.1 others)

all_weaker : (P Q : PhraseAt → Type 0) → ((x : PhraseAt) → P x → Q x) → (xs : List PhraseAt) → AllByRecursion P xs → AllByRecursion Q xs
all_weaker P Q to [] all = tt
all_weaker P Q to (x ∷ xs) all = (to x all.0, all_weaker P Q to xs all.1)

-- ---- what the order says

is_less : (o : Ordering) → is_lt o ≡ true → o ≡ Less
is_less Less e = refl
is_less Equal e = absurd (cc)
is_less Greater e = absurd (cc)

is_greater : (o : Ordering) → is_gt o ≡ true → o ≡ Greater
is_greater Less e = absurd (cc)
is_greater Equal e = absurd (cc)
is_greater Greater e = refl

-- a place comes after another one where that comes before it
before_after : (x y : PhraseAt) → phrase_cmp x y ≡ Greater → phrase_cmp y x ≡ Less
before_after x y after = places_total.antisymm y x ∙ ap ordering_reverse after

after_before : (x y : PhraseAt) → phrase_cmp x y ≡ Less → phrase_cmp y x ≡ Greater
after_before x y before = places_total.antisymm y x ∙ ap ordering_reverse before

-- a place before all isn't among them
none_before : (at q : PhraseAt) (out : List PhraseAt) → AllByRecursion (λ y. phrase_cmp at y ≡ Less) out → phrase_cmp q at ≡ Less
    → is_among q out ≡ false
none_before at q [] all before = refl
none_before at q (x ∷ out) all before =
    ap (λ b. b || is_among q out) (ap is_eq (places_total.trans q at x before all.0)) ∙ none_before at q out all.1 before

-- the earlier ones come before the place, and the later ones after it
earlier_before : (at : PhraseAt) (places : List PhraseAt) → AllByRecursion (λ x. phrase_cmp x at ≡ Less) (earlier_places at places)
earlier_before at places =
    all_passing (λ x. phrase_cmp x at ≡ Less) (λ x. is_lt (phrase_cmp x at)) (λ x passes. is_less (phrase_cmp x at) passes) places

later_after : (at : PhraseAt) (places : List PhraseAt) → AllByRecursion (λ y. phrase_cmp at y ≡ Less) (later_places at places)
later_after at places =
    all_passing (λ y. phrase_cmp at y ≡ Less) (λ x. is_gt (phrase_cmp x at))
    (λ x passes. before_after x at (is_greater (phrase_cmp x at) passes)) places

-- ---- which places there are

-- by how the place compares with the first that goes
out_first : (o : Ordering) (a b : Bool) → (o ≡ Less → b ≡ false) → ((a && is_lt o) || ((a && is_gt o) && not b)) ≡ (a && not (is_eq o || b))
out_first Less true true none = none refl
out_first Less true false none = refl
out_first Less false b none = refl
out_first Equal true b none = refl
out_first Equal false b none = refl
out_first Greater true b none = refl
out_first Greater false b none = refl

without_each : (out places : List PhraseAt) → IsStrictlySortedBy phrase_cmp out → (q : PhraseAt)
    → is_among q (taken_out out places) ≡ (is_among q places && not (is_among q out))
unfolding IsStrictlySortedBy
without_each [] places sorted q = sym (and_true (is_among q places))
without_each (at ∷ out) places sorted q =
    list_any-append (eq_by_cmp phrase_cmp q) (earlier_places at places) (taken_out out (later_places at places))
    ∙ ap (λ b. b || is_among q (taken_out out (later_places at places))) (among_filter (λ x. is_lt (phrase_cmp x at)) q places)
    ∙ ap (λ b. (is_among q places && is_lt (phrase_cmp q at)) || b) (without_each out (later_places at places) sorted.1 q)
    ∙ ap (λ b. (is_among q places && is_lt (phrase_cmp q at)) || (b && not (is_among q out)))
    (among_filter (λ x. is_gt (phrase_cmp x at)) q places)
    ∙ out_first (phrase_cmp q at) (is_among q places) (is_among q out) (none_before at q out sorted.0)

-- by how the place compares with the first that comes
more_first : (o : Ordering) (a b : Bool) → ((a && is_lt o) || (is_eq o || ((a && is_gt o) || b))) ≡ (a || (is_eq o || b))
more_first Less true b = refl
more_first Less false b = refl
more_first Equal true b = refl
more_first Equal false b = refl
more_first Greater true b = refl
more_first Greater false b = refl

with_each : (more places : List PhraseAt) (q : PhraseAt) → is_among q (put_in more places) ≡ (is_among q places || is_among q more)
with_each [] places q = sym (or_false (is_among q places))
with_each (at ∷ more) places q =
    list_any-append (eq_by_cmp phrase_cmp q) (earlier_places at places) (at ∷ put_in more (later_places at places))
    ∙ ap (λ b. b || (eq_by_cmp phrase_cmp q at || is_among q (put_in more (later_places at places))))
    (among_filter (λ x. is_lt (phrase_cmp x at)) q places)
    ∙ ap (λ b. (is_among q places && is_lt (phrase_cmp q at)) || (eq_by_cmp phrase_cmp q at || b)) (with_each more (later_places at places) q)
    ∙ ap (λ b. (is_among q places && is_lt (phrase_cmp q at)) || (eq_by_cmp phrase_cmp q at || (b || is_among q more)))
    (among_filter (λ x. is_gt (phrase_cmp x at)) q places)
    ∙ more_first (phrase_cmp q at) (is_among q places) (is_among q more)

-- ---- they are in order

-- places before one and places after it
joined_sorted : (at : PhraseAt) (xs ys : List PhraseAt) → IsStrictlySortedBy phrase_cmp xs → AllByRecursion (λ x. phrase_cmp x at ≡ Less) xs
    → IsStrictlySortedBy phrase_cmp ys → AllByRecursion (λ y. phrase_cmp at y ≡ Less) ys → IsStrictlySortedBy phrase_cmp (xs ++ ys)
unfolding IsStrictlySortedBy
joined_sorted at [] ys sorted before others after = others
joined_sorted at (x ∷ xs) ys sorted before others after = (
  all_append (λ y. phrase_cmp x y ≡ Less) xs ys sorted.0
      (all_weaker (λ y. phrase_cmp at y ≡ Less) (λ y. phrase_cmp x y ≡ Less) (λ y less. places_total.trans x at y before.0 less) ys after),
  joined_sorted at xs ys sorted.1 before.1 others after,
)

-- with that one between them
joined_around : (at : PhraseAt) (xs ys : List PhraseAt) → IsStrictlySortedBy phrase_cmp xs → AllByRecursion (λ x. phrase_cmp x at ≡ Less) xs
    → IsStrictlySortedBy phrase_cmp ys → AllByRecursion (λ y. phrase_cmp at y ≡ Less) ys → IsStrictlySortedBy phrase_cmp (xs ++ (at ∷ ys))
unfolding IsStrictlySortedBy
joined_around at [] ys sorted before others after = (after, others)
joined_around at (x ∷ xs) ys sorted before others after = (
  all_append (λ y. phrase_cmp x y ≡ Less) xs (at ∷ ys) sorted.0
      (before.0, all_weaker (λ y. phrase_cmp at y ≡ Less) (λ y. phrase_cmp x y ≡ Less) (λ y less. places_total.trans x at y before.0 less) ys after),
  joined_around at xs ys sorted.1 before.1 others after,
)

out_above : (low : PhraseAt) (out places : List PhraseAt) → AllByRecursion (λ y. phrase_cmp low y ≡ Less) places
    → AllByRecursion (λ y. phrase_cmp low y ≡ Less) (taken_out out places)
out_above low [] places all = all
out_above low (at ∷ out) places all =
    all_append (λ y. phrase_cmp low y ≡ Less) (earlier_places at places) (taken_out out (later_places at places))
    (all_filter (λ y. phrase_cmp low y ≡ Less) (λ x. is_lt (phrase_cmp x at)) places all)
    (out_above low out (later_places at places) (all_filter (λ y. phrase_cmp low y ≡ Less) (λ x. is_gt (phrase_cmp x at)) places all))

out_sorted : (out places : List PhraseAt) → IsStrictlySortedBy phrase_cmp places → IsStrictlySortedBy phrase_cmp (taken_out out places)
out_sorted [] places sorted = sorted
out_sorted (at ∷ out) places sorted =
    joined_sorted at (earlier_places at places) (taken_out out (later_places at places))
    (IsStrictlySortedBy-filter phrase_cmp (λ x. is_lt (phrase_cmp x at)) places sorted) (earlier_before at places)
    (out_sorted out (later_places at places) (IsStrictlySortedBy-filter phrase_cmp (λ x. is_gt (phrase_cmp x at)) places sorted))
    (out_above at out (later_places at places) (later_after at places))

in_above : (low : PhraseAt) (more places : List PhraseAt) → AllByRecursion (λ y. phrase_cmp low y ≡ Less) more
    → AllByRecursion (λ y. phrase_cmp low y ≡ Less) places → AllByRecursion (λ y. phrase_cmp low y ≡ Less) (put_in more places)
in_above low [] places above all = all
in_above low (at ∷ more) places above all =
    all_append (λ y. phrase_cmp low y ≡ Less) (earlier_places at places) (at ∷ put_in more (later_places at places))
    (all_filter (λ y. phrase_cmp low y ≡ Less) (λ x. is_lt (phrase_cmp x at)) places all) (
      above.0,
      in_above low more (later_places at places) above.1 (all_filter (λ y. phrase_cmp low y ≡ Less) (λ x. is_gt (phrase_cmp x at)) places all),
    )

in_sorted : (more places : List PhraseAt) → IsStrictlySortedBy phrase_cmp more → IsStrictlySortedBy phrase_cmp places
    → IsStrictlySortedBy phrase_cmp (put_in more places)
unfolding IsStrictlySortedBy
in_sorted [] places others sorted = sorted
in_sorted (at ∷ more) places others sorted =
    joined_around at (earlier_places at places) (put_in more (later_places at places))
    (IsStrictlySortedBy-filter phrase_cmp (λ x. is_lt (phrase_cmp x at)) places sorted) (earlier_before at places)
    (in_sorted more (later_places at places) others.1 (IsStrictlySortedBy-filter phrase_cmp (λ x. is_gt (phrase_cmp x at)) places sorted))
    (in_above at more (later_places at places) others.0 (later_after at places))

-- ---- place after place

-- one more is taken out
pub out_next : (list rest out all new front back : List PhraseAt) (k : ℕ) (at : PhraseAt) → drop k out ≡ at ∷ drop (k + 1) out
    → new ≡ list ++ front → front ≡ earlier_places at rest → back ≡ later_places at rest
    → list ++ taken_out (drop k out) rest ≡ all → new ++ taken_out (drop (k + 1) out) back ≡ all
out_next list rest out all new front back k at turn new_is front_is back_is left =
    ap (λ xs. xs ++ taken_out (drop (k + 1) out) back) (new_is ∙ ap (λ xs. list ++ xs) front_is)
    ∙ ap (λ b. (list ++ earlier_places at rest) ++ taken_out (drop (k + 1) out) b) back_is
    ∙ append_assoc list (earlier_places at rest) (taken_out (drop (k + 1) out) (later_places at rest))
    ∙ ap (λ o. list ++ taken_out o rest) (sym turn)
    ∙ left

-- one more is put in
pub in_next : (list rest more all mid new front back : List PhraseAt) (k : ℕ) (at : PhraseAt) → drop k more ≡ at ∷ drop (k + 1) more
    → mid ≡ list ++ front → new ≡ mid ++ (at ∷ []) → front ≡ earlier_places at rest → back ≡ later_places at rest
    → list ++ put_in (drop k more) rest ≡ all → new ++ put_in (drop (k + 1) more) back ≡ all
in_next list rest more all mid new front back k at turn mid_is new_is front_is back_is left =
    ap (λ xs. xs ++ put_in (drop (k + 1) more) back) (new_is ∙ ap (λ xs. xs ++ (at ∷ [])) (mid_is ∙ ap (λ xs. list ++ xs) front_is))
    ∙ ap (λ b. ((list ++ earlier_places at rest) ++ (at ∷ [])) ++ put_in (drop (k + 1) more) b) back_is
    ∙ append_assoc (list ++ earlier_places at rest) (at ∷ []) (put_in (drop (k + 1) more) (later_places at rest))
    ∙ append_assoc list (earlier_places at rest) (at ∷ put_in (drop (k + 1) more) (later_places at rest))
    ∙ ap (λ o. list ++ put_in o rest) (sym turn)
    ∙ left

-- so they are what is wanted
pub is_without : (places out now : List PhraseAt) → IsStrictlySortedBy phrase_cmp places → IsStrictlySortedBy phrase_cmp out
    → now ≡ taken_out out places → IsWithout places out now
is_without places out now sorted others is =
    subst (IsWithout places out) (sym is)
    record { increasing = out_sorted out places sorted; each = λ at. without_each out places others at }

pub is_with : (places more now : List PhraseAt) → IsStrictlySortedBy phrase_cmp places → IsStrictlySortedBy phrase_cmp more
    → now ≡ put_in more places → IsWith places more now
is_with places more now sorted others is =
    subst (IsWith places more) (sym is)
    record { increasing = in_sorted more places others sorted; each = λ at. with_each more places at }

-- later places are in order
pub later_sorted : (at : PhraseAt) (places : List PhraseAt) → IsStrictlySortedBy phrase_cmp places
    → IsStrictlySortedBy phrase_cmp (later_places at places)
later_sorted at places sorted = IsStrictlySortedBy-filter phrase_cmp (λ x. is_gt (phrase_cmp x at)) places sorted

-- ---- where a place stands

all_at : (P : PhraseAt → Type 0) (xs : List PhraseAt) (k : ℕ) (d : PhraseAt) → AllByRecursion P xs → k < length xs → P (get_or xs k d)
all_at P [] k d all within = absurd (omega (arith, within))
all_at P (x ∷ xs) zero d all within = all.0
all_at P (x ∷ xs) (suc k) d all within = all_at P xs k d all.1 (omega (arith, within))

-- what comes before and after the one that is found
pub split_found : (at : PhraseAt) (xs : List PhraseAt) (k : ℕ) → IsStrictlySortedBy phrase_cmp xs → k < length xs
    → phrase_cmp (get_or xs k at) at ≡ Equal → (take k xs ≡ earlier_places at xs) × (drop (suc k) xs ≡ later_places at xs)
unfolding IsStrictlySortedBy
split_found at [] k sorted within is = absurd (omega (arith, within))
split_found at (x ∷ xs) zero sorted within is = (
  sym
      (ap (λ o. cond (is_lt o) (x ∷ earlier_places at xs) (earlier_places at xs)) is
      ∙ none_passes (λ y. is_lt (phrase_cmp y at)) xs
      (all_weaker (λ y. phrase_cmp x y ≡ Less) (λ y. is_lt (phrase_cmp y at) ≡ false)
      (λ y less. ap is_lt (after_before at y (sym (places_total.congr x at y is) ∙ less))) xs sorted.0)),
  sym
      (ap (λ o. cond (is_gt o) (x ∷ later_places at xs) (later_places at xs)) is
      ∙ all_pass (λ y. is_gt (phrase_cmp y at)) xs
      (all_weaker (λ y. phrase_cmp x y ≡ Less) (λ y. is_gt (phrase_cmp y at) ≡ true)
      (λ y less. ap is_gt (after_before at y (sym (places_total.congr x at y is) ∙ less))) xs sorted.0)),
)
split_found at (x ∷ xs) (suc k) sorted within is =
    let inside : k < length xs = omega (arith, within) in
    let less : phrase_cmp x at ≡ Less =
    before_after at x
    (sym (places_total.congr (get_or xs k at) at x is)
    ∙ after_before x (get_or xs k at) (all_at (λ y. phrase_cmp x y ≡ Less) xs k at sorted.0 inside)) in
    let rest = split_found at xs k sorted.1 inside is in (
      ap (λ ys. x ∷ ys) rest.0 ∙ sym (ap (λ o. cond (is_lt o) (x ∷ earlier_places at xs) (earlier_places at xs)) less),
      rest.1 ∙ sym (ap (λ o. cond (is_gt o) (x ∷ later_places at xs) (later_places at xs)) less),
    )

-- what comes before and after the gap where it would stand
pub split_gap : (at : PhraseAt) (xs : List PhraseAt) (k : ℕ)
    → IsPartitionPoint (λ y. phrase_cmp y at ≡ Less) (λ y. phrase_cmp y at ≡ Greater) xs k
    → (take k xs ≡ earlier_places at xs) × (drop k xs ≡ later_places at xs)
split_gap at [] zero parts = (refl, refl)
split_gap at [] (suc k) parts = (refl, refl)
split_gap at (x ∷ xs) zero parts =
    let greater : phrase_cmp x at ≡ Greater = parts.1 0 at (omega arith) (omega arith) in
    let rest = split_gap at xs zero (λ j d low high. absurd (omega (arith, high)), λ j d low high. parts.1 (suc j) d (omega arith) (omega (arith, high))) in (
      rest.0 ∙ sym (ap (λ o. cond (is_lt o) (x ∷ earlier_places at xs) (earlier_places at xs)) greater),
      ap (λ ys. x ∷ ys) rest.1 ∙ sym (ap (λ o. cond (is_gt o) (x ∷ later_places at xs) (later_places at xs)) greater),
    )
split_gap at (x ∷ xs) (suc k) parts =
    let less : phrase_cmp x at ≡ Less = parts.0 0 at (omega arith) (omega arith) in
    let rest =
    split_gap at xs k (
      λ j d low high. parts.0 (suc j) d (omega arith) (omega (arith, high)),
      λ j d low high. parts.1 (suc j) d (omega (arith, low)) (omega (arith, high)),
    ) in (
      ap (λ ys. x ∷ ys) rest.0 ∙ sym (ap (λ o. cond (is_lt o) (x ∷ earlier_places at xs) (earlier_places at xs)) less),
      rest.1 ∙ sym (ap (λ o. cond (is_gt o) (x ∷ later_places at xs) (later_places at xs)) less),
    )

-- places in order may be searched
adjacent : (xs : List PhraseAt) → IsStrictlySortedBy phrase_cmp xs → (k : ℕ) (d : PhraseAt) → suc k < length xs
    → is_lt (phrase_cmp (get_or xs (suc k) d) (get_or xs k d)) ≡ false
unfolding IsStrictlySortedBy
adjacent [] sorted k d within = absurd (omega (arith, within))
adjacent (x ∷ []) sorted k d within = absurd (omega (arith, within))
adjacent (x ∷ (y ∷ xs)) sorted zero d within = ap is_lt (after_before x y sorted.0.0)
adjacent (x ∷ (y ∷ xs)) sorted (suc k) d within = adjacent (y ∷ xs) sorted.1 k d (omega (arith, within))

pub searchable : (at : PhraseAt) (xs : List PhraseAt) → IsStrictlySortedBy phrase_cmp xs
    → IsNonDecreasingBy (λ y. ordering_index (phrase_cmp y at)) xs
searchable at xs sorted =
    searchable_from_sorted places_total (λ (x : PhraseAt). x) xs at
    (λ k d low within.
    ap (λ n. is_lt (phrase_cmp (get_or xs n d) (get_or xs k d))) (add-one k) ∙ adjacent xs sorted k d (omega (arith, within)))
