-- Just as many phrases are due as pass the test by which they are counted: at each place that is due one passes it,
-- each that passes it is due, and none is counted twice, since each slot of a tree stands once.
use Rattle.std.proofs.Common.{◌≡◌, ℕ, ◌+◌, ◌≤◌, Bool, true, false, List, [], ◌∷◌, ◌++◌, length, Option, Some, None, refl, ap, sym, subst, ◌∙◌, arith, ◌⊎◌, inl, inr, true≢false, eq-eqb, le_antisymm}
use Rattle.std.specs.Prelude.{◌==◌, ◌||◌, bytes_eq, if◌then◌else◌, Contains}
use Rattle.std.specs.List.{AllByRecursion, IsDistinct, list_any}
use Rattle.std.specs.Ordering.{eq_by_cmp}
use Rattle.std.proofs.lemmas.Bool.{or_left, or_right}
use Rattle.std.proofs.lemmas.List.{length-append}
use Rattle.std.proofs.lemmas.List.Elements.{Contains-append_cases, Contains-append_left, Contains-append_right, Contains-get_or, Contains-push_cases}
use Rattle.std.proofs.lemmas.Map.Keys.{IsDistinct-cons, IsDistinct-from_sorted, IsDistinct-head, IsDistinct-tail}
use Rattle.std.proofs.lemmas.Map.Made.{length-le_from_is_member}
use Rattle.std.proofs.lemmas.Slice.Eq.{bytes_eq-Decides}
use Rattle.plcs_base.specs.Mark.{phrase_cmp}
use Rattle.plcs_base.specs.PlaceOrder.{places_equiv, same_place}
use Rattle.plcs_base.specs.declared.place.PhraseAt.{PhraseAt}
use Rattle.plcs_grammar.specs.PlainPhrase.{PlainPhrase}
use Rattle.template_tree.specs.declared.change.Change.{Change}
use Rattle.template_tree.specs.Checks.Mention.{mentioned, mentions, part_mentions, phrase_at}
use Rattle.template_tree.specs.Edits.Edit.{Differs, changed_in, procedure_of}
use Rattle.template_tree.specs.Programs.PlainTree.{Forest, PlainTree}
use Rattle.template_tree.specs.Programs.Slots.{times}
use Rattle.template_tree.specs.Programs.Tree.{IsTree}
use Rattle.decl_table.specs.Due.{AreDue, IsDue, changed_places, filled_places, phrase_places}
use Rattle.decl_table.specs.DueCount.{changed_lists, due_count, due_parts, due_phrases, is_affected, is_one_of, is_phrase_due}
use Rattle.decl_table.proofs.DueTests.{affected_told, either, lists_told, places_hold}
use Rattle.decl_table.proofs.FewDue.{due_in}

-- ---- places that stand once in a list

abbrev IsOnce : List PhraseAt → Type 0
IsOnce places = IsDistinct (eq_by_cmp phrase_cmp) places

none_once : IsOnce []
unfolding IsDistinct
none_once = tt

one_once : (at : PhraseAt) → IsOnce (at ∷ [])
unfolding IsDistinct
one_once at = (tt, tt)

-- the place in a list of one place
the_one : (one at : PhraseAt) → Contains (one ∷ []) at → one ≡ at
the_one one at there = by (Contains-push_cases [] one at there)
  where
    by : (Contains [] at) ⊎ (one ≡ at) → one ≡ at
    by (inl none) = let short = none.1 in absurd (omega (arith, short))
    by (inr same) = same

-- a place differs from those of a list in which it doesn't stand
apart_from : (at : PhraseAt) (places : List PhraseAt) → (Contains places at → ⊥)
    → AllByRecursion (λ other. eq_by_cmp phrase_cmp at other ≡ false) places
apart_from at [] none = tt
apart_from at (first ∷ places) none =
    (differs (eq_by_cmp phrase_cmp at first) refl, apart_from at places (λ there. none (Contains-append_right (first ∷ []) places at there)))
  where
    differs : (same : Bool) → eq_by_cmp phrase_cmp at first ≡ same → same ≡ false
    differs true is =
        let here : Contains (first ∷ places) first = Contains-get_or (first ∷ places) 0 first (omega arith) in
        absurd (none (subst (λ (p : PhraseAt). Contains (first ∷ places) p) (sym (same_place at first is)) here))
    differs false is = refl

both_apart : (at : PhraseAt) (one other : List PhraseAt) → AllByRecursion (λ p. eq_by_cmp phrase_cmp at p ≡ false) one
    → AllByRecursion (λ p. eq_by_cmp phrase_cmp at p ≡ false) other → AllByRecursion (λ p. eq_by_cmp phrase_cmp at p ≡ false) (one ++ other)
both_apart at [] other first second = second
both_apart at (p ∷ one) other first second = (first.0, both_apart at one other first.1 second)

-- joined lists hold each place once where each of them does, and none stands in both
joined_once : (one other : List PhraseAt) → IsOnce one → IsOnce other
    → ((at : PhraseAt) → Contains one at → Contains other at → ⊥) → IsOnce (one ++ other)
joined_once [] other first second apart = second
joined_once (p ∷ one) other first second apart =
    IsDistinct-cons (eq_by_cmp phrase_cmp) p (one ++ other)
    (both_apart p one other (IsDistinct-head (eq_by_cmp phrase_cmp) p one first)
    (apart_from p other (apart p (Contains-get_or (p ∷ one) 0 p (omega arith)))))
    (joined_once one other (IsDistinct-tail (eq_by_cmp phrase_cmp) p one first) second
    (λ at there. apart at (Contains-append_right (p ∷ []) one at there)))

-- ---- the places of phrases that pass a test

-- a test of phrases, by place and by what they are
abbrev Test : Type 0
Test = PhraseAt → PlainPhrase → Bool

-- the place, if the phrase there passes
abbrev if_passes : Bool → PhraseAt → List PhraseAt
if_passes passes at = if passes then at ∷ [] else []

abbrev passing_parts : Test → (slot part : ℕ) → List (Option PlainPhrase) → List PhraseAt
passing_parts test slot part [] = []
passing_parts test slot part (None ∷ parts) = passing_parts test slot (part + 1) parts
passing_parts test slot part (Some phrase ∷ parts) =
    if_passes (test (phrase_at slot part) phrase) (phrase_at slot part) ++ passing_parts test slot (part + 1) parts

abbrev passing : Test → Forest → List PhraseAt
passing test Forest.nil = []
passing test (Forest.cons label inner rest) =
    passing_parts test label.slot 0 label.parts ++ (passing test inner ++ passing test rest)

module _ (test : Test) where
  parts_counted : (slot part : ℕ) (parts : List (Option PlainPhrase))
      → length (passing_parts test slot part parts) ≡ due_parts test slot part parts
  parts_counted slot part [] = refl
  parts_counted slot part (None ∷ parts) = parts_counted slot (part + 1) parts
  parts_counted slot part (Some phrase ∷ parts) =
      by (test (phrase_at slot part) phrase) (parts_counted slot (part + 1) parts)
    where
      by : (passes : Bool) → length (passing_parts test slot (part + 1) parts) ≡ due_parts test slot (part + 1) parts
          → length (if_passes passes (phrase_at slot part) ++ passing_parts test slot (part + 1) parts)
          ≡ (let n : ℕ = if passes then 1 else 0 in n) + due_parts test slot (part + 1) parts
      by true rest = omega (arith, rest)
      by false rest = omega (arith, rest)

  phrases_counted : (items : Forest) → length (passing test items) ≡ due_phrases test items
  phrases_counted Forest.nil = refl
  phrases_counted (Forest.cons label inner rest) =
      let own = parts_counted label.slot 0 label.parts in
      let inside = phrases_counted inner in
      let others = phrases_counted rest in
      length-append (passing_parts test label.slot 0 label.parts) (passing test inner ++ passing test rest)
      ∙ ap (λ n. length (passing_parts test label.slot 0 label.parts) + n) (length-append (passing test inner) (passing test rest))
      ∙ (λ i. own i + (inside i + others i))

  -- ---- each stands once

  -- where a place among a node's parts is
  parts_within : (slot part : ℕ) (parts : List (Option PlainPhrase)) (at : PhraseAt)
      → Contains (passing_parts test slot part parts) at → (at.slot.0 ≡ slot) × (part ≤ at.part)
  parts_within slot part [] at there = let short = there.1 in absurd (omega (arith, short))
  parts_within slot part (None ∷ parts) at there = later (parts_within slot (part + 1) parts at there)
    where
      later : (at.slot.0 ≡ slot) × (part + 1 ≤ at.part) → (at.slot.0 ≡ slot) × (part ≤ at.part)
      later found = (found.0, omega (arith, found.1))
  parts_within slot part (Some phrase ∷ parts) at there =
      by (test (phrase_at slot part) phrase) there (parts_within slot (part + 1) parts at)
    where
      rest : List PhraseAt
      rest = passing_parts test slot (part + 1) parts

      later : (Contains rest at → (at.slot.0 ≡ slot) × (part + 1 ≤ at.part)) → Contains rest at → (at.slot.0 ≡ slot) × (part ≤ at.part)
      later again e = let found = again e in (found.0, omega (arith, found.1))

      among : (Contains (phrase_at slot part ∷ []) at) ⊎ (Contains rest at)
          → (Contains rest at → (at.slot.0 ≡ slot) × (part + 1 ≤ at.part)) → (at.slot.0 ≡ slot) × (part ≤ at.part)
      among (inl e) again =
          let same = the_one (phrase_at slot part) at e in
          let own : part ≡ at.part = ap (λ (p : PhraseAt). p.part) same in
          (sym (ap (λ (p : PhraseAt). p.slot.0) same), omega (arith, own))
      among (inr e) again = later again e

      by : (passes : Bool) → Contains (if_passes passes (phrase_at slot part) ++ rest) at
          → (Contains rest at → (at.slot.0 ≡ slot) × (part + 1 ≤ at.part)) → (at.slot.0 ≡ slot) × (part ≤ at.part)
      by true e again = among (Contains-append_cases (phrase_at slot part ∷ []) rest at e) again
      by false e again = later again e

  parts_once : (slot part : ℕ) (parts : List (Option PlainPhrase)) → IsOnce (passing_parts test slot part parts)
  parts_once slot part [] = none_once
  parts_once slot part (None ∷ parts) = parts_once slot (part + 1) parts
  parts_once slot part (Some phrase ∷ parts) = by (test (phrase_at slot part) phrase) (parts_once slot (part + 1) parts)
    where
      rest : List PhraseAt
      rest = passing_parts test slot (part + 1) parts

      by : (passes : Bool) → IsOnce rest → IsOnce (if_passes passes (phrase_at slot part) ++ rest)
      by true once =
          joined_once (phrase_at slot part ∷ []) rest (one_once (phrase_at slot part)) once
          (λ at here there.
          let own : part ≡ at.part = ap (λ (p : PhraseAt). p.part) (the_one (phrase_at slot part) at here) in
          let later = (parts_within slot (part + 1) parts at there).1 in
          omega (arith, own, later))
      by false once = once

  counted : (a b : ℕ) → a ≡ b → ◌≡◌ {A = ℕ} (if a == b then 1 else 0) 1
  counted a b same = ap (λ (t : Bool). let n : ℕ = if t then 1 else 0 in n) (eq-eqb a b same)

  -- the slot of such a place stands
  live : (items : Forest) (at : PhraseAt) → Contains (passing test items) at → 1 ≤ times at.slot.0 items
  live Forest.nil at there = let short = there.1 in absurd (omega (arith, short))
  live (Forest.cons label inner rest) at there =
      by (Contains-append_cases (passing_parts test label.slot 0 label.parts) (passing test inner ++ passing test rest) at there)
      (live inner at) (live rest at)
    where
      deep : (Contains (passing test inner) at) ⊎ (Contains (passing test rest) at)
          → (Contains (passing test inner) at → 1 ≤ times at.slot.0 inner) → (Contains (passing test rest) at → 1 ≤ times at.slot.0 rest)
          → 1 ≤ times at.slot.0 (Forest.cons label inner rest)
      deep (inl e) deeper later = let more = deeper e in omega (arith, more)
      deep (inr e) deeper later = let more = later e in omega (arith, more)

      by : (Contains (passing_parts test label.slot 0 label.parts) at) ⊎ (Contains (passing test inner ++ passing test rest) at)
          → (Contains (passing test inner) at → 1 ≤ times at.slot.0 inner) → (Contains (passing test rest) at → 1 ≤ times at.slot.0 rest)
          → 1 ≤ times at.slot.0 (Forest.cons label inner rest)
      by (inl e) deeper later =
          let one = counted label.slot at.slot.0 (sym (parts_within label.slot 0 label.parts at e).0) in omega (arith, one)
      by (inr e) deeper later = deep (Contains-append_cases (passing test inner) (passing test rest) at e) deeper later

  phrases_once : (items : Forest) → ((slot : ℕ) → times slot items ≤ 1) → IsOnce (passing test items)
  phrases_once Forest.nil once = none_once
  phrases_once (Forest.cons label inner rest) once =
      joined_once (passing_parts test label.slot 0 label.parts) (passing test inner ++ passing test rest)
      (parts_once label.slot 0 label.parts)
      (joined_once (passing test inner) (passing test rest)
      (phrases_once inner (λ slot. let all = once slot in omega (arith, all)))
      (phrases_once rest (λ slot. let all = once slot in omega (arith, all)))
      (λ at inside behind.
      let all = once at.slot.0 in
      let deeper = live inner at inside in
      let later = live rest at behind in
      omega (arith, all, deeper, later)))
      (λ at here there. apart at here (Contains-append_cases (passing test inner) (passing test rest) at there))
    where
      apart : (at : PhraseAt) → Contains (passing_parts test label.slot 0 label.parts) at
          → (Contains (passing test inner) at) ⊎ (Contains (passing test rest) at) → ⊥
      apart at here (inl e) =
          let one = counted label.slot at.slot.0 (sym (parts_within label.slot 0 label.parts at here).0) in
          let all = once at.slot.0 in
          let deeper = live inner at e in
          omega (arith, one, all, deeper)
      apart at here (inr e) =
          let one = counted label.slot at.slot.0 (sym (parts_within label.slot 0 label.parts at here).0) in
          let all = once at.slot.0 in
          let later = live rest at e in
          omega (arith, one, all, later)

-- ---- what passes

-- at a place among these stands a phrase that passes, and the place is among those of each test that the phrase passes
abbrev Passed : Test → (places : Test → List PhraseAt) → PhraseAt → Type 0
Passed test places at =
    (phrase : PlainPhrase) × (test at phrase ≡ true) × ((other : Test) → other at phrase ≡ true → Contains (places other) at)

passed_before : (test : Test) (own more : Test → List PhraseAt) (at : PhraseAt) → Passed test own at
    → Passed test (λ other. own other ++ more other) at
passed_before test own more at passed =
    (passed.0, passed.1, λ other passes. Contains-append_left (own other) (more other) at (passed.2 other passes))

passed_behind : (test : Test) (own more : Test → List PhraseAt) (at : PhraseAt) → Passed test own at
    → Passed test (λ other. more other ++ own other) at
passed_behind test own more at passed =
    (passed.0, passed.1, λ other passes. Contains-append_right (more other) (own other) at (passed.2 other passes))

module _ (test : Test) (at : PhraseAt) where
  passed_in : (slot part : ℕ) (parts : List (Option PlainPhrase)) → Contains (passing_parts test slot part parts) at
      → Passed test (λ other. passing_parts other slot part parts) at
  passed_in slot part [] there = let short = there.1 in absurd (omega (arith, short))
  passed_in slot part (None ∷ parts) there = passed_in slot (part + 1) parts there
  passed_in slot part (Some phrase ∷ parts) there = by (test here phrase) refl there (passed_in slot (part + 1) parts)
    where
      here : PhraseAt
      here = phrase_at slot part

      own : Test → List PhraseAt
      own other = if_passes (other here phrase) here

      rest : Test → List PhraseAt
      rest other = passing_parts other slot (part + 1) parts

      first : test here phrase ≡ true → here ≡ at → Passed test own at
      first passes same = (
        phrase,
        subst (λ (p : PhraseAt). test p phrase ≡ true) same passes,
        λ other is.
            subst (λ (b : Bool). Contains (if_passes b here) at) (sym (subst (λ (p : PhraseAt). other p phrase ≡ true) (sym same) is))
            (subst (λ (p : PhraseAt). Contains (here ∷ []) p) same (Contains-get_or (here ∷ []) 0 here (omega arith))),
      )

      among : test here phrase ≡ true → (Contains (here ∷ []) at) ⊎ (Contains (rest test) at)
          → (Contains (rest test) at → Passed test rest at) → Passed test (λ other. own other ++ rest other) at
      among passes (inl e) again = passed_before test own rest at (first passes (the_one here at e))
      among passes (inr e) again = passed_behind test rest own at (again e)

      by : (passes : Bool) → test here phrase ≡ passes → Contains (if_passes passes here ++ rest test) at
          → (Contains (rest test) at → Passed test rest at) → Passed test (λ other. own other ++ rest other) at
      by true is e again = among is (Contains-append_cases (here ∷ []) (rest test) at e) again
      by false is e again = passed_behind test rest own at (again e)

  passed : (items : Forest) → Contains (passing test items) at → Passed test (λ other. passing other items) at
  passed Forest.nil there = let short = there.1 in absurd (omega (arith, short))
  passed (Forest.cons label inner rest) there =
      by (Contains-append_cases (own test) (deep test ++ behind test) at there) (passed inner) (passed rest)
    where
      own : Test → List PhraseAt
      own other = passing_parts other label.slot 0 label.parts

      deep : Test → List PhraseAt
      deep other = passing other inner

      behind : Test → List PhraseAt
      behind other = passing other rest

      among : (Contains (deep test) at) ⊎ (Contains (behind test) at) → (Contains (deep test) at → Passed test deep at)
          → (Contains (behind test) at → Passed test behind at) → Passed test (λ other. deep other ++ behind other) at
      among (inl e) inside later = passed_before test deep behind at (inside e)
      among (inr e) inside later = passed_behind test behind deep at (later e)

      by : (Contains (own test) at) ⊎ (Contains (deep test ++ behind test) at) → (Contains (deep test) at → Passed test deep at)
          → (Contains (behind test) at → Passed test behind at) → Passed test (λ other. own other ++ (deep other ++ behind other)) at
      by (inl e) inside later =
          passed_before test own (λ other. deep other ++ behind other) at (passed_in label.slot 0 label.parts e)
      by (inr e) inside later =
          passed_behind test (λ other. deep other ++ behind other) own at
          (among (Contains-append_cases (deep test) (behind test) at e) inside later)

-- what passes a test passes another one that holds there as well
passes_too : (one other : Test) (items : Forest) (at : PhraseAt)
    → ((phrase : PlainPhrase) → one at phrase ≡ true → other at phrase ≡ true)
    → Contains (passing one items) at → Contains (passing other items) at
passes_too one other items at follows there =
    let found = passed one at items there in found.2 other (follows found.0 found.1)

-- ---- all phrases, and those that mention a name

abbrev every : Test
every at phrase = true

every_part : (slot part : ℕ) (parts : List (Option PlainPhrase)) → filled_places slot part parts ≡ passing_parts every slot part parts
every_part slot part [] = refl
every_part slot part (None ∷ parts) = every_part slot (part + 1) parts
every_part slot part (Some phrase ∷ parts) =
    ap (λ (places : List PhraseAt). phrase_at slot part ∷ places) (every_part slot (part + 1) parts)

every_place : (items : Forest) → phrase_places items ≡ passing every items
every_place Forest.nil = refl
every_place (Forest.cons label inner rest) =
    λ i. every_part label.slot 0 label.parts i ++ (every_place inner i ++ every_place rest i)

module _ (name : List ℕ) where
  abbrev naming : Test
  naming at phrase = list_any (bytes_eq name) (mentioned phrase)

  naming_part : (slot part : ℕ) (parts : List (Option PlainPhrase)) → part_mentions name slot part parts ≡ passing_parts naming slot part parts
  naming_part slot part [] = refl
  naming_part slot part (None ∷ parts) = naming_part slot (part + 1) parts
  naming_part slot part (Some phrase ∷ parts) =
      ap (λ (places : List PhraseAt). if_passes (list_any (bytes_eq name) (mentioned phrase)) (phrase_at slot part) ++ places)
      (naming_part slot (part + 1) parts)

  naming_place : (items : Forest) → mentions name items ≡ passing naming items
  naming_place Forest.nil = refl
  naming_place (Forest.cons label inner rest) =
      λ i. naming_part label.slot 0 label.parts i ++ (naming_place inner i ++ naming_place rest i)

-- ---- names that pass a test

module _ (test : List ℕ → Bool) where
  found_name : (names : List (List ℕ)) → list_any test names ≡ true
      → (name : List ℕ) × (test name ≡ true) × (list_any (bytes_eq name) names ≡ true)
  found_name [] is = absurd (true≢false (sym is))
  found_name (first ∷ names) is = by (either (test first) (list_any test names) is) (found_name names)
    where
      by : (test first ≡ true) ⊎ (list_any test names ≡ true)
          → (list_any test names ≡ true → (name : List ℕ) × (test name ≡ true) × (list_any (bytes_eq name) names ≡ true))
          → (name : List ℕ) × (test name ≡ true) × (list_any (bytes_eq name) (first ∷ names) ≡ true)
      by (inl here) again = (first, here, or_left (bytes_eq first first) (list_any (bytes_eq first) names) ((bytes_eq-Decides first first).1 refl))
      by (inr there) again =
          let found = again there in
          (found.0, found.1, or_right (bytes_eq found.0 first) (list_any (bytes_eq found.0) names) found.2)

  passing_name : (names : List (List ℕ)) (name : List ℕ) → list_any (bytes_eq name) names ≡ true → test name ≡ true
      → list_any test names ≡ true
  passing_name [] name there passes = absurd (true≢false (sym there))
  passing_name (first ∷ names) name there passes =
      by (either (bytes_eq name first) (list_any (bytes_eq name) names) there) (λ e. passing_name names name e passes)
    where
      by : (bytes_eq name first ≡ true) ⊎ (list_any (bytes_eq name) names ≡ true)
          → (list_any (bytes_eq name) names ≡ true → list_any test names ≡ true) → list_any test (first ∷ names) ≡ true
      by (inl same) again = or_left (test first) (list_any test names) (ap test (sym ((bytes_eq-Decides name first).0 same)) ∙ passes)
      by (inr e) again = or_right (test first) (list_any test names) (again e)

-- ---- what is due passes, and what passes is due

module _ (before after : Forest) (change : Change)
    (within : procedure_of (changed_in change.what before after) change.slot.0 ≡ Some change.procedure.0) where
  abbrev test : Test
  test = is_phrase_due change.what change.slot.0 before after

  abbrev put_in_test : PhraseAt → Bool
  put_in_test at = is_one_of at (changed_places change.what change.slot.0 after)

  abbrev listed_test : PhraseAt → Bool
  listed_test at = is_one_of at (changed_lists change.what change.slot.0 before after)

  abbrev name_test : List ℕ → Bool
  name_test = is_affected change.what change.slot.0 before after

  reason : (at : PhraseAt) → Contains (passing test after) at → IsDue before after change at
  reason at there =
      let found = passed test at after there in
      by_first found.0 found.2
      (either (put_in_test at) (listed_test at || list_any name_test (mentioned found.0)) found.1)
    where
      by_name : (phrase : PlainPhrase) → ((other : Test) → other at phrase ≡ true → Contains (passing other after) at)
          → list_any name_test (mentioned phrase) ≡ true → IsDue before after change at
      by_name phrase others is =
          let found = found_name name_test (mentioned phrase) is in
          IsDue.affected found.0 ((affected_told before after change found.0).0 found.1)
          (subst (λ (places : List PhraseAt). Contains places at) (sym (naming_place found.0 after)) (others (naming found.0) found.2))

      by_later : (phrase : PlainPhrase) → ((other : Test) → other at phrase ≡ true → Contains (passing other after) at)
          → (listed_test at ≡ true) ⊎ (list_any name_test (mentioned phrase) ≡ true) → IsDue before after change at
      by_later phrase others (inl is) =
          let both = (lists_told before after change at within).0 is in IsDue.listed both.0 both.1
      by_later phrase others (inr is) = by_name phrase others is

      by_first : (phrase : PlainPhrase) → ((other : Test) → other at phrase ≡ true → Contains (passing other after) at)
          → (put_in_test at ≡ true) ⊎ ((listed_test at || list_any name_test (mentioned phrase)) ≡ true) → IsDue before after change at
      by_first phrase others (inl is) = IsDue.put_in ((places_hold (changed_places change.what change.slot.0 after) at).0 is)
      by_first phrase others (inr is) =
          by_later phrase others (either (listed_test at) (list_any name_test (mentioned phrase)) is)

  passes : (at : PhraseAt) → IsDue before after change at → Contains (passing test after) at
  passes at (IsDue.put_in there) =
      passes_too every test after at
      (λ phrase _. or_left (put_in_test at) (listed_test at || list_any name_test (mentioned phrase))
      ((places_hold (changed_places change.what change.slot.0 after) at).1 there))
      (subst (λ (places : List PhraseAt). Contains places at) (every_place after) (due_in before after change at (IsDue.put_in there)))
  passes at (IsDue.listed changed there) =
      passes_too every test after at
      (λ phrase _. or_right (put_in_test at) (listed_test at || list_any name_test (mentioned phrase))
      (or_left (listed_test at) (list_any name_test (mentioned phrase)) ((lists_told before after change at within).1 (changed, there))))
      (subst (λ (places : List PhraseAt). Contains places at) (every_place after) (due_in before after change at (IsDue.listed changed there)))
  passes at (IsDue.affected name affected there) =
      passes_too (naming name) test after at
      (λ phrase names. or_right (put_in_test at) (listed_test at || list_any name_test (mentioned phrase))
      (or_right (listed_test at) (list_any name_test (mentioned phrase))
      (passing_name name_test (mentioned phrase) name names ((affected_told before after change name).1 affected))))
      (subst (λ (places : List PhraseAt). Contains places at) (naming_place name after) there)

-- ---- the law

pub due_are_counted : (before after : PlainTree) (change : Change) (due : List PhraseAt) → IsTree after → Differs before after change
    → AreDue before.items after.items change due → length due ≡ due_count change.what change.slot.0 before.items after.items
due_are_counted before after change due tree differs are =
    le_antisymm few many ∙ phrases_counted (test before.items after.items change differs.within) after.items
  where
    places : List PhraseAt
    places = passing (test before.items after.items change differs.within) after.items

    few : length due ≤ length places
    few =
        length-le_from_is_member places_equiv due places (IsDistinct-from_sorted phrase_cmp due are.increasing)
        (λ at there. (places_hold places at).1
        (passes before.items after.items change differs.within at ((are.each at).0 ((places_hold due at).0 there))))

    many : length places ≤ length due
    many =
        length-le_from_is_member places_equiv places due
        (phrases_once (test before.items after.items change differs.within) after.items tree.once)
        (λ at there. (places_hold due at).1
        ((are.each at).1 (reason before.items after.items change differs.within at ((places_hold places at).0 there))))
