-- Phrases that are due for a check, gone through one after the other, and verdicts taken out and put in.
use Rattle.std.proofs.Common.{◌≡◌, ℕ, zero, suc, ◌+◌, ◌<◌, ◌≤◌, Bool, true, false, cond, List, [], ◌∷◌, ◌++◌, drop, drop-cons, get_or, length, take, Option, Some, None, refl, ap, sym, subst, ◌∙◌, add-one, arith}
use Rattle.std.specs.Prelude.{◌||◌, Contains, if◌then◌else◌, is_some, nat_eq, slice_get}
use Rattle.std.specs.FinMap.{empty, find, from_entries, get, get-empty, get-from_entries, get-insert, get-remove, insert, remove, same_map}
use Rattle.std.specs.List.{list_any}
use Rattle.std.specs.Map.{lookup}
use Rattle.std.specs.Ordering.{eq_by_cmp}
use Rattle.std.proofs.lemmas.Bool.Decides.{nat_tests}
use Rattle.plcs_base.specs.Mark.{phrase_cmp}
use Rattle.plcs_base.specs.PlaceOrder.{place_ties, places_equiv, places_total, same_place}
use Rattle.plcs_base.specs.declared.mark.MarkKind.{MarkKind}
use Rattle.plcs_base.specs.declared.place.PhraseAt.{PhraseAt}
use Rattle.template_tree.specs.Checks.Environment.{procedure_at}
use Rattle.template_tree.specs.Checks.Marks.{VerdictList, VerdictMap, Verdicts}
use Rattle.template_tree.specs.Programs.PlainTree.{Forest, PlainNode}
use Rattle.decl_table.specs.ListOffences.{list_offences}
use Rattle.type_marks.specs.MarkEdit.{without_all}
use Rattle.type_marks.specs.Private.CheckedLists.{AreChecked, AreListsOf, AreSamePlaces, is_due}
use Rattle.type_marks.proofs.NotedVerdicts.{found, place_test}
use Rattle.type_marks.proofs.PreparedMarks.{only_equal, without_found}

-- ---- one more of a list

taken : {A : Type 0} (test : A → Bool) (xs : List A) (k : ℕ) (x : A) (rest : List A) → drop k xs ≡ x ∷ rest
    → list_any test (take (suc k) xs) ≡ (list_any test (take k xs) || test x)
taken test [] zero x rest is = absurd (cc)
taken test [] (suc k) x rest is = absurd (cc)
taken test (y ∷ ys) zero x rest is =
    let same : y ≡ x = cc in
    or_none (test y) ∙ ap test same
  where
    or_none : (b : Bool) → (b || false) ≡ b
    or_none true = refl
    or_none false = refl
taken test (y ∷ ys) (suc k) x rest is =
    ap (λ (b : Bool). test y || b) (taken test ys k x rest is) ∙ assoc (test y)
  where
    assoc : (a : Bool) → (a || (list_any test (take k ys) || test x)) ≡ ((a || list_any test (take k ys)) || test x)
    assoc true = refl
    assoc false = refl

pub due_more : (at : PhraseAt) (places : List PhraseAt) (k : ℕ) (place : PhraseAt) → k < length places → place ≡ get_or places k place
    → is_due at (take (k + 1) places) ≡ (is_due at (take k places) || eq_by_cmp phrase_cmp at place)
due_more at places k place within is =
    ap (λ (n : ℕ). is_due at (take n places)) (add-one k)
    ∙ taken (eq_by_cmp phrase_cmp at) places k place (drop (suc k) places)
    (drop-cons places k place within ∙ ap (λ (p : PhraseAt). p ∷ drop (suc k) places) (sym is))

take_none : {A : Type 0} (xs : List A) → take 0 xs ≡ []
take_none [] = refl
take_none (x ∷ xs) = refl

-- all are taken behind the last one
pub take_past : {A : Type 0} (xs : List A) (k : ℕ) → length xs ≤ k → take k xs ≡ xs
take_past [] zero past = refl
take_past [] (suc k) past = refl
take_past (x ∷ xs) zero past = absurd (omega (arith, past))
take_past (x ∷ xs) (suc k) past = ap (λ ys. x ∷ ys) (take_past xs k (omega (arith, past)))

-- what is read of a list is found there again
pub read_again : {A : Type 0} (xs : List A) (k : ℕ) (other : A) → k < length xs → get_or xs k other ≡ get_or xs k (get_or xs k other)
read_again xs k other within = any xs k other (get_or xs k other) within
  where
    any : {B : Type 0} (ys : List B) (n : ℕ) (one two : B) → n < length ys → get_or ys n one ≡ get_or ys n two
    any [] n one two less = absurd (omega (arith, less))
    any (y ∷ ys) zero one two less = refl
    any (y ∷ ys) (suc n) one two less = any ys n one two (omega (arith, less))

-- ---- places in a set

-- a place is looked for by its numbers
pub tests : (at : PhraseAt) (places : List PhraseAt) → is_due at places ≡ list_any (place_test at) places
tests at [] = refl
tests at (place ∷ places) = (λ i. sym (place_ties at place) i || tests at places i)

-- a place that comes into the set is there
pub places_more : (gone kept after : List PhraseAt) (k : ℕ) (place : PhraseAt) → k < length gone → place ≡ get_or gone k place
    → AreSamePlaces (take k gone) kept
    → ((at : PhraseAt) → list_any (place_test at) after ≡ cond (place_test place at) true (list_any (place_test at) kept))
    → AreSamePlaces (take (k + 1) gone) after
places_more gone kept after k place within is same comes at =
    tests at after
    ∙ comes at
    ∙ ap (λ (b : Bool). cond b true (list_any (place_test at) kept)) (turn at place)
    ∙ ap (λ (b : Bool). cond (eq_by_cmp phrase_cmp at place) true b) (sym (tests at kept) ∙ same at)
    ∙ by (eq_by_cmp phrase_cmp at place) (is_due at (take k gone))
    ∙ sym (due_more at gone k place within is)
  where
    turn : (one other : PhraseAt) → place_test other one ≡ eq_by_cmp phrase_cmp one other
    turn one other = place_ties other one ∙ places_equiv.symm other one

    by : (b d : Bool) → cond b true d ≡ (d || b)
    by true true = refl
    by true false = refl
    by false true = refl
    by false false = refl

-- ---- verdicts that were made

pub none_checked : (program : Forest) (due : List PhraseAt) (entries : VerdictList) → entries ≡ [] → AreChecked program (take 0 due) entries
none_checked program due entries none at =
    ap (λ (list : VerdictList). get (let m : VerdictMap = from_entries list in m) at) none
    ∙ get-empty phrase_cmp at
    ∙ sym (ap (λ (places : List PhraseAt). if is_due at places then get (Verdicts program) at else None) (take_none due))

pub checked_more : (program : Forest) (due : List PhraseAt) (k : ℕ) (place : PhraseAt) (verdict : Option MarkKind)
    (before after : VerdictList) → k < length due → place ≡ get_or due k place → get (Verdicts program) place ≡ Some verdict
    → AreChecked program (take k due) before
    → ((q : PhraseAt) → lookup (place_test q) after ≡ cond (place_test place q) (Some verdict) (lookup (place_test q) before))
    → AreChecked program (take (k + 1) due) after
checked_more program due k place verdict before after within is made checked comes at =
    found after at
    ∙ comes at
    ∙ ap (λ (b : Bool). cond b (Some verdict) (lookup (place_test at) before))
    (place_ties place at ∙ places_equiv.symm place at)
    ∙ ap (λ (o : Option (Option MarkKind)). cond (eq_by_cmp phrase_cmp at place) (Some verdict) o) (sym (found before at) ∙ checked at)
    ∙ by (eq_by_cmp phrase_cmp at place) refl
    ∙ ap (λ (b : Bool). if b then get (Verdicts program) at else None) (sym (due_more at due k place within is))
  where
    by : (b : Bool) → eq_by_cmp phrase_cmp at place ≡ b
        → cond b (Some verdict) (if is_due at (take k due) then get (Verdicts program) at else None)
        ≡ (if is_due at (take k due) || b then get (Verdicts program) at else None)
    by true e =
        sym made
        ∙ ap (get (Verdicts program)) (sym (same_place at place e))
        ∙ sym (ap (λ (b : Bool). if b then get (Verdicts program) at else None) (or_true (is_due at (take k due))))
      where
        or_true : (b : Bool) → (b || true) ≡ true
        or_true true = refl
        or_true false = refl
    by false e = sym (ap (λ (b : Bool). if b then get (Verdicts program) at else None) (or_false (is_due at (take k due))))
      where
        or_false : (b : Bool) → (b || false) ≡ b
        or_false true = refl
        or_false false = refl

-- ---- verdicts that are taken out

abbrev pub IsTakenTo : List PhraseAt → VerdictMap → VerdictMap → Type 0
IsTakenTo gone before now = (place : PhraseAt) → get now place ≡ (if is_due place gone then None else get before place)

pub none_taken : (gone : List PhraseAt) (verdicts : VerdictMap) → IsTakenTo (take 0 gone) verdicts verdicts
none_taken gone verdicts at =
    sym (ap (λ (places : List PhraseAt). if is_due at places then None else get verdicts at) (take_none gone))

pub taken_more : (gone : List PhraseAt) (k : ℕ) (place : PhraseAt) (before now after : VerdictMap) → k < length gone
    → place ≡ get_or gone k place → IsTakenTo (take k gone) before now → after ≡ remove now place → IsTakenTo (take (k + 1) gone) before after
taken_more gone k place before now after within is so gives at =
    ap (λ (m : VerdictMap). get m at) gives
    ∙ get-remove places_total now place at
    ∙ ap (λ (o : Option (Option MarkKind)). cond (eq_by_cmp phrase_cmp at place) None o) (so at)
    ∙ by (eq_by_cmp phrase_cmp at place) (is_due at (take k gone))
    ∙ ap (λ (b : Bool). if b then None else get before at) (sym (due_more at gone k place within is))
  where
    by : (b d : Bool) → cond b None (if d then None else get before at) ≡ (if d || b then None else get before at)
    by true true = refl
    by true false = refl
    by false true = refl
    by false false = refl

pub all_taken : (gone : List PhraseAt) (k : ℕ) (before now : VerdictMap) → length gone ≤ k → IsTakenTo (take k gone) before now
    → now ≡ without_all gone before
all_taken gone k before now past so =
    same_map places_total only_equal now (without_all gone before)
    (λ at.
    so at
    ∙ ap (λ (places : List PhraseAt). if is_due at places then None else get before at) (take_past gone k past)
    ∙ sym (without_found gone before at))

-- what is taken out of the map in memory is removed
pub took : (at : PhraseAt) (old new : VerdictList)
    → ((q : PhraseAt) → lookup (place_test q) new ≡ cond (place_test at q) None (lookup (place_test q) old))
    → (let m : VerdictMap = from_entries new in m) ≡ remove (let m : VerdictMap = from_entries old in m) at
took at old new is =
    same_map places_total only_equal _ _
    (λ q.
    found new q
    ∙ is q
    ∙ ap (λ (b : Bool). cond b None (lookup (place_test q) old))
    (place_ties at q ∙ places_equiv.symm at q)
    ∙ ap (λ (o : Option (Option MarkKind)). cond (eq_by_cmp phrase_cmp q at) None o) (sym (found old q))
    ∙ sym (get-remove places_total (let m : VerdictMap = from_entries old in m) at q))

-- ---- declared lists of procedures

pub no_lists : (program : Forest) (entries : List (ℕ × List (Option MarkKind))) → entries ≡ [] → AreListsOf program entries
no_lists program entries none slot offences procedure there found_it =
    absurd (differ (sym (ap (lookup (nat_eq slot)) none) ∙ there))
  where
    differ : None ≡ Some offences → ⊥
    differ e = absurd (cc)

pub lists_more : (program : Forest) (slot : ℕ) (procedure : PlainNode) (before after : List (ℕ × List (Option MarkKind)))
    (made : List (Option MarkKind)) → procedure_at program slot ≡ Some procedure → made ≡ list_offences [] procedure.inner
    → AreListsOf program before
    → ((q : ℕ) → lookup (nat_eq q) after ≡ cond (nat_eq slot q) (Some made) (lookup (nat_eq q) before)) → AreListsOf program after
lists_more program slot procedure before after made there is are comes q offences other found_it at_q =
    by (nat_eq slot q) refl (sym (comes q) ∙ found_it)
  where
    by : (b : Bool) → nat_eq slot q ≡ b → cond b (Some made) (lookup (nat_eq q) before) ≡ Some offences
        → offences ≡ list_offences [] other.inner
    by true e f =
        let same : slot ≡ q = grind (arith, nat_tests) in
        let own : made ≡ offences = cc in
        let one : procedure ≡ other = some_is (sym there ∙ ap (procedure_at program) same ∙ at_q) in
        sym own ∙ is ∙ ap (λ (n : PlainNode). list_offences [] n.inner) one
      where
        some_is : Some procedure ≡ Some other → procedure ≡ other
        some_is s = cc
    by false e f = are q offences other f at_q

pub no_places : (gone kept : List PhraseAt) → kept ≡ [] → AreSamePlaces (take 0 gone) kept
no_places gone kept none at = ap (is_due at) (none ∙ sym (take_none gone))

-- a place that is gone through is one of the list
pub contains_at : (places : List PhraseAt) (k : ℕ) (place : PhraseAt) → k < length places → place ≡ get_or places k place → Contains places place
contains_at places k place within is = (k, within, sym is)

-- at most one entry comes
pub entries_more : (after before : ℕ) (known : Bool) → after ≡ before + (if known then 0 else 1) → after ≤ before + 1
entries_more after before true is = omega (arith, is)
entries_more after before false is = omega (arith, is)
