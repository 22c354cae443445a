-- What is left of the uses of names once phrases went and came: name after name, and put in place of what was.
use Rattle.std.proofs.Common.{◌≡◌, ◌⊎◌, ℕ, ◌+◌, ◌<◌, Bool, true, false, cond, List, [], ◌∷◌, ◌++◌, length, take, get_or, is_some, Option, Some, None, inl, inr, refl, sym, ap, subst, ◌∙◌, arith, true≢false}
use Rattle.std.specs.Prelude.{◌&&◌, ◌||◌, ◌==◌, not, bytes_eq, unwrap_or}
use Rattle.std.specs.List.{list_any}
use Rattle.std.specs.List.Sorted.{IsStrictlySortedBy}
use Rattle.std.specs.Map.{keys_of, lookup}
use Rattle.std.proofs.lemmas.Bool.{eqb-true}
use Rattle.std.proofs.lemmas.List.Folds.{list_any_more}
use Rattle.std.proofs.lemmas.Slice.Eq.{bytes_eq-Decides}
use Rattle.plcs_base.specs.Mark.{phrase_cmp}
use Rattle.plcs_base.specs.declared.place.PhraseAt.{PhraseAt}
use Rattle.decl_table.specs.DeclEdit.{changed_or}
use Rattle.decl_table.specs.PlainDecls.{PlainUses, mentions_of}
use Rattle.decl_table.specs.Private.UsesView.{AreOrdered, IsMended, IsNameMended, IsWith, IsWithout, MayBeMended, MendsNames, is_among, is_left}
use Rattle.decl_table.proofs.AddedUses.{same_name}

-- ---- one list of places

-- a list that is empty by its length
pub nothing : (xs : List PhraseAt) → (length xs == 0) ≡ true → xs ≡ []
nothing [] e = refl
nothing (x ∷ xs) e = let none : length (x ∷ xs) ≡ 0 = eqb-true (length (x ∷ xs)) 0 e in absurd (omega (arith, none))

-- where none goes that doesn't come, and none comes that doesn't go, the places stay
stays : (before out more : Bool) → out ≡ false → more ≡ false → before ≡ ((before && not out) || more)
stays before true more none fewer = absurd (cc)
stays before false true none fewer = absurd (cc)
stays true false false none fewer = refl
stays false false false none fewer = refl

pub mended_none : (before went came out more : List PhraseAt) → IsStrictlySortedBy phrase_cmp before
    → IsWithout went came out → IsWithout came went more → out ≡ [] → more ≡ [] → IsMended before went came before
mended_none before went came out more sorted left comes none fewer =
    record {
      increasing = sorted;
      each = λ at.
          stays (is_among at before) (is_among at went && not (is_among at came)) (is_among at came && not (is_among at went))
          (sym (left.each at) ∙ ap (is_among at) none) (sym (comes.each at) ∙ ap (is_among at) fewer);
    }

pub mended_some : (before went came out more rest now : List PhraseAt) → IsWithout went came out → IsWithout came went more
    → IsWithout before out rest → IsWith rest more now → IsMended before went came now
mended_some before went came out more rest now left comes others all =
    record {
      increasing = all.increasing;
      each = λ at.
          all.each at
          ∙ ap (λ b. b || is_among at more) (others.each at)
          ∙ ap (λ b. (is_among at before && not b) || is_among at more) (left.each at)
          ∙ ap (λ b. (is_among at before && not (is_among at went && not (is_among at came))) || b) (comes.each at);
    }

-- ---- name after name

module _ (before went came : PlainUses) where
  -- the places that are noted under a name, where what the map has under it is the same
  moved : (old new : PlainUses) (name : List ℕ) → lookup (bytes_eq name) new ≡ lookup (bytes_eq name) old
      → IsNameMended before went came old name → IsNameMended before went came new name
  moved old new name same mended =
      subst (λ o. IsMended (mentions_of name before) (mentions_of name went) (mentions_of name came) (changed_or o (mentions_of name before)))
      (sym same) mended

  -- something is noted under the name already
  pub mends_there : (old : PlainUses) (name : List ℕ) → is_some (lookup (bytes_eq name) old) ≡ true
      → MendsNames (bytes_eq name) before went came old old
  mends_there old name there = record {
    all = λ may. may;
    these = λ may other same. by other same (may other);
    others = λ other mended. mended;
  }
    where
      by : (other : List ℕ) → bytes_eq name other ≡ true
          → ((lookup (bytes_eq other) old ≡ None) ⊎ IsNameMended before went came old other) → IsNameMended before went came old other
      by other same (inl none) =
          absurd
          (let e : is_some (lookup (bytes_eq name) old) ≡ false =
          ap (λ n. is_some (lookup (bytes_eq n) old)) ((bytes_eq-Decides name other).0 same) ∙ ap is_some none in
          let impossible : true ≡ false = sym there ∙ e in cc)
      by other same (inr mended) = mended

  -- nothing has to be noted under the name
  pub mends_none : (old : PlainUses) (name : List ℕ)
      → IsMended (mentions_of name before) (mentions_of name went) (mentions_of name came) (mentions_of name before)
      → MendsNames (bytes_eq name) before went came old old
  mends_none old name stay = record {
    all = λ may. may;
    these = λ may other same. by other same (may other);
    others = λ other mended. mended;
  }
    where
      by : (other : List ℕ) → bytes_eq name other ≡ true
          → ((lookup (bytes_eq other) old ≡ None) ⊎ IsNameMended before went came old other) → IsNameMended before went came old other
      by other same (inl none) =
          subst (λ o. IsMended (mentions_of other before) (mentions_of other went) (mentions_of other came) (changed_or o (mentions_of other before)))
          (sym none)
          (subst (λ n. IsMended (mentions_of n before) (mentions_of n went) (mentions_of n came) (mentions_of n before))
          ((bytes_eq-Decides name other).0 same) stay)
      by other same (inr mended) = mended

  -- places are noted under the name
  pub mends_put : (old new : PlainUses) (name : List ℕ) (places : List PhraseAt)
      → ((other : List ℕ) → lookup (bytes_eq other) new ≡ cond (bytes_eq name other) (Some places) (lookup (bytes_eq other) old))
      → IsMended (mentions_of name before) (mentions_of name went) (mentions_of name came) places
      → MendsNames (bytes_eq name) before went came old new
  mends_put old new name places is mended = record {
    all = λ may other. each may other (bytes_eq name other) refl;
    these = λ may other same. here other same;
    others = λ other was. stay other was (bytes_eq name other) refl;
  }
    where
      here : (other : List ℕ) → bytes_eq name other ≡ true → IsNameMended before went came new other
      here other same =
          subst (λ o. IsMended (mentions_of other before) (mentions_of other went) (mentions_of other came) (changed_or o (mentions_of other before)))
          (sym (is other ∙ ap (λ b. cond b (Some places) (lookup (bytes_eq other) old)) same))
          (subst (λ n. IsMended (mentions_of n before) (mentions_of n went) (mentions_of n came) places)
          ((bytes_eq-Decides name other).0 same) mended)

      stay : (other : List ℕ) → IsNameMended before went came old other → (own : Bool) → bytes_eq name other ≡ own
          → IsNameMended before went came new other
      stay other was true own = here other own
      stay other was false own = moved old new other (is other ∙ ap (λ b. cond b (Some places) (lookup (bytes_eq other) old)) own) was

      each : MayBeMended before went came old → (other : List ℕ) (own : Bool) → bytes_eq name other ≡ own
          → (lookup (bytes_eq other) new ≡ None) ⊎ IsNameMended before went came new other
      each may other true own = inr (here other own)
      each may other false own = by (may other)
        where
          by : ((lookup (bytes_eq other) old ≡ None) ⊎ IsNameMended before went came old other)
              → (lookup (bytes_eq other) new ≡ None) ⊎ IsNameMended before went came new other
          by (inl none) = inl (is other ∙ ap (λ b. cond b (Some places) (lookup (bytes_eq other) old)) own ∙ none)
          by (inr was) = inr (stay other was false own)

  -- no name
  pub mends_nothing : (old : PlainUses) → MendsNames (λ name. false) before went came old old
  mends_nothing old = record {
    all = λ may. may;
    these = λ may name never. absurd (cc);
    others = λ name mended. mended;
  }

  -- some names and then others
  pub mends_both : (one other all : List ℕ → Bool) (old mid new : PlainUses) → MendsNames one before went came old mid
      → MendsNames other before went came mid new → ((name : List ℕ) → all name ≡ (one name || other name))
      → MendsNames all before went came old new
  mends_both one other all old mid new first then is = record {
    all = λ may. then.all (first.all may);
    these = λ may name among. by may name (one name) refl (sym (is name) ∙ among);
    others = λ name mended. then.others name (first.others name mended);
  }
    where
      by : MayBeMended before went came old → (name : List ℕ) (own : Bool) → one name ≡ own → (one name || other name) ≡ true
          → IsNameMended before went came new name
      by may name true own among = then.others name (first.these may name own)
      by may name false own among =
          then.these (first.all may) name (sym (ap (λ b. b || other name) own) ∙ among)

  -- the first of the names, and one more
  pub mends_next : (names : List (List ℕ)) (k : ℕ) (name : List ℕ) (old mid new : PlainUses) → k < length names → get_or names k name ≡ name
      → MendsNames (λ n. list_any (bytes_eq n) (take k names)) before went came old mid → MendsNames (bytes_eq name) before went came mid new
      → MendsNames (λ n. list_any (bytes_eq n) (take (k + 1) names)) before went came old new
  mends_next names k name old mid new within is first then =
      mends_both (λ n. list_any (bytes_eq n) (take k names)) (bytes_eq name) (λ n. list_any (bytes_eq n) (take (k + 1) names)) old mid new first then
      (λ n. list_any_more (bytes_eq n) names k name within
      ∙ ap (λ m. list_any (bytes_eq n) (take k names) || bytes_eq n m) is
      ∙ ap (λ b. list_any (bytes_eq n) (take k names) || b) (same_name n name))

-- what is left of the places under a name, as they were handed over
pub mended_of : (before went came : PlainUses) (name : List ℕ) (was goes comes : List PhraseAt) (mended now : Option (List PhraseAt))
    → was ≡ mentions_of name before → goes ≡ mentions_of name went → comes ≡ mentions_of name came → mended ≡ now
    → IsMended was goes comes (changed_or mended was)
    → IsMended (mentions_of name before) (mentions_of name went) (mentions_of name came) (changed_or now (mentions_of name before))
mended_of before went came name was goes comes mended now was_is goes_is comes_is is left =
    subst (λ w. IsMended w (mentions_of name went) (mentions_of name came) (changed_or now w)) was_is
    (subst (λ g. IsMended was g (mentions_of name came) (changed_or now was)) goes_is
    (subst (λ k. IsMended was goes k (changed_or now was)) comes_is
    (subst (λ o. IsMended was goes comes (changed_or o was)) is left)))

-- what comes under a name, or goes where there are no places
pub put_none : (here : Bool) (kept : Option (List PhraseAt)) (list : List PhraseAt) → list ≡ []
    → unwrap_or (cond here None kept) [] ≡ cond here list (unwrap_or kept [])
put_none true kept list none = sym none
put_none false kept list none = refl

pub put_some : (here : Bool) (kept : Option (List PhraseAt)) (list : List PhraseAt)
    → unwrap_or (cond here (Some list) kept) [] ≡ cond here list (unwrap_or kept [])
put_some true kept list = refl
put_some false kept list = refl

-- there are no entries where none is taken
pub no_entries : {X : Type 0} (entries : List X) → (0 < length entries → ⊥) → entries ≡ []
no_entries [] none = refl
no_entries (entry ∷ entries) none = absurd (none (omega arith))

-- nothing is found under a name that isn't among the keys
not_found : (name : List ℕ) (uses : PlainUses) → list_any (bytes_eq name) (keys_of uses) ≡ false → lookup (bytes_eq name) uses ≡ None
not_found name [] none = refl
not_found name (entry ∷ uses) none = by (bytes_eq name entry.0) refl none (not_found name uses)
  where
    by : (here : Bool) → bytes_eq name entry.0 ≡ here → (here || list_any (bytes_eq name) (keys_of uses)) ≡ false
        → (list_any (bytes_eq name) (keys_of uses) ≡ false → lookup (bytes_eq name) uses ≡ None)
        → cond here (Some entry.1) (lookup (bytes_eq name) uses) ≡ None
    by true here none again = absurd (true≢false none)
    by false here none again = again none

-- both the names of phrases that went and those of phrases that came: all names
pub mends_all : (before went came mid mended : PlainUses) → AreOrdered before
    → MendsNames (λ name. list_any (bytes_eq name) (keys_of went)) before went came [] mid
    → MendsNames (λ name. list_any (bytes_eq name) (keys_of came)) before went came mid mended
    → (name : List ℕ) → IsNameMended before went came mended name
mends_all before went came mid mended ordered first then name =
    by (list_any (bytes_eq name) (keys_of went)) (list_any (bytes_eq name) (keys_of came)) refl refl
  where
    none : MayBeMended before went came []
    none other = inl refl

    stay : (b : Bool) → b ≡ is_left b false false
    stay true = refl
    stay false = refl

    unchanged : mentions_of name went ≡ [] → mentions_of name came ≡ []
        → IsMended (mentions_of name before) (mentions_of name went) (mentions_of name came) (mentions_of name before)
    unchanged goes comes =
        subst (λ w. IsMended (mentions_of name before) w (mentions_of name came) (mentions_of name before)) (sym goes)
        (subst (λ c. IsMended (mentions_of name before) [] c (mentions_of name before)) (sym comes)
        record { increasing = ordered name; each = λ at. stay (is_among at (mentions_of name before)) })

    left : mentions_of name went ≡ [] → mentions_of name came ≡ []
        → ((lookup (bytes_eq name) mended ≡ None) ⊎ IsNameMended before went came mended name) → IsNameMended before went came mended name
    left goes comes (inl nowhere) =
        subst (λ o. IsMended (mentions_of name before) (mentions_of name went) (mentions_of name came) (changed_or o (mentions_of name before)))
        (sym nowhere) (unchanged goes comes)
    left goes comes (inr is) = is

    by : (goes comes : Bool) → list_any (bytes_eq name) (keys_of went) ≡ goes → list_any (bytes_eq name) (keys_of came) ≡ comes
        → IsNameMended before went came mended name
    by true comes e f = then.others name (first.these none name e)
    by false true e f = then.these (first.all none) name f
    by false false e f =
        left (ap (λ o. unwrap_or o []) (not_found name went e)) (ap (λ o. unwrap_or o []) (not_found name came f)) (then.all (first.all none) name)

-- ---- changes put in place, the last one first

-- what is found in place of what is kept, with one more change behind the others
pub with_last_change : {V : Type 0} (test : List ℕ → Bool) (changes : List (List ℕ × V)) (change : List ℕ × V) (kept : V)
    → changed_or (lookup test (changes ++ (change ∷ []))) kept ≡ changed_or (lookup test changes) (cond (test change.0) change.1 kept)
with_last_change test [] change kept = by (test change.0)
  where
    by : (here : Bool) → changed_or (cond here (Some change.1) None) kept ≡ cond here change.1 kept
    by true = refl
    by false = refl
with_last_change test (first ∷ changes) change kept = by (test first.0) (with_last_change test changes change kept)
  where
    by : (here : Bool)
        → (changed_or (lookup test (changes ++ (change ∷ []))) kept ≡ changed_or (lookup test changes) (cond (test change.0) change.1 kept))
        → changed_or (cond here (Some first.1) (lookup test (changes ++ (change ∷ [])))) kept
        ≡ changed_or (cond here (Some first.1) (lookup test changes)) (cond (test change.0) change.1 kept)
    by true again = refl
    by false again = again

-- with what the changes that are left do, all is done
pub left_changes : {V : Type 0} (name key : List ℕ) (left rest : List (List ℕ × V)) (value kept new : V)
    → left ≡ rest ++ ((key, value) ∷ []) → new ≡ cond (bytes_eq key name) value kept
    → changed_or (lookup (bytes_eq name) rest) new ≡ changed_or (lookup (bytes_eq name) left) kept
left_changes name key left rest value kept new left_is new_is =
    ap (changed_or (lookup (bytes_eq name) rest)) (new_is ∙ ap (λ b. cond b value kept) (same_name key name))
    ∙ sym (with_last_change (bytes_eq name) rest (key, value) kept)
    ∙ ap (λ l. changed_or (lookup (bytes_eq name) l) kept) (sym left_is)
