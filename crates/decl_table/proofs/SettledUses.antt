-- The places under each name put in order, name after name.
use Rattle.std.proofs.Common.{◌≡◌, ℕ, ◌+◌, ◌≤◌, zero, suc, Bool, true, false, cond, List, [], ◌∷◌, length, slice_get, Some, None, refl, sym, ap, subst, ◌∙◌, add-one, arith}
use Rattle.std.specs.Prelude.{Contains, bytes_eq, unwrap_or}
use Rattle.std.specs.List.Sorted.{IsStrictlySortedBy}
use Rattle.std.specs.Map.{lookup, values_of}
use Rattle.indexmap.specs.IndexMap.{set_value_at}
use Rattle.plcs_base.specs.declared.place.PhraseAt.{PhraseAt}
use Rattle.decl_table.specs.PlainDecls.{PlainUses, mentions_of}
use Rattle.decl_table.specs.Private.UsesView.{Adds, AreSettled, IsSettled, IsSettling, is_among}
use Rattle.std.proofs.lemmas.Map.Views.{Contains-from_any, list_any-from_Contains}
use Rattle.plcs_base.specs.PlaceOrder.{places_equiv, same_place}

-- one more is settled
next : (k : ℕ) (first now : PlainUses) (places settled : List PhraseAt) → slice_get (values_of now) k ≡ Some places → IsSettled places settled
    → IsSettling k first now → IsSettling (suc k) first (set_value_at now k settled)
next zero first [] places settled there is same = absurd (cc)
next zero first (entry ∷ now) places settled there is same =
    let e : entry.1 ≡ places = cc in
    subst (λ all. IsSettling 1 all (set_value_at (entry ∷ now) 0 settled)) same
    (refl, subst (λ p. IsSettled p settled) (sym e) is, refl)
next (suc k) [] now places settled there is same = absurd (let e : slice_get (values_of (let xs : PlainUses = [] in xs)) (suc k) ≡ Some places = ap (λ all. slice_get (values_of all) (suc k)) (sym same) ∙ there in cc)
next (suc k) (entry ∷ first) [] places settled there is same = absurd same
next (suc k) (entry ∷ first) (other ∷ now) places settled there is (key, done, rest) =
    (key, done, next k first now places settled there is rest)

pub settling_next : (k : ℕ) (first now new : PlainUses) (places settled : List PhraseAt) → slice_get (values_of now) k ≡ Some places
    → IsSettled places settled → new ≡ set_value_at now k settled → IsSettling k first now → IsSettling (k + 1) first new
settling_next k first now new places settled there is new_is same =
    subst (λ n. IsSettling n first new) (sym (add-one k))
    (subst (IsSettling (suc k) first) (sym new_is) (next k first now places settled there is same))

-- and where there is none at the number, nothing is left to do
pub settling_past : (k : ℕ) (first now : PlainUses) → slice_get (values_of now) k ≡ None → IsSettling k first now → IsSettling (k + 1) first now
settling_past k first now none same = subst (λ n. IsSettling n first now) (sym (add-one k)) (past k first now none same)
  where
    past : (k : ℕ) (first now : PlainUses) → slice_get (values_of now) k ≡ None → IsSettling k first now → IsSettling (suc k) first now
    past zero [] now none same = same
    past zero (entry ∷ first) now none same =
        absurd (let e : slice_get (values_of (entry ∷ first)) 0 ≡ None = ap (λ all. slice_get (values_of all) 0) (sym same) ∙ none in cc)
    past (suc k) [] now none same = same
    past (suc k) (entry ∷ first) [] none same = absurd same
    past (suc k) (entry ∷ first) (other ∷ now) none (key, done, rest) = (key, done, past k first now none rest)

-- the empty list is settled
pub settled_nil : IsSettled [] []
unfolding IsStrictlySortedBy
settled_nil = record { increasing = tt; each = λ at. (λ there. there, λ there. there) }

-- where all are settled, those under each name are
pub settled_all : (k : ℕ) (first now : PlainUses) → length first ≤ k → IsSettling k first now → AreSettled first now
settled_all zero [] now few same name = subst (λ all. IsSettled [] (mentions_of name all)) (sym same) settled_nil
settled_all zero (entry ∷ first) now few same name = absurd (omega (arith, few))
settled_all (suc k) [] now few same name = subst (λ all. IsSettled [] (mentions_of name all)) (sym same) settled_nil
settled_all (suc k) (entry ∷ first) [] few same name = absurd same
settled_all (suc k) (entry ∷ first) (other ∷ now) few (key, done, rest) name =
    subst
    (λ n. IsSettled (unwrap_or (cond (bytes_eq name entry.0) (Some entry.1) (lookup (bytes_eq name) first)) [])
    (unwrap_or (cond (bytes_eq name n) (Some other.1) (lookup (bytes_eq name) now)) []))
    (sym key) (by (bytes_eq name entry.0) (settled_all k first now (omega (arith, few)) rest name))
  where
    by : (here : Bool) → IsSettled (mentions_of name first) (mentions_of name now)
        → IsSettled (unwrap_or (cond here (Some entry.1) (lookup (bytes_eq name) first)) [])
        (unwrap_or (cond here (Some other.1) (lookup (bytes_eq name) now)) [])
    by true others = done
    by false others = others

-- ---- what was noted, and is settled

-- the places that a test of membership tells, once they are noted where nothing was and settled
pub settled_from : (places : List ℕ → List PhraseAt) (noted settled : PlainUses)
    → Adds (λ name at. is_among at (places name)) [] noted → AreSettled noted settled
    → (name : List ℕ) → IsSettled (places name) (mentions_of name settled)
settled_from places noted settled adds are name =
    record {
      increasing = (are name).increasing;
      each = λ at. (
        λ there. among at (places name) (sym (adds name at) ∙ is_there at (mentions_of name settled) (mentions_of name noted) ((are name).each at).0 there),
        λ there. ((are name).each at).1 (among at (mentions_of name noted) (adds name at ∙ list_any-from_Contains places_equiv at (places name) there)),
      );
    }
  where
    among : (at : PhraseAt) (all : List PhraseAt) → is_among at all ≡ true → Contains all at
    among at all there = Contains-from_any same_place at all there

    is_there : (at : PhraseAt) (new old : List PhraseAt) → (Contains new at → Contains old at) → Contains new at → is_among at old ≡ true
    is_there at new old back there = list_any-from_Contains places_equiv at old (back there)
