-- The maps of code, by what their entries are. A map in memory finds by a test of keys what the finite map finds by
-- their order, so what is put into the one is put into the other; and a map that is filled from its last entry on is
-- that of the entries.
use Rattle.std.proofs.Common.{◌≡◌, Bool, true, false, cond, List, [], ◌∷◌, ◌++◌, Option, Some, None, refl, sym, ap, ◌∙◌}
use Rattle.std.specs.Prelude.{is_some}
use Rattle.std.specs.Cmp.{IsTotalOrder}
use Rattle.std.specs.FinMap.{FinMap, IsAntisymmetric, find, from_entries, from_entries_push, get, get-from_entries, get-insert, get_tied, insert, same_map}
use Rattle.std.specs.Map.{lookup}
use Rattle.std.specs.Option.{option_or}
use Rattle.std.specs.Ordering.{eq_by_cmp, is_eq}
use Rattle.std.specs.declared.cmp.Ordering.{Ordering}
use Rattle.std.specs.declared.cmp.Ordering.TheVariants.{Equal}
use Rattle.std.proofs.lemmas.Cmp.{eq_by_cmp_equiv}
use Rattle.std.proofs.lemmas.List.{append-nil, append_assoc}
use Rattle.plcs_code.specs.Private.CodeMaps.{with_all, with_first, with_firsts}

-- ---- maps in memory

module _ {K X : Type 0} {R : K → K → Ordering} (total : IsTotalOrder R) (anti : IsAntisymmetric R) (same : K → K → Bool) (ties : (x y : K) → same x y ≡ eq_by_cmp R x y) where
  -- the finite map finds what the test finds
  pub found : (es : List (K × X)) (q : K) → get (from_entries {R = R} es) q ≡ lookup (same q) es
  found es q = get-from_entries total es q ∙ listed es
    where
      listed : (es : List (K × X)) → find R q es ≡ lookup (same q) es
      listed [] = refl
      listed (e ∷ es) =
          ap (λ b. cond b (Some e.1) (find R q es)) (sym (ties q e.0)) ∙ ap (λ o. cond (same q e.0) (Some e.1) o) (listed es)

  -- what is put under a key is inserted
  pub put : (k : K) (v : X) (old new : List (K × X))
      → ((q : K) → lookup (same q) new ≡ cond (same k q) (Some v) (lookup (same q) old))
      → from_entries {R = R} new ≡ insert (from_entries {R = R} old) k v
  put k v old new is =
      same_map total anti _ _
      (λ q. found new q
      ∙ is q
      ∙ ap (λ b. cond b (Some v) (lookup (same q) old)) (ties k q ∙ (eq_by_cmp_equiv total).symm k q)
      ∙ ap (λ o. cond (eq_by_cmp R q k) (Some v) o) (sym (found old q))
      ∙ sym (get-insert total (from_entries {R = R} old) k v q))

-- ---- maps filled from the last entry on

module _ {K X : Type 0} {R : K → K → Ordering} where
  -- entries before those of a map
  pub all_before : (es fs : List (K × X)) → with_all es (from_entries {R = R} fs) ≡ from_entries {R = R} (es ++ fs)
  all_before [] fs = refl
  all_before (e ∷ es) fs = ap (λ m. insert m e.0 e.1) (all_before es fs)

  -- entries before the others
  pub all_both : (es fs : List (K × X)) (m : FinMap R X) → with_all (es ++ fs) m ≡ with_all es (with_all fs m)
  all_both [] fs m = refl
  all_both (e ∷ es) fs m = ap (λ m. insert m e.0 e.1) (all_both es fs m)

-- ---- maps filled from the first entry on

module _ {K X : Type 0} {R : K → K → Ordering} (total : IsTotalOrder R) (anti : IsAntisymmetric R) where
  -- what is found in some entries comes before the others
  find_both : (es fs : List (K × X)) (q : K) → find R q (es ++ fs) ≡ option_or (find R q es) (find R q fs)
  find_both [] fs q = refl
  find_both (e ∷ es) fs q = by (eq_by_cmp R q e.0) (find_both es fs q)
    where
      by : (b : Bool) → find R q (es ++ fs) ≡ option_or (find R q es) (find R q fs)
          → cond b (Some e.1) (find R q (es ++ fs)) ≡ option_or (cond b (Some e.1) (find R q es)) (find R q fs)
      by true others = refl
      by false others = others

  -- an entry whose key is there changes nothing
  later : (es : List (K × X)) (k : K) (v w : X) → get (from_entries {R = R} es) k ≡ Some w → from_entries {R = R} (es ++ (k, v) ∷ []) ≡ from_entries {R = R} es
  later es k v w there =
      same_map total anti _ _
      (λ q. get-from_entries total (es ++ (k, v) ∷ []) q
      ∙ find_both es ((k, v) ∷ []) q
      ∙ ap (λ o. option_or o (find R q ((k, v) ∷ []))) (sym (get-from_entries total es q))
      ∙ by q (eq_by_cmp R q k) refl)
    where
      found_or : (o : Option X) → option_or o None ≡ o
      found_or None = refl
      found_or (Some x) = refl

      equal : (r : Ordering) → is_eq r ≡ true → r ≡ Equal
      equal Ordering.Less e = absurd (cc)
      equal Ordering.Equal e = refl
      equal Ordering.Greater e = absurd (cc)

      by : (q : K) (b : Bool) → eq_by_cmp R q k ≡ b
          → option_or (get (from_entries {R = R} es) q) (cond (eq_by_cmp R q k) (Some v) None) ≡ get (from_entries {R = R} es) q
      by q true e =
          let tied : get (from_entries {R = R} es) q ≡ Some w = sym (get_tied total (from_entries {R = R} es) q k (equal (R q k) e)) ∙ there in
          ap (λ o. option_or o (cond (eq_by_cmp R q k) (Some v) None)) tied ∙ sym tied
      by q false e = ap (λ b. option_or (get (from_entries {R = R} es) q) (cond b (Some v) None)) e ∙ found_or _

  -- one more entry, of which the first of a key counts
  pub first_behind : (es : List (K × X)) (k : K) (v : X) → with_first (from_entries {R = R} es) k v ≡ from_entries {R = R} (es ++ (k, v) ∷ [])
  first_behind es k v = by (get (from_entries {R = R} es) k) refl
    where
      by : (o : Option X) → get (from_entries {R = R} es) k ≡ o → with_first (from_entries {R = R} es) k v ≡ from_entries {R = R} (es ++ (k, v) ∷ [])
      by None e =
          ap (λ o. cond (is_some o) (from_entries {R = R} es) (insert (from_entries {R = R} es) k v)) e
          ∙ sym (from_entries_push total anti es k v (sym (get-from_entries total es k) ∙ e))
      by (Some w) e =
          ap (λ o. cond (is_some o) (from_entries {R = R} es) (insert (from_entries {R = R} es) k v)) e ∙ sym (later es k v w e)

  -- more entries
  pub firsts_behind : (es fs : List (K × X)) → with_firsts (from_entries {R = R} es) fs ≡ from_entries {R = R} (es ++ fs)
  firsts_behind es [] = ap (λ xs. from_entries {R = R} xs) (sym (append-nil es))
  firsts_behind es (f ∷ fs) =
      ap (λ m. with_firsts m fs) (first_behind es f.0 f.1)
      ∙ firsts_behind (es ++ (f ∷ [])) fs
      ∙ ap (λ xs. from_entries {R = R} xs) (append_assoc es (f ∷ []) fs)

-- entries behind others
pub firsts_both : {K X : Type 0} {R : K → K → Ordering} (map : FinMap R X) (es fs : List (K × X)) → with_firsts map (es ++ fs) ≡ with_firsts (with_firsts map es) fs
firsts_both map [] fs = refl
firsts_both map (e ∷ es) fs = firsts_both (with_first map e.0 e.1) es fs
