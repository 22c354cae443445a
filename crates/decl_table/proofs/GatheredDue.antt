-- The places that are gathered as due for a check are those for which there is a reason.
use Rattle.std.proofs.Common.{◌≡◌, ℕ, Bool, true, List, [], ◌∷◌, ◌++◌, Option, ap, sym, subst, ◌⊎◌, inl, inr, arith, true≢false}
use Rattle.std.specs.Prelude.{◌↔◌, ◌||◌, bytes_eq, Contains, flat_map}
use Rattle.std.proofs.lemmas.List.Concat.{flat_map-cons}
use Rattle.std.proofs.lemmas.List.Elements.{Contains-append_cases, Contains-append_left, Contains-append_right}
use Rattle.plcs_base.specs.declared.declared.Declared.{Declared}
use Rattle.plcs_base.specs.declared.place.PhraseAt.{PhraseAt}
use Rattle.template_tree.specs.Programs.PlainTree.{PlainNode}
use Rattle.decl_table.specs.PlainDecls.{PlainDecls, PlainUses}
use Rattle.decl_table.specs.Private.AffectedView.{IsGathered}
use Rattle.decl_table.specs.Private.ChangeBefore.{spots_of}
use Rattle.decl_table.specs.Private.DuePlaces.{AreDueBy, IsDueBy, due_lists, uses_now}
use Rattle.decl_table.specs.Private.NameTests.{has_name}
use Rattle.decl_table.specs.Private.PlainNameNode.{PlainNameNode}
use Rattle.decl_table.specs.Private.ReachView.{has_lists}
use Rattle.decl_table.specs.Private.UsesView.{IsSettled}
use Rattle.decl_table.specs.declared.reach.Reach.{Reach}
use Rattle.decl_table.proofs.AffectedHeadings.{is_name, itself, or_right, or_split}

or_left : (a b : Bool) → a ≡ true → (a || b) ≡ true
or_left a b is = ap (λ (x : Bool). x || b) is

-- ---- places under names

-- a place under one of the names
pub in_flat : (f : List ℕ → List PhraseAt) (at : PhraseAt) (names : List (List ℕ)) → Contains (flat_map f names) at
    → (name : List ℕ) × (has_name names name ≡ true) × Contains (f name) at
in_flat f at [] there = absurd (omega (arith, there.1))
in_flat f at (first ∷ rest) there =
    by (Contains-append_cases (f first) (flat_map f rest) at (subst (λ (ps : List PhraseAt). Contains ps at) (flat_map-cons f first rest) there))
    (λ e. in_flat f at rest e)
  where
    by : (Contains (f first) at) ⊎ (Contains (flat_map f rest) at)
        → (Contains (flat_map f rest) at → (name : List ℕ) × (has_name rest name ≡ true) × Contains (f name) at)
        → (name : List ℕ) × (has_name (first ∷ rest) name ≡ true) × Contains (f name) at
    by (inl e) again = (first, or_left (bytes_eq first first) (has_name rest first) (itself first), e)
    by (inr e) again =
        let found = again e in
        (found.0, or_right (bytes_eq found.0 first) (has_name rest found.0) found.1, found.2)

pub flat_in : (f : List ℕ → List PhraseAt) (at : PhraseAt) (names : List (List ℕ)) (name : List ℕ) → has_name names name ≡ true
    → Contains (f name) at → Contains (flat_map f names) at
flat_in f at [] name there e = absurd (true≢false (sym there))
flat_in f at (first ∷ rest) name there e =
    subst (λ (ps : List PhraseAt). Contains ps at) (sym (flat_map-cons f first rest))
    (by (or_split (bytes_eq name first) (has_name rest name) there) (λ h. flat_in f at rest name h e))
  where
    by : (bytes_eq name first ≡ true) ⊎ (has_name rest name ≡ true) → (has_name rest name ≡ true → Contains (flat_map f rest) at)
        → Contains (f first ++ flat_map f rest) at
    by (inl same) again =
        Contains-append_left (f first) (flat_map f rest) at (subst (λ (n : List ℕ). Contains (f n) at) (is_name name first same) e)
    by (inr h) again = Contains-append_right (f first) (flat_map f rest) at (again h)

-- ---- all that is gathered

module _ (reach : Reach) (part : Option ℕ) (stood stands : Option PlainNameNode) (decls : PlainDecls) (changed : PlainUses)
    (old new : List Declared) (procedure : Option PlainNode) (names : List (List ℕ))
    (are : (name : List ℕ) → (has_name names name ≡ true) ↔ IsGathered reach part stood stands decls.headings old new procedure name) where
  abbrev Reason : PhraseAt → Type 0
  Reason at = IsDueBy reach part stood stands decls changed old new procedure at

  of_names : (at : PhraseAt) → Contains (flat_map (uses_now decls.uses changed) names) at → Reason at
  of_names at there =
      let found = in_flat (uses_now decls.uses changed) at names there in
      IsDueBy.affected found.0 ((are found.0).0 found.1) found.2

  pub are_due : (none one two three due : List PhraseAt) → none ≡ [] → one ≡ none ++ spots_of part stands
      → two ≡ one ++ due_lists (has_lists reach) procedure → three ≡ two ++ flat_map (uses_now decls.uses changed) names
      → IsSettled three due → AreDueBy reach part stood stands decls changed old new procedure due
  are_due none one two three due empty first second third settled = record {
    increasing = settled.increasing;
    each = λ at. ((λ there. told at ((settled.each at).0 there)), (λ reason. (settled.each at).1 (among at reason)));
  }
    where
      spots : List PhraseAt
      spots = spots_of part stands

      lists : List PhraseAt
      lists = due_lists (has_lists reach) procedure

      uses : List PhraseAt
      uses = flat_map (uses_now decls.uses changed) names

      in_first : (at : PhraseAt) → (Contains none at) ⊎ (Contains spots at) → Reason at
      in_first at (inl e) =
          let nowhere : Contains [] at = subst (λ (ps : List PhraseAt). Contains ps at) empty e in
          absurd (omega (arith, nowhere.1))
      in_first at (inr e) = IsDueBy.put_in e

      in_second : (at : PhraseAt) → (Contains one at) ⊎ (Contains lists at) → Reason at
      in_second at (inl e) =
          in_first at (Contains-append_cases none spots at (subst (λ (ps : List PhraseAt). Contains ps at) first e))
      in_second at (inr e) = IsDueBy.listed e

      in_third : (at : PhraseAt) → (Contains two at) ⊎ (Contains uses at) → Reason at
      in_third at (inl e) =
          in_second at (Contains-append_cases one lists at (subst (λ (ps : List PhraseAt). Contains ps at) second e))
      in_third at (inr e) = of_names at e

      told : (at : PhraseAt) → Contains three at → Reason at
      told at there = in_third at (Contains-append_cases two uses at (subst (λ (ps : List PhraseAt). Contains ps at) third there))

      up_two : (at : PhraseAt) → Contains two at → Contains three at
      up_two at e = subst (λ (ps : List PhraseAt). Contains ps at) (sym third) (Contains-append_left two uses at e)

      up_one : (at : PhraseAt) → Contains one at → Contains three at
      up_one at e = up_two at (subst (λ (ps : List PhraseAt). Contains ps at) (sym second) (Contains-append_left one lists at e))

      among : (at : PhraseAt) → Reason at → Contains three at
      among at (IsDueBy.put_in e) =
          up_one at (subst (λ (ps : List PhraseAt). Contains ps at) (sym first) (Contains-append_right none spots at e))
      among at (IsDueBy.listed e) =
          up_two at (subst (λ (ps : List PhraseAt). Contains ps at) (sym second) (Contains-append_right one lists at e))
      among at (IsDueBy.affected name reason e) =
          subst (λ (ps : List PhraseAt). Contains ps at) (sym third)
          (Contains-append_right two uses at (flat_in (uses_now decls.uses changed) at names name ((are name).1 reason) e))
