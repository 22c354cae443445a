-- Kept nodes once an item came or went among them: they are those that were kept, by their numbers after the edit.
use Rattle.std.proofs.Common.{◌≡◌, ℕ, zero, suc, ◌+◌, ◌-◌, ◌<◌, ◌≤◌, Bool, true, false, List, [], ◌∷◌, length, Option, Some, None, refl, ap, sym, subst, ◌∙◌, arith, eqb-true, false-eqb, ltb-false, ltb-true, true≢false}
use Rattle.std.specs.Prelude.{◌==◌, nat_lt, if◌then◌else◌, IsSome, MatchOption, slice_get}
use Rattle.std.specs.Option.{option_map_or}
use Rattle.std.proofs.lemmas.Option.{none-some, same_Some}
use Rattle.template_tree.specs.declared.change.What.{What}
use Rattle.template_tree.specs.Programs.PlainTree.{Forest, PlainNode, forest, nodes}
use Rattle.code_patch.specs.CodeEdit.{code_added, code_gives_way, roomless_code}
use Rattle.code_patch.specs.CodeForest.{CodeForest, kept_code, PlainCodeNode, code_nodes}
use Rattle.code_patch.specs.Private.NearCode.{PlainPlan, is_added, is_of_item, item_edited, item_number, kept_item, kept_number}
use Rattle.code_patch.specs.Private.PlainCodeNode.{code_forest, kept_node, roomless_code_node}
use Rattle.code_patch.specs.Private.PreparedNodes.{ItemFits, KeptStay, WayFits}
use Rattle.code_patch.proofs.NearNodes.{added_behind, added_before, dropped_behind, dropped_before}
use Rattle.code_patch.proofs.MadeCode.{roomless_kept}
use Rattle.code_patch.proofs.NearRooms.{roomless_added}

-- ---- the item at which a way ends

-- it came or went
pub item_is : (what : What) (way : Option (List ℕ)) (k : ℕ) → item_number what way ≡ Some k → is_of_item what ≡ true
item_is what None k is = absurd (none-some k is)
item_is what (Some []) k is = absurd (none-some k is)
item_is what (Some (first ∷ [])) k is = by (is_of_item what) is
  where
    by : (b : Bool) → (if b then Some first else None) ≡ Some k → b ≡ true
    by true e = refl
    by false e = absurd (none-some k e)
item_is what (Some (first ∷ next ∷ path)) k is = absurd (none-some k is)

-- where it came there is room, and where it went it is there
pub item_came : (what : What) (k : ℕ) (kept : PlainCodeNode) (after : Forest) → is_added what ≡ true → ItemFits what k kept after
    → (k ≤ length (code_nodes kept.inner)) × (0 < kept.spare) × IsSome (slice_get (nodes after) k)
item_came What.Node k kept after is fits = absurd (true≢false (sym is))
item_came (What.Part part) k kept after is fits = absurd (true≢false (sym is))
item_came What.Added k kept after is fits = fits
item_came What.Dropped k kept after is fits = absurd (true≢false (sym is))

pub item_went : (what : What) (k : ℕ) (kept : PlainCodeNode) (after : Forest) → is_of_item what ≡ true → is_added what ≡ false
    → ItemFits what k kept after → k < length (code_nodes kept.inner)
item_went What.Node k kept after is other fits = absurd (true≢false (sym is))
item_went (What.Part part) k kept after is other fits = absurd (true≢false (sym is))
item_went What.Added k kept after is other fits = absurd (true≢false other)
item_went What.Dropped k kept after is other fits = fits

-- it can come, or go
pub item_fits : (what : What) (way : Option (List ℕ)) (k : ℕ) (kept : PlainCodeNode) (after : Forest) → item_number what way ≡ Some k
    → WayFits what way kept after → ItemFits what k kept after
item_fits what None k kept after is fits = absurd (none-some k is)
item_fits what (Some []) k kept after is fits = absurd (none-some k is)
item_fits what (Some (first ∷ [])) k kept after is fits = by (is_of_item what) is
  where
    by : (b : Bool) → (if b then Some first else None) ≡ Some k → ItemFits what k kept after
    by true e = subst (λ (n : ℕ). ItemFits what n kept after) (same_Some first k e) fits
    by false e = absurd (none-some k e)
item_fits what (Some (first ∷ next ∷ path)) k kept after is fits = absurd (none-some k is)

-- ---- numbers

-- the number of a node by that of the item
abbrev number_by : (added : Bool) → (item k : ℕ) → Option ℕ
number_by added item k =
    if nat_lt k item then Some k else (if added then (if k == item then None else Some (k - 1)) else Some (k + 1))

-- the node of an item that came
added_here : (node : PlainCodeNode) (item : ℕ) (kept : CodeForest) → item ≤ length (code_nodes kept)
    → slice_get (code_nodes (code_added (code_forest (node ∷ [])) item kept)) item ≡ Some node
added_here node zero kept there = refl
added_here node (suc item) CodeForest.nil there = absurd (omega (arith, there))
added_here node (suc item) (CodeForest.cons own spare inner rest) there = added_here node item rest (omega (arith, there))

module _ (plan : PlainPlan) (way : Option (List ℕ)) (kept : PlainCodeNode) (after : Forest) where
  -- no item came or went
  pub stay_none : item_number plan.what way ≡ None → KeptStay plan way kept kept.inner after
  stay_none none k node there =
      let number : kept_number plan.what way k ≡ Some k =
      ap
      (λ (o : Option ℕ).
      option_map_or
      (λ item.
      if nat_lt k item then Some k
      else (if is_added plan.what then (if k == item then None else Some (k - 1)) else Some (k + 1)))
      o (Some k))
      none in
      subst
      (λ (o : Option ℕ).
      MatchOption o
      ((child : PlainCodeNode) × (slice_get (code_nodes kept.inner) k ≡ Some child)
      × (roomless_code_node child ≡ kept_node plan.marks plan.items node))
      (λ number. slice_get (code_nodes kept.inner) k ≡ slice_get (code_nodes kept.inner) number))
      (sym number) refl

  pub edited_none : item_number plan.what way ≡ None → item_edited plan way kept.inner after ≡ kept.inner
  edited_none none =
      ap
      (λ (o : Option ℕ).
      option_map_or
      (λ k.
      if is_added plan.what then code_added (kept_item plan k after) k kept.inner
      else code_gives_way (λ was spare within. CodeForest.nil) k kept.inner)
      o kept.inner)
      none

  module _ (item : ℕ) (is : item_number plan.what way ≡ Some item) where
    -- the number of each node then
    numbered : (added : Bool) → is_added plan.what ≡ added → (k : ℕ) → kept_number plan.what way k ≡ number_by added item k
    numbered added did k =
        (λ i.
        option_map_or
        (λ item.
        if nat_lt k item then Some k
        else (if did i then (if k == item then None else Some (k - 1)) else Some (k + 1)))
        (is i) (Some k))

    -- the node of an item that came, among what is made
    abbrev CameAs : (made : CodeForest) → (k : ℕ) → PlainNode → Type 0
    CameAs made k node =
        (child : PlainCodeNode) × (slice_get (code_nodes made) k ≡ Some child)
        × (roomless_code_node child ≡ kept_node plan.marks plan.items node)

    -- an item came
    pub stay_added : is_added plan.what ≡ true → (child : PlainCodeNode) (made : CodeForest)
        → made ≡ code_added (code_forest (child ∷ [])) item kept.inner → item ≤ length (code_nodes kept.inner)
        → ((node : PlainNode) → slice_get (nodes after) item ≡ Some node → roomless_code_node child ≡ kept_node plan.marks plan.items node)
        → KeptStay plan way kept made after
    stay_added did child made so within its k node there =
        subst
        (λ (o : Option ℕ).
        MatchOption o (CameAs made k node) (λ number. slice_get (code_nodes made) k ≡ slice_get (code_nodes kept.inner) number))
        (sym (numbered true did k)) (by (nat_lt k item) (k == item) refl refl)
      where
        at : slice_get (code_nodes made) k ≡ slice_get (code_nodes (code_added (code_forest (child ∷ [])) item kept.inner)) k
        at = ap (λ (f : CodeForest). slice_get (code_nodes f) k) so

        by : (less same : Bool) → nat_lt k item ≡ less → (k == item) ≡ same
            → MatchOption (if less then Some k else (if same then None else Some (k - 1))) (CameAs made k node)
            (λ number. slice_get (code_nodes made) k ≡ slice_get (code_nodes kept.inner) number)
        by true same e f = at ∙ added_before (code_forest (child ∷ [])) item k kept.inner (ltb-true k item e) within
        by false true e f =
            let here : k ≡ item = eqb-true k item f in (
              child,
              at ∙ ap (λ (n : ℕ). slice_get (code_nodes (code_added (code_forest (child ∷ [])) item kept.inner)) n) here
                  ∙ added_here child item kept.inner within,
              its node (ap (λ (n : ℕ). slice_get (nodes after) n) (sym here) ∙ there),
            )
        by false false e f =
            let differs : k ≡ item → ⊥ = false-eqb k item (sym f) in
            at ∙ added_behind child item k kept.inner (omega (arith, ltb-false k item e, differs)) within

    -- and is among what is kept
    pub edited_added : is_added plan.what ≡ true → (child : PlainCodeNode) (node : PlainNode) (made : CodeForest)
        → made ≡ code_added (code_forest (child ∷ [])) item kept.inner → slice_get (nodes after) item ≡ Some node
        → roomless_code_node child ≡ kept_node plan.marks plan.items node
        → roomless_code made ≡ roomless_code (item_edited plan way kept.inner after)
    edited_added did child node made so there its =
        let came : kept_item plan item after ≡ kept_code plan.marks plan.items (forest (node ∷ [])) =
        ap
        (λ (o : Option PlainNode).
        option_map_or (λ node. kept_code plan.marks plan.items (forest (node ∷ []))) o CodeForest.nil)
        there in
        let one : roomless_code (code_forest (child ∷ [])) ≡ kept_code plan.marks plan.items (forest (node ∷ [])) =
        ap (λ (n : PlainCodeNode). CodeForest.cons n.own n.spare n.inner CodeForest.nil) its in
        let none : roomless_code (kept_item plan item after) ≡ roomless_code (code_forest (child ∷ [])) =
        ap roomless_code came ∙ roomless_kept plan.marks plan.items (forest (node ∷ [])) ∙ sym one in
        ap roomless_code so
        ∙ roomless_added (code_forest (child ∷ [])) item kept.inner
        ∙ sym (ap (λ (f : CodeForest). code_added f item (roomless_code kept.inner)) none)
        ∙ sym (roomless_added (kept_item plan item after) item kept.inner)
        ∙ sym
        (λ i.
        roomless_code
        (option_map_or
        (λ k.
        if did i then code_added (kept_item plan k after) k kept.inner
        else code_gives_way (λ was spare within. CodeForest.nil) k kept.inner)
        (is i) kept.inner))

    -- an item went
    pub stay_dropped : is_added plan.what ≡ false → (made : CodeForest)
        → made ≡ code_gives_way (λ was spare within. CodeForest.nil) item kept.inner → KeptStay plan way kept made after
    stay_dropped did made so k node there =
        subst
        (λ (o : Option ℕ).
        MatchOption o (CameAs made k node) (λ number. slice_get (code_nodes made) k ≡ slice_get (code_nodes kept.inner) number))
        (sym (numbered false did k)) (by (nat_lt k item) refl)
      where
        at : slice_get (code_nodes made) k ≡ slice_get (code_nodes (code_gives_way (λ was spare within. CodeForest.nil) item kept.inner)) k
        at = ap (λ (f : CodeForest). slice_get (code_nodes f) k) so

        by : (less : Bool) → nat_lt k item ≡ less
            → MatchOption (if less then Some k else Some (k + 1)) (CameAs made k node)
            (λ number. slice_get (code_nodes made) k ≡ slice_get (code_nodes kept.inner) number)
        by true e = at ∙ dropped_before item k kept.inner (ltb-true k item e)
        by false e =
            let next : suc k ≡ k + 1 = omega arith in
            at ∙ dropped_behind item k kept.inner (ltb-false k item e) ∙ ap (λ (n : ℕ). slice_get (code_nodes kept.inner) n) next

    pub edited_dropped : is_added plan.what ≡ false → (made : CodeForest)
        → made ≡ code_gives_way (λ was spare within. CodeForest.nil) item kept.inner
        → made ≡ item_edited plan way kept.inner after
    edited_dropped did made so =
        so
        ∙ sym
        (λ i.
        option_map_or
        (λ k.
        if did i then code_added (kept_item plan k after) k kept.inner
        else code_gives_way (λ was spare within. CodeForest.nil) k kept.inner)
        (is i) kept.inner)
