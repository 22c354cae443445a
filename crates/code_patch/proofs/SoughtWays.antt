-- The way to what an edit changed: among what is kept, where an item was dropped, or in the tree.
use Rattle.std.specs.Prelude.{◌≡◌, ◌↔◌, ℕ, Bool, false, true, Option, Some, None, IfNone, IfSome, IsNone, List}
use Rattle.std.proofs.Common.{ap, refl, sym, subst, ◌∙◌}
use Rattle.template_tree.specs.declared.change.What.{What}
use Rattle.template_tree.specs.Positions.Path.{slot_at}
use Rattle.template_tree.specs.Programs.PlainTree.{Forest}
use Rattle.template_tree.specs.Programs.Slots.{times}
use Rattle.code_patch.specs.SoundCode.{times_kept}
use Rattle.code_patch.specs.CodeForest.{PlainCodeNode}
use Rattle.code_patch.specs.CodeEdit.{PlainCodeTree}
use Rattle.code_patch.specs.Private.KeptPaths.{LeadsToChange, root_of, times_sought}
use Rattle.code_patch.specs.Private.NearCode.{is_dropped}
use Rattle.code_patch.proofs.SoughtSlots.{leads_kept}

module _ {P : Type 0} (numbers : P → List ℕ) (slot : ℕ) (code : PlainCodeTree) where
  -- among what is kept in memory, inside the root of the code tree
  pub root_none : (root : PlainCodeNode) (result : Option P) → root ≡ root_of code → IfNone result (times_kept slot root.inner ≡ 0)
      → IfNone result (times_kept slot code.items ≡ 0)
  root_none root None is none = sym (ap (λ (n : PlainCodeNode). times_kept slot n.inner) is) ∙ none
  root_none root (Some path) is none = tt

  pub root_way : (root : PlainCodeNode) (result : Option P) → root ≡ root_of code
      → IfSome result (λ path. LeadsToChange true slot (numbers path) root Forest.nil)
      → IfSome result (λ path. LeadsToChange true slot (numbers path) (root_of code) Forest.nil)
  root_way root None is leads = tt
  root_way root (Some path) is leads = subst (λ (n : PlainCodeNode). LeadsToChange true slot (numbers path) n Forest.nil) is leads

module _ {P : Type 0} (numbers : P → List ℕ) (what : What) (slot : ℕ) (code : PlainCodeTree) (after : Forest) where
  -- an item that was dropped
  pub kept_none : (result : Option P) → is_dropped what ≡ true → IfNone result (times_kept slot code.items ≡ 0)
      → IfNone result (times_sought (is_dropped what) slot code.items after ≡ 0)
  kept_none None dropped none = ap (λ (b : Bool). times_sought b slot code.items after) dropped ∙ none
  kept_none (Some path) dropped none = tt

  pub kept_way : (result : Option P) → is_dropped what ≡ true
      → IfSome result (λ path. LeadsToChange true slot (numbers path) (root_of code) Forest.nil)
      → IfSome result (λ path. LeadsToChange (is_dropped what) slot (numbers path) (root_of code) after)
  kept_way None dropped leads = tt
  kept_way (Some path) dropped leads =
      subst (λ (b : Bool). LeadsToChange b slot (numbers path) (root_of code) after) (sym dropped)
      (leads_kept slot (numbers path) (root_of code) Forest.nil after leads)

  -- all else
  pub tree_none : (result : Option P) → is_dropped what ≡ false → IsNone result ↔ (times slot after ≡ 0)
      → IfNone result (times_sought (is_dropped what) slot code.items after ≡ 0)
  tree_none None other none = ap (λ (b : Bool). times_sought b slot code.items after) other ∙ none.0 refl
  tree_none (Some path) other none = tt

  pub tree_way : (result : Option P) → is_dropped what ≡ false → IfSome result (λ path. slot_at after (numbers path) ≡ Some slot)
      → IfSome result (λ path. LeadsToChange (is_dropped what) slot (numbers path) (root_of code) after)
  tree_way None other leads = tt
  tree_way (Some path) other leads = subst (λ (b : Bool). LeadsToChange b slot (numbers path) (root_of code) after) (sym other) leads
