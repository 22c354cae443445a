-- What a test of slots covers, if it holds of all that an edit touched: what proofs about its bill ask of that.
use Rattle.std.specs.Prelude.{◌≡◌, ◌≢◌, ℕ, ◌≤◌, Bool, true, ◌||◌}
use Rattle.std.specs.FinMap.{get}
use Rattle.template_tree.specs.declared.change.Change.{Change}
use Rattle.template_tree.specs.declared.change.What.{What}
use Rattle.template_tree.specs.Checks.Marks.{Marks}
use Rattle.template_tree.specs.Checks.Mention.{phrase_at}
use Rattle.template_tree.specs.Programs.PlainTree.{Forest}
use Rattle.template_tree.specs.Programs.Slots.{times}
use Rattle.code_patch.specs.Bill.{is_declaration_at, times_inside}

-- the test holds of each slot that the edit of a program touched: the slot of the change, each that it drew or brought
-- back, each inside a node that it put, each with a phrase whose mark it changed, and the procedure of a declaration
-- that it changed
pub record CoversTouched (before after : Forest) (change : Change) (covers : ℕ → Bool) : Type 0 where
  pub changed : covers change.slot.0 ≡ true
  pub drawn : (slot : ℕ) → times slot before ≡ 0 → 1 ≤ times slot after → covers slot ≡ true
  pub put :
      change.what ≡ What.Node → (slot : ℕ) → 1 ≤ times_inside after change.slot.0 slot → covers slot ≡ true
  pub marked :
      (slot part : ℕ) → get (Marks before) (phrase_at slot part) ≢ get (Marks after) (phrase_at slot part)
      → covers slot ≡ true
  pub procedure :
      (is_declaration_at before change.slot.0 || is_declaration_at after change.slot.0) ≡ true
      → covers change.procedure.0 ≡ true
