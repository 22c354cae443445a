-- The item of a number that a procedure has after an edit, by what becomes of the items of one procedure.
use Rattle.std.proofs.Common.{◌≡◌, ℕ, List, Option, None, ap, sym, ◌∙◌}
use Rattle.plcs_base.specs.Scope.{ItemMap, item_at}
use Rattle.plcs_base.specs.declared.declared.Declared.{Declared}
use Rattle.plcs_base.specs.declared.place.Slot.{Slot}
use Rattle.template_tree.specs.Checks.ProgramMaps.{items_in}
use Rattle.decl_table.specs.DeclEdit.{items_changed}
use Rattle.decl_table.specs.Private.ItemChangeView.{plain_item_change}
use Rattle.decl_table.specs.declared.decl_edit.ItemChange.{ItemChange}
use Rattle.decl_table.proofs.TableMaps.{item_gone, item_left, item_listed, item_other, item_set}

module _ (changed : Option (ℕ × Option (List Declared))) (change : ItemChange) (table : ItemMap) (are : plain_item_change change table ≡ changed)
    (procedure k : ℕ) (items : ItemMap) where
  told : (other : ItemChange) → change ≡ other
      → item_at (items_changed changed items) procedure k ≡ item_at (items_changed (plain_item_change other table) items) procedure k
  told other is =
      ap (λ (c : Option (ℕ × Option (List Declared))). item_at (items_changed c items) procedure k) (sym are)
      ∙ ap (λ (i : ItemChange). item_at (items_changed (plain_item_change i table) items) procedure k) is

  -- all stay
  pub all_stay : change ≡ ItemChange.Stay → item_at (items_changed changed items) procedure k ≡ item_at items procedure k
  all_stay is = told ItemChange.Stay is

  -- those of another one change
  pub set_elsewhere : (slot : Slot) → change ≡ ItemChange.Set slot → (slot.0 ≡ procedure → ⊥)
      → item_at (items_changed changed items) procedure k ≡ item_at items procedure k
  set_elsewhere slot is apart = told (ItemChange.Set slot) is ∙ item_other items slot.0 procedure k (items_in table slot.0) apart

  pub gone_elsewhere : (slot : Slot) → change ≡ ItemChange.Gone slot → (slot.0 ≡ procedure → ⊥)
      → item_at (items_changed changed items) procedure k ≡ item_at items procedure k
  gone_elsewhere slot is apart = told (ItemChange.Gone slot) is ∙ item_left items slot.0 procedure k apart

  -- its own do
  pub set_own : (slot : Slot) → change ≡ ItemChange.Set slot → slot.0 ≡ procedure
      → item_at (items_changed changed items) procedure k ≡ item_at table procedure k
  set_own slot is own =
      told (ItemChange.Set slot) is
      ∙ item_set items slot.0 procedure k (items_in table slot.0) own
      ∙ sym (item_listed table slot.0 procedure k own)

  pub gone_own : (slot : Slot) → change ≡ ItemChange.Gone slot → slot.0 ≡ procedure
      → item_at (items_changed changed items) procedure k ≡ None
  gone_own slot is own = told (ItemChange.Gone slot) is ∙ item_gone items slot.0 procedure k own
