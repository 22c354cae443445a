-- While it is gathered in a table what has to be known, it keeps the items of the procedure whose items change.
use Rattle.std.proofs.Common.{◌≡◌, ℕ, Bool, true, false, List, [], Option, Some, refl, ap, sym, subst, ◌∙◌, eq-eqb, eqb-true, true≢false}
use Rattle.std.specs.Prelude.{nat_eq, unwrap_or}
use Rattle.std.specs.FinMap.{get}
use Rattle.plcs_base.specs.Scope.{ItemMap}
use Rattle.plcs_base.specs.declared.declared.Declared.{Declared}
use Rattle.decl_table.specs.DeclEdit.{HasItemsOf}
use Rattle.decl_table.specs.PlainDecls.{PlainDecls}
use Rattle.decl_table.specs.Private.ItemChangeView.{plain_item_change}
use Rattle.decl_table.specs.Private.KnownTable.{KeepsOwn, is_changed}
use Rattle.decl_table.specs.declared.decl_edit.ItemChange.{ItemChange}

pub keeps_all : (items : ItemChange) (table : PlainDecls) → KeepsOwn items table table
keeps_all items table = record { stays = λ slot is. refl }

pub keeps_more : (items : ItemChange) (one two three : PlainDecls) → KeepsOwn items one two → KeepsOwn items two three → KeepsOwn items one three
keeps_more items one two three first next = record { stays = λ slot is. next.stays slot is ∙ first.stays slot is }

-- an item is noted of another procedure
pub keeps_elsewhere : (items : ItemChange) (old new : PlainDecls) (procedure : ℕ) → is_changed items procedure ≡ false
    → ((slot : ℕ) → nat_eq procedure slot ≡ false → get new.items slot ≡ get old.items slot) → KeepsOwn items old new
keeps_elsewhere items old new procedure elsewhere others = record { stays = λ slot is. others slot (by slot is (nat_eq procedure slot) refl) }
  where
    by : (slot : ℕ) → is_changed items slot ≡ true → (b : Bool) → nat_eq procedure slot ≡ b → nat_eq procedure slot ≡ false
    by slot is true e = absurd (true≢false (sym is ∙ ap (is_changed items) (sym (eqb-true procedure slot e)) ∙ elsewhere))
    by slot is false e = e

-- a heading is noted
pub keeps_items : (items : ItemChange) (old new : PlainDecls) → new.items ≡ old.items → KeepsOwn items old new
keeps_items items old new same = record { stays = λ slot is. ap (λ (m : ItemMap). get m slot) same }

-- ---- what becomes of the items of a procedure, where the table keeps them

pub change_kept : (items : ItemChange) (old new : PlainDecls) → KeepsOwn items old new
    → plain_item_change items new.items ≡ plain_item_change items old.items
change_kept ItemChange.Stay old new kept = refl
change_kept (ItemChange.Set slot) old new kept =
    ap (λ (o : Option (List Declared)). Some (slot.0, Some (unwrap_or o []))) (kept.stays slot.0 (eq-eqb slot.0 slot.0 refl))
change_kept (ItemChange.Gone slot) old new kept = refl

pub there_still : (items : ItemChange) (old new : PlainDecls) → KeepsOwn items old new
    → HasItemsOf old.items (plain_item_change items old.items) → HasItemsOf new.items (plain_item_change items new.items)
there_still ItemChange.Stay old new kept there = there
there_still (ItemChange.Set slot) old new kept there =
    subst (λ (o : Option (List Declared)). o ≡ Some (unwrap_or o [])) (sym (kept.stays slot.0 (eq-eqb slot.0 slot.0 refl))) there
there_still (ItemChange.Gone slot) old new kept there = there
