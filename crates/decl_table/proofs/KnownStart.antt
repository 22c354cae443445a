-- Before anything is gathered: by what the edit makes of the table before it, that table and the changes of headings tell what
-- the edited program has, and a table with the items of the procedure alone says nothing that isn't so.
use Rattle.std.specs.Prelude.{◌≡◌, refl, ℕ, Bool, true, false, bytes_eq, cond, nat_eq, List, [], Option, Some, None, option_map, unwrap_or}
use Rattle.std.specs.FinMap.{empty, get-empty, insert}
use Rattle.std.specs.Map.{lookup}
use Rattle.std.specs.Ordering.{nat_cmp}
use Rattle.std.proofs.Common.{◌⊎◌, inl, inr, ap, sym, subst, ◌∙◌, eq-eqb, eqb-true, true≢false}
use Rattle.plcs_base.specs.Scope.{ItemMap}
use Rattle.plcs_base.specs.declared.declared.Declared.{Declared}
use Rattle.template_tree.specs.Checks.Environment.{Items, Sig, Signature, item_named}
use Rattle.template_tree.specs.Checks.ProgramMaps.{ScopeTells, items_in}
use Rattle.template_tree.specs.Programs.PlainTree.{Forest}
use Rattle.decl_table.specs.DeclEdit.{changed_or, items_changed}
use Rattle.decl_table.specs.PlainDecls.{PlainDecls, slot_of}
use Rattle.decl_table.specs.Private.ItemChangeView.{plain_item_change}
use Rattle.decl_table.specs.Private.KnownTable.{IsGathering, IsSource, KnowsItem, is_changed, items_only}
use Rattle.decl_table.specs.declared.decl_edit.ItemChange.{ItemChange}
use Rattle.decl_table.proofs.EditedItems.{found_insert, in_insert, in_remove}

turned : (one other : ℕ) (b : Bool) → nat_eq one other ≡ b → nat_eq other one ≡ b
turned one other true e = eq-eqb other one (sym (eqb-true one other e))
turned one other false e = by (nat_eq other one) refl
  where
    by : (b : Bool) → nat_eq other one ≡ b → nat_eq other one ≡ false
    by true f = absurd (true≢false (sym (eq-eqb one other (sym (eqb-true other one f))) ∙ e))
    by false f = f

pub nothing_in : (slot : ℕ) → items_in empty slot ≡ []
nothing_in slot = ap (λ (o : Option (List Declared)). unwrap_or o []) (get-empty nat_cmp slot)

-- ---- the items that are taken at first

-- the list that was put under a slot is what stands there
pub list_found : (items new : ItemMap) (own : ℕ) (list : List Declared) → new ≡ insert items own list → items_in new own ≡ list
list_found items new own list is = ap (λ (o : Option (List Declared)). unwrap_or o []) (found_insert items new own list is)

-- where there were none, it is all
pub only_insert : (items new : ItemMap) (own : ℕ) (list : List Declared) → new ≡ insert items own list → items ≡ empty
    → new ≡ insert empty own (items_in new own)
only_insert items new own list is none =
    is
    ∙ ap (λ (m : ItemMap). insert m own list) none
    ∙ ap (λ (l : List Declared). (let m : ItemMap = insert empty own l in m)) (sym (list_found items new own list is))

-- what becomes of the items of a procedure, by its slot and the items
pub change_is : (own slot : ℕ) (list items : List Declared) → own ≡ slot → list ≡ items
    → (let o : Option (ℕ × Option (List Declared)) = Some (own, Some list) in o) ≡ Some (slot, Some items)
change_is own slot list items same alike =
    ap (λ (n : ℕ). (let o : Option (ℕ × Option (List Declared)) = Some (n, Some list) in o)) same
    ∙ ap (λ (l : List Declared). (let o : Option (ℕ × Option (List Declared)) = Some (slot, Some l) in o)) alike

module _ (decls table : PlainDecls) (headings : List (List ℕ × Option ℕ)) (items : ItemChange) (program : Forest)
    (tells : ScopeTells (items_changed (plain_item_change items table.items) decls.items) program) where
  -- elsewhere the items are those before the edit
  stays : (change : ItemChange) → change ≡ items → (slot : ℕ) → is_changed change slot ≡ false → items_in decls.items slot ≡ Items program slot
  stays ItemChange.Stay is slot apart =
      subst (λ (i : ItemChange). items_in (items_changed (plain_item_change i table.items) decls.items) slot ≡ Items program slot) (sym is) (tells slot)
  stays (ItemChange.Set own) is slot apart =
      let told =
      subst (λ (i : ItemChange). items_in (items_changed (plain_item_change i table.items) decls.items) slot ≡ Items program slot) (sym is) (tells slot) in
      sym
      (in_insert decls.items own.0 (items_in table.items own.0) slot
      ∙ ap (λ (b : Bool). cond b (items_in table.items own.0) (items_in decls.items slot)) (turned own.0 slot false apart))
      ∙ told
  stays (ItemChange.Gone own) is slot apart =
      let told =
      subst (λ (i : ItemChange). items_in (items_changed (plain_item_change i table.items) decls.items) slot ≡ Items program slot) (sym is) (tells slot) in
      sym
      (in_remove decls.items own.0 slot
      ∙ ap (λ (b : Bool). cond b [] (items_in decls.items slot)) (turned own.0 slot false apart))
      ∙ told

  pub source_of : ((name : List ℕ) → changed_or (lookup (bytes_eq name) headings) (slot_of name decls.headings)
      ≡ option_map (λ (s : Signature). s.slot) (Sig program name))
      → IsSource decls headings items program
  source_of headed =
      record { items_stay = λ slot apart name. ap (item_named name) (stays items refl slot apart); headings_are = headed }

  -- what the table has of the procedure whose items change, if it is there yet, is what the program has
  own_told : (change : ItemChange) → change ≡ items → table.items ≡ items_only (plain_item_change change table.items)
      → (slot : ℕ) → is_changed change slot ≡ true → items_in table.items slot ≡ Items program slot
  own_told ItemChange.Stay is only slot here = absurd (true≢false (sym here))
  own_told (ItemChange.Set own) is only slot here =
      let told =
      subst (λ (i : ItemChange). items_in (items_changed (plain_item_change i table.items) decls.items) slot ≡ Items program slot) (sym is) (tells slot) in
      ap (items_in table.items) (sym (eqb-true own.0 slot here))
      ∙ sym
      (in_insert decls.items own.0 (items_in table.items own.0) slot
      ∙ ap (λ (b : Bool). cond b (items_in table.items own.0) (items_in decls.items slot)) (turned own.0 slot true here))
      ∙ told
  own_told (ItemChange.Gone own) is only slot here =
      let told =
      subst (λ (i : ItemChange). items_in (items_changed (plain_item_change i table.items) decls.items) slot ≡ Items program slot) (sym is) (tells slot) in
      ap (λ (m : ItemMap). items_in m slot) only
      ∙ nothing_in slot
      ∙ sym
      (in_remove decls.items own.0 slot
      ∙ ap (λ (b : Bool). cond b [] (items_in decls.items slot)) (turned own.0 slot true here))
      ∙ told

  -- and of others it has none
  others_none : (change : ItemChange) → change ≡ items → table.items ≡ items_only (plain_item_change change table.items)
      → (slot : ℕ) → is_changed change slot ≡ false → items_in table.items slot ≡ []
  others_none ItemChange.Stay is only slot apart = ap (λ (m : ItemMap). items_in m slot) only ∙ nothing_in slot
  others_none (ItemChange.Set own) is only slot apart =
      ap (λ (m : ItemMap). items_in m slot) only
      ∙ in_insert empty own.0 (items_in table.items own.0) slot
      ∙ ap (λ (b : Bool). cond b (items_in table.items own.0) (items_in empty slot)) (turned own.0 slot false apart)
      ∙ nothing_in slot
  others_none (ItemChange.Gone own) is only slot apart = ap (λ (m : ItemMap). items_in m slot) only ∙ nothing_in slot

  pub gathering_of : table.items ≡ items_only (plain_item_change items table.items) → table.headings ≡ [] → IsGathering items program table
  gathering_of only bare =
      record {
        says =
            record {
              items = λ slot name. by slot name (is_changed items slot) refl;
              headings = λ name. inl (ap (slot_of name) bare);
            };
        own = λ slot here name. ap (item_named name) (own_told items refl only slot here);
      }
    where
      by : (slot : ℕ) (name : List ℕ) (b : Bool) → is_changed items slot ≡ b
          → (item_named name (items_in table.items slot) ≡ None) ⊎ KnowsItem table program slot name
      by slot name true here = inr (ap (item_named name) (own_told items refl only slot here))
      by slot name false apart = inl (ap (item_named name) (others_none items refl only slot apart))
