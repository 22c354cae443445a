-- One item noted among those of a procedure: the items under its slot come to be these, and others stay.
use Rattle.std.proofs.Common.{◌≡◌, ℕ, Bool, false, List, [], Option, Some, ap, sym, ◌∙◌}
use Rattle.std.specs.Prelude.{bytes_eq, cond, if◌then◌else◌, nat_eq, unwrap_or}
use Rattle.std.specs.FinMap.{from_entries, get, get-insert, insert}
use Rattle.std.specs.Map.{lookup}
use Rattle.std.proofs.lemmas.Cmp.{nat_cmp_total, nat_eq_equiv}
use Rattle.plcs_base.specs.PlaceOrder.{nat_ties}
use Rattle.plcs_base.specs.Scope.{ItemMap}
use Rattle.plcs_base.specs.declared.declared.Declared.{Declared}
use Rattle.template_tree.specs.Checks.Environment.{item_named}
use Rattle.template_tree.specs.Checks.ProgramMaps.{items_in}
use Rattle.decl_table.proofs.KnownStart.{list_found}
use Rattle.decl_table.proofs.TableMaps.{found}

-- what the map finds under a slot, by its entries
pub items_found : (entries : List (ℕ × List Declared)) (slot : ℕ) (there : Option (List Declared)) → there ≡ lookup (nat_eq slot) entries
    → unwrap_or there [] ≡ items_in (let m : ItemMap = from_entries entries in m) slot
items_found entries slot there is =
    ap (λ (o : Option (List Declared)). unwrap_or o []) (is ∙ sym (found entries slot))

module _ (items new : ItemMap) (procedure : ℕ) (after : List Declared) (is : new ≡ insert items procedure after) where
  pub noted_item : (item put : Declared) (before : List Declared) → put ≡ item → before ≡ items_in items procedure
      → ((other : List ℕ) → item_named other after ≡ (if bytes_eq item.name other then Some put else item_named other before))
      → (name : List ℕ)
      → item_named name (items_in new procedure)
      ≡ (if bytes_eq item.name name then Some item else item_named name (items_in items procedure))
  noted_item item put before same was named name =
      ap (item_named name) (list_found items new procedure after is)
      ∙ named name
      ∙ ap
      (λ (d : Declared).
      let o : Option Declared = if bytes_eq item.name name then Some d else item_named name before in o)
      same
      ∙ ap
      (λ (l : List Declared).
      let o : Option Declared = if bytes_eq item.name name then Some item else item_named name l in o)
      was

  pub noted_others : (slot : ℕ) → nat_eq procedure slot ≡ false → get new slot ≡ get items slot
  noted_others slot apart =
      ap (λ (m : ItemMap). get m slot) is
      ∙ get-insert nat_cmp_total items procedure after slot
      ∙ ap (λ (b : Bool). cond b (Some after) (get items slot))
      (sym (nat_ties slot procedure) ∙ nat_eq_equiv.symm slot procedure ∙ apart)
