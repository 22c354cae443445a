-- An item is another one among others where another type or size is kept of its name, or none.
use Rattle.std.proofs.Common.{◌≡◌, ℕ, Bool, true, false, List, Option, Some, None, refl, ap, sym, ◌∙◌}
use Rattle.std.specs.Prelude.{◌==◌, ◌&&◌, bytes_eq, if◌then◌else◌, not, option_and_then, option_map, slice_get}
use Rattle.std.specs.Map.{lookup}
use Rattle.std.proofs.lemmas.Option.{slice_get-map}
use Rattle.plcs_base.specs.declared.declared.Declared.{Declared}
use Rattle.decl_table.specs.Private.ItemTests.{item_differs, lost_at, same_item, same_shapes, same_types}
use Rattle.decl_table.specs.Private.ItemsView.{items_of, shaped}
use Rattle.decl_table.specs.declared.items.Shape.{Shape}
use Rattle.decl_table.proofs.AffectedHeadings.{itself}
use Rattle.decl_table.proofs.ItemLists.{named}

same_shaped : (name : List ℕ) (one other : Option Shape)
    → same_item (option_map (shaped name) one) (option_map (shaped name) other) ≡ same_shapes one other
same_shaped name None None = refl
same_shaped name None (Some other) = refl
same_shaped name (Some one) None = refl
same_shaped name (Some one) (Some other) =
    ap (λ (b : Bool). b && (same_types one.ty other.ty && one.size == other.size)) (itself name)

-- whether the item of the name is another one
differs_told : (name : List ℕ) (entries others : List (List ℕ × Shape)) (one other : Option Shape) (same : Bool)
    → one ≡ lookup (bytes_eq name) entries → other ≡ lookup (bytes_eq name) others → same ≡ same_shapes one other
    → item_differs (items_of entries) (items_of others) name ≡ not same
differs_told name entries others one other same found there is =
    (λ i. not (same_item (named name entries i) (named name others i)))
    ∙ (λ i. not (same_item (option_map (shaped name) (sym found i)) (option_map (shaped name) (sym there i))))
    ∙ ap not (same_shaped name one other ∙ sym is)

-- the name of an item that is another one, by its number
pub lost_told : (name : List ℕ) (shape : Shape) (entries others : List (List ℕ × Shape)) (k : ℕ) (one other : Option Shape) (same : Bool)
    → Some (name, shape) ≡ slice_get entries k → one ≡ lookup (bytes_eq name) entries → other ≡ lookup (bytes_eq name) others
    → same ≡ same_shapes one other
    → lost_at (items_of entries) (items_of others) k ≡ (if same then None else Some name)
lost_told name shape entries others k one other same at found there is =
    ap
    (option_and_then
    (λ (item : Declared). if item_differs (items_of entries) (items_of others) item.name then Some item.name else None))
    (slice_get-map (λ (entry : List ℕ × Shape). shaped entry.0 entry.1) entries k
    ∙ ap (option_map (λ (entry : List ℕ × Shape). shaped entry.0 entry.1)) (sym at))
    ∙ ap (λ (b : Bool). let o : Option (List ℕ) = if b then Some name else None in o) (differs_told name entries others one other same found there is)
    ∙ turned same
  where
    turned : (b : Bool) → (let o : Option (List ℕ) = if not b then Some name else None in o) ≡ (if b then None else Some name)
    turned true = refl
    turned false = refl
