-- Lists that are copied one item after the other.
use Rattle.std.specs.Prelude.{◌≡◌, refl, ℕ, ◌+◌, ◌<◌, List, [], ◌∷◌, ◌++◌, length, map, take, drop, slice_get, Option, Some, None, option_and_then, unwrap_or}
use Rattle.std.specs.FinMap.{get}
use Rattle.std.proofs.Common.{ap, sym, ◌∙◌, append_assoc, get_or}
use Rattle.std.proofs.lemmas.List.{append-nil, map-append, take_more}
use Rattle.plcs_base.specs.ListLeft.{left_from, none_left}
use Rattle.plcs_base.specs.Scope.{ItemMap, item_at}
use Rattle.plcs_base.specs.declared.declared.Declared.{Declared}
use Rattle.template_tree.specs.Checks.ProgramMaps.{items_in}

-- one more item is copied of those in order
pub copied_more : {A B : Type 0} (f : A → B) (items : List A) (k : ℕ) (item : A) → k < length items → item ≡ get_or items k item
    → map f (take (k + 1) items) ≡ map f (take k items) ++ f item ∷ []
copied_more f items k item inside is =
    ap (map f) (take_more items k item inside ∙ ap (λ y. take k items ++ (y ∷ [])) (sym is)) ∙ map-append f (take k items) (item ∷ [])

-- one more item is copied of those that are left
pub left_less : {A : Type 0} (copied items : List A) (k : ℕ) (item : A) → slice_get items k ≡ Some item → copied ++ drop k items ≡ items
    → (copied ++ item ∷ []) ++ drop (k + 1) items ≡ items
left_less {A} copied items k item there left =
    append_assoc copied (item ∷ []) (drop (k + 1) items)
    ∙ ap (λ (rest : List A). copied ++ rest) (sym (left_from items k item there))
    ∙ left

-- none is left
pub left_none : {A : Type 0} (copied items : List A) (k : ℕ) → slice_get items k ≡ None → copied ++ drop k items ≡ items → copied ≡ items
left_none {A} copied items k none left =
    sym (append-nil copied) ∙ ap (λ (rest : List A). copied ++ rest) (sym (none_left items k none)) ∙ left

-- the item of a number is that of the list of all
pub item_listed : (map : ItemMap) (slot k : ℕ) → item_at map slot k ≡ slice_get (items_in map slot) k
item_listed map slot k = by (get map slot)
  where
    by : (items : Option (List Declared)) → option_and_then (λ items. slice_get items k) items ≡ slice_get (unwrap_or items []) k
    by None = refl
    by (Some items) = refl
