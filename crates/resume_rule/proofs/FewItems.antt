-- The items of a procedure: those that a map has, and that there are no more of them than a frame may have cells, since
-- each has a cell.
use Rattle.std.specs.Prelude.{◌≡◌, refl, ℕ, zero, suc, ◌≤◌, ◌==◌, Bool, true, false, if◌then◌else◌, List, [], ◌∷◌, length, Option, Some, None, option_and_then, option_map, slice_get, unwrap_or}
use Rattle.std.proofs.Common.{◌+◌, ◌∙◌, arith, sym}
use Rattle.std.proofs.Math.Bool.{false≢true}
use Rattle.std.proofs.lemmas.Bool.{eq-eqb}
use Rattle.std.proofs.lemmas.List.Sums.{sum_by-cons}
use Rattle.plcs_base.specs.declared.declared.Declared.{Declared}
use Rattle.template_tree.specs.Checks.Environment.{Items, cells, cells_in, cells_of, items_inside, procedure_at}
use Rattle.template_tree.specs.Programs.Limit.{most_cells}
use Rattle.template_tree.specs.Programs.PlainTree.{Forest, PlainNode}
use Rattle.plcs_store.specs.NewFrame.{ItemsKeepLimits}

some_by : (size : ℕ) (scalar : Bool) → (size == 0) ≡ scalar → 1 ≤ (if scalar then 1 else size)
some_by size true is = let one : 1 ≤ 1 = omega arith in one
some_by zero false is = absurd (false≢true (sym is ∙ eq-eqb zero 0 refl))
some_by (suc size) false is = let one : 1 ≤ suc size = omega arith in one

some_cell : (size : ℕ) → 1 ≤ cells_in size
some_cell size = some_by size (size == 0) refl

more_cells : (items : List Declared) → length items ≤ cells items
more_cells [] = omega arith
more_cells (item ∷ items) =
    let first : cells (item ∷ items) ≡ cells_of item + cells items = sum_by-cons cells_of item items in
    let own : 1 ≤ cells_of item = some_cell item.size in
    omega (arith, first, own, more_cells items)

pub few_items : (limits : ItemsKeepLimits) (program : Forest) (slot : ℕ) → length (Items program slot) ≤ most_cells
few_items limits program slot = by (procedure_at program slot)
  where
    by : (found : Option PlainNode) → length (unwrap_or (option_map (λ (node : PlainNode). items_inside node.inner) found) []) ≤ most_cells
    by None = omega arith
    by (Some node) = omega (arith, more_cells (items_inside node.inner), (limits node.inner).few)

-- an item that the map has of a procedure is one of the list that it has
pub item_told : (found : Option (List Declared)) (k : ℕ)
    → option_and_then (λ (items : List Declared). slice_get items k) found ≡ slice_get (unwrap_or found []) k
item_told None k = refl
item_told (Some items) k = refl
