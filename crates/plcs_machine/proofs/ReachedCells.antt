-- On which cell an instruction works: in what fits a tree, on the one for which the variable finally stands, since a
-- reference is to a cell of a lower frame that is none.
use Rattle.std.specs.Prelude.{◌≡◌, refl, ℕ, ℤ, Bool, true, false, not, ◌&&◌, if◌then◌else◌, List, slice_get, Option, Some, None, option_and_then, option_map}
use Rattle.std.specs.Option.{option_map_or}
use Rattle.std.proofs.Common.{ap, sym, ◌∙◌}
use Rattle.std.proofs.lemmas.Bool.{lt-ltb}
use Rattle.plcs_store.specs.declared.cell.Cell.{Cell}
use Rattle.plcs_store.specs.declared.frame.Frame.{Frame}
use Rattle.plcs_store.specs.declared.variable.Variable.{Variable}
use Rattle.template_tree.specs.Checks.Environment.{kind_of_type}
use Rattle.plcs_store.specs.CellAt.{cell_at, element_of, final_location, located, newest, own_location, stands_for, variable_at}
use Rattle.plcs_store.specs.Fits.{HoldsRight, IsNoReference, ValuesFit}
use Rattle.plcs_store.specs.Outcome.{if_there, then_gives}
use Rattle.plcs_machine.specs.Reached.{followed, followed_at, is_reference, reached}
use Rattle.plcs_machine.proofs.RunExpressions.{then_same}

no_reference : (cell : Cell) → IsNoReference cell → not (is_reference cell) ≡ true
no_reference Cell.Unset is = refl
no_reference (Cell.Held value) is = refl
no_reference (Cell.Ref location) is = absurd is

module _ (frames : List Frame) (fit : ValuesFit frames) where
  -- a cell that holds what is right is followed where it stands for another
  followed_right : (name : List ℕ) (element : ℕ) (variable : Variable) (cell : Cell) → HoldsRight frames (newest frames) (kind_of_type variable.ty) cell
      → followed frames (own_location frames name element) cell ≡ Some (stands_for (own_location frames name element) cell)
  followed_right name element variable Cell.Unset holds = refl
  followed_right name element variable (Cell.Held value) holds = refl
  followed_right name element variable (Cell.Ref location) holds =
      let target = holds.1 in
      let there : cell_at frames location ≡ Some target.cell =
      ap (option_and_then (λ (one : Variable). slice_get one.cells location.element)) target.there ∙ target.cell_there in
      ap (λ (b : Bool). if b then Some location else None)
      (ap (λ (b : Bool). b && option_map_or (λ cell. not (is_reference cell)) (cell_at frames location) false) (lt-ltb location.frame (newest frames) holds.0)
      ∙ (ap (λ (o : Option Cell). option_map_or (λ cell. not (is_reference cell)) o false) there ∙ no_reference target.cell target.plain))

  -- so the location is the same
  same_location : (name : List ℕ) (element : ℕ) (variable : Variable) → variable_at frames (newest frames) name ≡ Some variable
      → followed_at frames (own_location frames name element) ≡ final_location frames (own_location frames name element)
  same_location name element variable there = by (slice_get variable.cells element) refl
    where
      cell_is : cell_at frames (own_location frames name element) ≡ slice_get variable.cells element
      cell_is = ap (option_and_then (λ (one : Variable). slice_get one.cells element)) there

      by : (found : Option Cell) → slice_get variable.cells element ≡ found
          → followed_at frames (own_location frames name element) ≡ final_location frames (own_location frames name element)
      by None e =
          ap (option_and_then (followed frames (own_location frames name element))) (cell_is ∙ e)
          ∙ sym (ap (option_map (stands_for (own_location frames name element))) (cell_is ∙ e))
      by (Some cell) e =
          ap (option_and_then (followed frames (own_location frames name element))) (cell_is ∙ e)
          ∙ (followed_right name element variable cell (fit (newest frames) element name variable cell there e)
          ∙ sym (ap (option_map (stands_for (own_location frames name element))) (cell_is ∙ e)))

  pub same_reached : (name : List ℕ) (subscript : Option ℤ) → reached frames name subscript ≡ located frames name subscript
  same_reached name subscript = by (variable_at frames (newest frames) name) refl
    where
      by : (found : Option Variable) → variable_at frames (newest frames) name ≡ found
          → then_gives (if_there found) (λ variable. then_gives (element_of variable subscript) (λ element. if_there (followed_at frames (own_location frames name element))))
          ≡ then_gives (if_there found) (λ variable. then_gives (element_of variable subscript) (λ element. if_there (final_location frames (own_location frames name element))))
      by None e = refl
      by (Some variable) e =
          then_same (element_of variable subscript) (λ element. if_there (followed_at frames (own_location frames name element)))
          (λ element. if_there (final_location frames (own_location frames name element)))
          (λ element is. ap if_there (same_location name element variable e))
