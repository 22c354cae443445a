-- Where a variable is found finally there is a cell that is no reference, and so at an argument by reference.
-- A cell that is found is no reference itself, or it refers to one in a lower frame that is none.
use Rattle.std.specs.Prelude.{◌≡◌, refl, ℕ, ℤ, ◌<◌, ◌≤◌, List, ◌∷◌, length, slice_get, Option, Some, None, option_and_then, option_map}
use Rattle.std.specs.List.{AllByRecursion}
use Rattle.std.proofs.Common.{arith}
use Rattle.plcs_base.specs.declared.value.Kind.{Kind}
use Rattle.plcs_grammar.specs.PlainPhrase.{PlainExpr, PlainExprs}
use Rattle.template_tree.specs.Checks.Environment.{kind_of_type}
use Rattle.plcs_store.specs.declared.argument.Argument.{Argument}
use Rattle.plcs_store.specs.declared.cell.Cell.{Cell}
use Rattle.plcs_store.specs.declared.cell.Location.{Location}
use Rattle.plcs_store.specs.declared.frame.Frame.{Frame}
use Rattle.plcs_store.specs.declared.variable.Variable.{Variable}
use Rattle.plcs_store.specs.CellAt.{element_of, final_location, located, newest, own_location, stands_for, variable_at}
use Rattle.plcs_store.specs.ExpressionValue.{argument_value, argument_values, expression_value, name_of_reference, reference_location, subscript_value}
use Rattle.plcs_store.specs.Fits.{HoldsRight, IsTarget, ValuesFit}
use Rattle.plcs_store.specs.Outcome.{Outcome, if_there, then_gives}
use Rattle.plcs_store.proofs.KeptFit.Outcomes.{Makes, WhenThere, makes_follow, makes_then, makes_there}

-- the location is that of a cell of the frames that is no reference
abbrev pub IsFinal : List Frame → Location → Type 0
IsFinal frames location = (location.frame < length frames) × ((kind : Kind) × IsTarget frames kind location)

-- an argument by reference is at such a location
abbrev pub IsFinalArgument : List Frame → Argument → Type 0
IsFinalArgument frames (Argument.Reference location) = IsFinal frames location
IsFinalArgument frames (Argument.Dummy value) = Unit {0}

-- for what a cell stands is no reference
cell_final : (frames : List Frame) (own : Location) (variable : Variable) (cell : Cell) → own.frame < length frames
    → variable_at frames own.frame own.name ≡ Some variable → slice_get variable.cells own.element ≡ Some cell
    → HoldsRight frames own.frame (kind_of_type variable.ty) cell → IsFinal frames (stands_for own cell)
cell_final frames own variable Cell.Unset within there held right = (
  within,
  (kind_of_type variable.ty, record { variable = variable; there = there; kind_is = refl; cell = Cell.Unset; cell_there = held; plain = tt }),
)
cell_final frames own variable (Cell.Held value) within there held right = (
  within,
  (kind_of_type variable.ty, record { variable = variable; there = there; kind_is = refl; cell = Cell.Held value; cell_there = held; plain = tt }),
)
cell_final frames own variable (Cell.Ref location) within there held right =
    let lower = right.0 in
    (omega (arith, lower, within), (kind_of_type variable.ty, right.1))

final_there : (frames : List Frame) (own : Location) → own.frame < length frames → ValuesFit frames
    → WhenThere (IsFinal frames) (final_location frames own)
final_there frames own within fit = by (variable_at frames own.frame own.name) refl
  where
    at_cell : (variable : Variable) → variable_at frames own.frame own.name ≡ Some variable → (got : Option Cell)
        → slice_get variable.cells own.element ≡ got → WhenThere (IsFinal frames) (option_map (stands_for own) got)
    at_cell variable there None held = tt
    at_cell variable there (Some cell) held =
        cell_final frames own variable cell within there held (fit own.frame own.element own.name variable cell there held)

    by : (got : Option Variable) → variable_at frames own.frame own.name ≡ got
        → WhenThere (IsFinal frames) (option_map (stands_for own) (option_and_then (λ variable. slice_get variable.cells own.element) got))
    by None there = tt
    by (Some variable) there = at_cell variable there (slice_get variable.cells own.element) refl

located_final : (frames : List Frame) (name : List ℕ) (subscript : Option ℤ) → 1 ≤ length frames → ValuesFit frames
    → Makes (IsFinal frames) (located frames name subscript)
located_final frames name subscript some fit =
    makes_then (IsFinal frames)
    (λ variable.
    then_gives (element_of variable subscript) (λ element. if_there (final_location frames (own_location frames name element))))
    (if_there (variable_at frames (newest frames) name))
    (λ variable.
    makes_then (IsFinal frames) (λ element. if_there (final_location frames (own_location frames name element))) (element_of variable subscript)
    (λ element.
    makes_there (IsFinal frames) (final_location frames (own_location frames name element))
    (final_there frames (own_location frames name element) (omega (arith, some)) fit)))

argument_final : (frames : List Frame) (argument : PlainExpr) → 1 ≤ length frames → ValuesFit frames
    → Makes (IsFinalArgument frames) (argument_value frames argument)
argument_final frames (PlainExpr.variable reference) some fit =
    makes_follow (IsFinal frames) (IsFinalArgument frames) (λ location. Outcome.gives (Argument.Reference location)) (reference_location frames reference)
    (makes_then (IsFinal frames) (located frames (name_of_reference reference)) (subscript_value frames reference)
    (λ subscript. located_final frames (name_of_reference reference) subscript some fit))
    (λ location final. final)
argument_final frames other some fit =
    makes_then (IsFinalArgument frames) (λ value. Outcome.gives (Argument.Dummy value)) (expression_value frames other) (λ value. tt)

pub arguments_final : (frames : List Frame) (arguments : PlainExprs) → 1 ≤ length frames → ValuesFit frames
    → Makes (AllByRecursion (IsFinalArgument frames)) (argument_values frames arguments)
arguments_final frames PlainExprs.nil some fit = tt
arguments_final frames (PlainExprs.cons argument rest) some fit =
    makes_follow (IsFinalArgument frames) (AllByRecursion (IsFinalArgument frames))
    (λ value. then_gives (argument_values frames rest) (λ values. Outcome.gives (value ∷ values))) (argument_value frames argument)
    (argument_final frames argument some fit)
    (λ value is.
    makes_follow (AllByRecursion (IsFinalArgument frames)) (AllByRecursion (IsFinalArgument frames)) (λ values. Outcome.gives (value ∷ values))
    (argument_values frames rest) (arguments_final frames rest some fit) (λ values are. (is, are)))
