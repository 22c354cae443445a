-- The cell on which an instruction works is there, if it is defined.
use Rattle.std.specs.Prelude.{◌≡◌, refl, ℕ, ℤ, Bool, true, false, not, ◌&&◌, nat_lt, if◌then◌else◌, List, Option, Some, None, IsSome, is_some, option_and_then}
use Rattle.std.specs.Option.{option_map_or}
use Rattle.std.proofs.Common.{ap}
use Rattle.std.proofs.Math.Bool.{false≢true}
use Rattle.plcs_store.specs.declared.cell.Cell.{Cell}
use Rattle.plcs_store.specs.declared.cell.Location.{Location}
use Rattle.plcs_store.specs.declared.frame.Frame.{Frame}
use Rattle.plcs_store.specs.declared.variable.Variable.{Variable}
use Rattle.plcs_store.specs.CellAt.{cell_at, element_of, newest, own_location, variable_at}
use Rattle.plcs_store.specs.Outcome.{Outcome, if_there, then_gives}
use Rattle.plcs_machine.specs.Reached.{followed, followed_at, is_reference, may_follow, reached}

module _ (frames : List Frame) where
  -- what is reached is a cell
  abbrev pub Reaches : Outcome Location → Type 0
  Reaches (Outcome.gives location) = IsSome (cell_at frames location)
  Reaches (Outcome.stops reason) = Unit {0}
  Reaches Outcome.undefined = Unit {0}

  both_true : (a b : Bool) → a && b ≡ true → b ≡ true
  both_true true b both = both
  both_true false b both = absurd (false≢true both)

  there_if : (test : Cell → Bool) (found : Option Cell) → option_map_or test found false ≡ true → IsSome found
  there_if test None is = absurd (false≢true is)
  there_if test (Some cell) is = refl

  follow_reaches : (location : Location) (may : Bool) → may_follow frames location ≡ may → Reaches (if_there (if may then Some location else None))
  follow_reaches location true is =
      there_if (λ cell. not (is_reference cell)) (cell_at frames location)
      (both_true (nat_lt location.frame (newest frames)) (option_map_or (λ cell. not (is_reference cell)) (cell_at frames location) false) is)
  follow_reaches location false is = tt

  cell_reaches : (own : Location) (cell : Option Cell) → cell_at frames own ≡ cell → Reaches (if_there (option_and_then (followed frames own) cell))
  cell_reaches own None is = tt
  cell_reaches own (Some Cell.Unset) is = ap (λ (o : Option Cell). is_some o) is
  cell_reaches own (Some (Cell.Held value)) is = ap (λ (o : Option Cell). is_some o) is
  cell_reaches own (Some (Cell.Ref location)) is = follow_reaches location (may_follow frames location) refl

  element_reaches : (name : List ℕ) (element : Outcome ℕ)
      → Reaches (then_gives element (λ one. if_there (followed_at frames (own_location frames name one))))
  element_reaches name (Outcome.gives one) =
      cell_reaches (own_location frames name one) (cell_at frames (own_location frames name one)) refl
  element_reaches name (Outcome.stops reason) = tt
  element_reaches name Outcome.undefined = tt

  variable_reaches : (name : List ℕ) (subscript : Option ℤ) (variable : Option Variable)
      → Reaches (then_gives (if_there variable) (λ found. then_gives (element_of found subscript) (λ one. if_there (followed_at frames (own_location frames name one)))))
  variable_reaches name subscript None = tt
  variable_reaches name subscript (Some found) = element_reaches name (element_of found subscript)

  pub reached_there : (name : List ℕ) (subscript : Option ℤ) → Reaches (reached frames name subscript)
  reached_there name subscript = variable_reaches name subscript (variable_at frames (newest frames) name)
