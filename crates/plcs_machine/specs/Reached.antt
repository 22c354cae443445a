-- On which cell an instruction works.
use Rattle.std.specs.Prelude.{ℕ, ℤ, Bool, true, false, not, ◌&&◌, nat_lt, if◌then◌else◌, List, Option, Some, None, option_and_then}
use Rattle.std.specs.Option.{option_map_or}
use Rattle.plcs_store.specs.declared.cell.Cell.{Cell}
use Rattle.plcs_store.specs.declared.cell.Location.{Location}
use Rattle.plcs_store.specs.declared.frame.Frame.{Frame}
use Rattle.plcs_store.specs.CellAt.{cell_at, element_of, newest, own_location, variable_at}
use Rattle.plcs_store.specs.Outcome.{Outcome, if_there, then_gives}

-- whether a cell on which an instruction is to work stands for another
abbrev pub is_reference : Cell → Bool
is_reference Cell.Unset = false
is_reference (Cell.Held value) = false
is_reference (Cell.Ref location) = true

-- whether the cell there is one on which an instruction works by a reference in the newest frame: it is in a lower
-- frame, and is no reference
abbrev pub may_follow : List Frame → Location → Bool
may_follow frames location =
    nat_lt location.frame (newest frames)
    && option_map_or (λ cell. not (is_reference cell)) (cell_at frames location) false

-- on which cell an instruction works by a cell of the newest frame: on that itself, or on the one that it refers to, if
-- that may be followed
abbrev pub followed : List Frame → (own : Location) → Cell → Option Location
followed frames own Cell.Unset = Some own
followed frames own (Cell.Held value) = Some own
followed frames own (Cell.Ref location) = if may_follow frames location then Some location else None

-- on which cell an instruction works by the cell at a location in the newest frame, if there is that cell
abbrev pub followed_at : List Frame → (own : Location) → Option Location
followed_at frames own = option_and_then (followed frames own) (cell_at frames own)

-- on which cell an instruction works that names a variable of the newest frame, with this subscript or none: there is
-- such a cell, and it is no reference
abbrev pub reached : List Frame → (name : List ℕ) → (subscript : Option ℤ) → Outcome Location
reached frames name subscript =
    then_gives (if_there (variable_at frames (newest frames) name)) (λ variable.
    then_gives (element_of variable subscript) (λ element.
    if_there (followed_at frames (own_location frames name element))))
