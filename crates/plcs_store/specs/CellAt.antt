-- The cells of frames: where they are, what is read from them, what is stored, and which cells a new variable has.
use Rattle.std.specs.Prelude.{◌≡◌, ℕ, ◌-◌, ◌<◌, ℤ, pos, nat_abs, int_le, ◌&&◌, if◌then◌else◌, bytes_eq, List, [], ◌∷◌, length, replicate, take, slice_get, slice_set, Option, Some, None, option_and_then, option_map}
use Rattle.std.specs.Map.{lookup, set_value}
use Rattle.std.specs.Option.{option_map_or}
use Rattle.plcs_base.specs.declared.declared.Declared.{Declared}
use Rattle.plcs_base.specs.declared.declared.ItemType.{ItemType}
use Rattle.plcs_base.specs.declared.value.Value.{Value}
use Rattle.plcs_store.specs.declared.cell.Cell.{Cell}
use Rattle.plcs_store.specs.declared.cell.Location.{Location}
use Rattle.plcs_store.specs.declared.frame.Frame.{Frame}
use Rattle.plcs_store.specs.declared.fault_kind.FaultKind.{FaultKind}
use Rattle.plcs_store.specs.declared.variable.Variable.{Variable}
use Rattle.template_tree.specs.Checks.Environment.{cells_in}
use Rattle.plcs_store.specs.Outcome.{Outcome, faults, if_there, then_gives}

-- ---- where cells are

-- the number of the newest frame, which is the last
abbrev pub newest : List Frame → ℕ
newest frames = length frames - 1

-- where the cells of frames are: in the variables of each, each under its name
abbrev pub Variables : Type 0
Variables = List (List ℕ × Variable)

-- the variable of the name, if there is one
abbrev pub variable_named : List ℕ → Variables → Option Variable
variable_named name variables = lookup (bytes_eq name) variables

-- the variable of the name in the frame of this number, if there is one
abbrev pub variable_at : List Frame → (frame : ℕ) → (name : List ℕ) → Option Variable
variable_at frames frame name = option_and_then (λ one. variable_named name one.cells) (slice_get frames frame)

-- the cell of this number, counted from 0, of the variable of the name, if there is one
abbrev pub element_named : List ℕ → (element : ℕ) → Variables → Option Cell
element_named name element variables =
    option_and_then (λ variable. slice_get variable.cells element) (variable_named name variables)

-- the cell at a location, if there is one
abbrev pub cell_at : List Frame → Location → Option Cell
cell_at frames location =
    option_and_then (λ variable. slice_get variable.cells location.element)
    (variable_at frames location.frame location.name)

-- the location of a cell of the newest frame
abbrev pub own_location : List Frame → (name : List ℕ) → (element : ℕ) → Location
own_location frames name element = record { frame = newest frames; name = name; element = element }

-- for which location a cell stands: its own, or the one that it refers to
abbrev pub stands_for : Location → Cell → Location
stands_for own Cell.Unset = own
stands_for own (Cell.Held value) = own
stands_for own (Cell.Ref location) = location

-- for which location a cell of the newest frame finally stands, if there is the cell
abbrev pub final_location : List Frame → Location → Option Location
final_location frames own = option_map (stands_for own) (cell_at frames own)

-- which cell of a variable is meant, counted from 0: without a subscript the first, and else by the subscript, from 1
-- to the size
abbrev pub element_of : Variable → Option ℤ → Outcome ℕ
element_of variable None = Outcome.gives 0
element_of variable (Some z) =
    if int_le (pos 1) z && int_le z (pos variable.size) then Outcome.gives (nat_abs z - 1)
    else faults FaultKind.SubscriptRange

-- where the cell is for which a variable of the newest frame, with this subscript or none, finally stands: its location
abbrev pub located : List Frame → (name : List ℕ) → (subscript : Option ℤ) → Outcome Location
located frames name subscript =
    then_gives (if_there (variable_at frames (newest frames) name)) (λ variable.
    then_gives (element_of variable subscript) (λ element.
    if_there (final_location frames (own_location frames name element))))

-- ---- what is read

-- the value that is read from a cell
abbrev pub value_in_cell : Cell → Outcome Value
value_in_cell Cell.Unset = faults FaultKind.Uninitialized
value_in_cell (Cell.Held value) = Outcome.gives value
value_in_cell (Cell.Ref location) = Outcome.undefined

-- the value that is read at a location
abbrev pub value_at : List Frame → Location → Outcome Value
value_at frames location = then_gives (if_there (cell_at frames location)) value_in_cell

-- ---- what is stored

-- the value as a cell of the type keeps it, if it is of its kind: of a text as many first bytes as the type has
abbrev pub kept_value : ItemType → Value → Option Value
kept_value ItemType.Fixed (Value.Fixed z) = Some (Value.Fixed z)
kept_value ItemType.Fixed (Value.Bit b) = None
kept_value ItemType.Fixed (Value.Text x) = None
kept_value ItemType.Bit (Value.Fixed z) = None
kept_value ItemType.Bit (Value.Bit b) = Some (Value.Bit b)
kept_value ItemType.Bit (Value.Text x) = None
kept_value (ItemType.Text n) (Value.Fixed z) = None
kept_value (ItemType.Text n) (Value.Bit b) = None
kept_value (ItemType.Text n) (Value.Text x) = Some (Value.Text (take n x))

-- the value as the cell at a location keeps it
abbrev pub kept_at : List Frame → Location → Value → Outcome Value
kept_at frames location value =
    if_there
    (option_and_then (λ variable. kept_value variable.ty value) (variable_at frames location.frame location.name))

-- a list, as of cells, variables or frames, with one of its items changed, if there is the item
abbrev pub changed_at : {A : Type 0} → ℕ → (A → A) → List A → List A
changed_at k change items = option_map_or (λ item. slice_set items k (change item)) (slice_get items k) items

-- a variable with this in one of its cells
abbrev pub with_element : ℕ → Cell → Variable → Variable
with_element element cell variable = record variable { cells = slice_set variable.cells element cell }

-- variables with this in a cell of one of them
abbrev pub with_element_named : List ℕ → ℕ → Cell → Variables → Variables
with_element_named name element cell variables =
    option_map_or (λ variable. set_value (bytes_eq name) variables (with_element element cell variable))
    (variable_named name variables) variables

-- frames with this in the cell at a location
abbrev pub with_cell : Location → Cell → List Frame → List Frame
with_cell location cell frames =
    changed_at location.frame
    (λ frame. record frame { cells = with_element_named location.name location.element cell frame.cells }) frames

-- ---- new cells

-- the cells that a new variable of this size has, in which nothing is stored yet: one of a scalar, whose size is 0
abbrev pub unset_cells : (size : ℕ) → List Cell
unset_cells size = replicate (cells_in size) Cell.Unset

-- a variable of the type and the size, in whose cells nothing is stored yet
abbrev pub new_variable : ItemType → (size : ℕ) → Variable
new_variable ty size = record { ty = ty; size = size; cells = unset_cells size }

-- a declared variable, in whose cells nothing is stored yet
abbrev pub unset_variable : Declared → Variable
unset_variable item = new_variable item.ty item.size

-- a new scalar variable of the type, in whose one cell this is stored
abbrev pub scalar_variable : ItemType → Cell → Variable
scalar_variable ty cell = record { ty = ty; size = 0; cells = cell ∷ [] }

-- a new variable under its name, of which no cell is set
abbrev pub unset_named : Declared → List ℕ × Variable
unset_named item = (item.name, unset_variable item)

-- ---- what a cell has to be to be set

-- a variable of the name has a cell of this number, counted from 0, if there is the variable
abbrev pub HasElement : (name : List ℕ) → (element : ℕ) → Variables → Type 0
HasElement name element variables =
    (variable : Variable) → variable_named name variables ≡ Some variable → element < length variable.cells

-- the variable at a location has the cell, if there is the variable
abbrev pub HasCell : Location → List Frame → Type 0
HasCell location frames =
    (variable : Variable) → variable_at frames location.frame location.name ≡ Some variable
    → location.element < length variable.cells
