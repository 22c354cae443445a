-- New frames: that of a new run, and those that calls make.
use Rattle.std.specs.Prelude.{ℕ, ◌≤◌, not, if◌then◌else◌, bytes_eq, List, [], ◌∷◌, map, Option, Some, None, option_and_then, option_map}
use Rattle.std.specs.List.{IsDistinct, filter, list_any}
use Rattle.std.specs.Map.{keys_of}
use Rattle.plcs_base.specs.declared.declared.Declared.{Declared}
use Rattle.plcs_base.specs.declared.declared.ItemType.{ItemType}
use Rattle.template_tree.specs.Checks.Environment.{cells, item_named, items_inside, kind_of_type}
use Rattle.template_tree.specs.Checks.KindTable.{same_kind}
use Rattle.template_tree.specs.Checks.ParameterItem.{scalar_item}
use Rattle.template_tree.specs.Positions.Place.{PlainPlace}
use Rattle.template_tree.specs.Programs.Limit.{most_cells}
use Rattle.template_tree.specs.Programs.PlainTree.{Forest}
use Rattle.plcs_store.specs.declared.argument.Argument.{Argument}
use Rattle.plcs_store.specs.declared.cell.Cell.{Cell}
use Rattle.plcs_store.specs.declared.cell.Location.{Location}
use Rattle.plcs_store.specs.declared.frame.Frame.{Frame}
use Rattle.plcs_store.specs.declared.variable.Variable.{Variable}
use Rattle.plcs_store.specs.CellAt.{Variables, kept_value, scalar_variable, unset_named, variable_at}
use Rattle.plcs_store.specs.Configuration.{PlainConfiguration, place_of_plain}
use Rattle.plcs_store.specs.Spot.{procedure_start}

-- a new frame of the procedure in the slot, with these variables
abbrev pub new_frame : (procedure : ℕ) → PlainPlace → Variables → Frame
new_frame procedure place variables =
    record { procedure = record { 0 = procedure }; place = place_of_plain place; cells = variables; loops = [] }

-- ---- a new run

-- the frames of a new run: one of main, at its first place, with no cell set
abbrev pub first_frames : (program : Forest) → List Frame
first_frames Forest.nil = []
first_frames (Forest.cons label inner rest) =
    new_frame label.slot (procedure_start record { label = label; inner = inner })
    (map unset_named (items_inside inner)) ∷ []

-- the configuration of a new run of the program
abbrev pub First : (program : Forest) → PlainConfiguration
First program = record { frames = first_frames program; taken = 0; output = [] }

-- ---- a call

-- the parameter of the type that stands for the cell at a location, which is one of a variable of the kind
abbrev pub reference_parameter : ItemType → Location → Variable → Option Variable
reference_parameter ty location variable =
    if same_kind (kind_of_type ty) (kind_of_type variable.ty) then Some (scalar_variable ty (Cell.Ref location))
    else None

-- the parameter of the type for an argument: it stands for a variable, or has a cell of its own with the value
abbrev pub parameter_of : List Frame → ItemType → Argument → Option Variable
parameter_of frames ty (Argument.Reference location) =
    option_and_then (reference_parameter ty location) (variable_at frames location.frame location.name)
parameter_of frames ty (Argument.Dummy value) =
    option_map (λ kept. scalar_variable ty (Cell.Held kept)) (kept_value ty value)

-- the parameter of the name for an argument
abbrev pub parameter_named : List Frame → List Declared → List ℕ → Argument → Option (List ℕ × Variable)
parameter_named frames items name argument =
    option_and_then (λ item. option_map (λ variable. (name, variable)) (parameter_of frames item.ty argument))
    (option_and_then scalar_item (item_named name items))

-- a parameter before the others of a new frame, where all are there
abbrev pub option_before : {A : Type 0} → Option A → Option (List A) → Option (List A)
option_before first others = option_and_then (λ a. option_map (λ more. a ∷ more) others) first

-- the parameters of a call, one for each argument, in the order of the heading
abbrev pub parameter_variables : List Frame → List Declared → List (List ℕ) → List Argument → Option Variables
parameter_variables frames items [] [] = Some []
parameter_variables frames items [] (argument ∷ arguments) = None
parameter_variables frames items (name ∷ names) [] = None
parameter_variables frames items (name ∷ names) (argument ∷ arguments) =
    option_before (parameter_named frames items name argument) (parameter_variables frames items names arguments)

-- the variables of a procedure that are no parameters, in the order in which they are declared; no cell is set
abbrev pub other_variables : List (List ℕ) → List Declared → Variables
other_variables names items = map unset_named (filter (λ item. not (list_any (bytes_eq item.name) names)) items)

-- ---- limits

-- the variables of declared items, which a new frame has, have different names, and together as many cells as a frame
-- may have
pub record AreWithinLimits (items : List Declared) : Type 0 where
  pub few : cells items ≤ most_cells
  pub once : IsDistinct bytes_eq (keys_of (map unset_named items))

-- a new frame keeps its limits of variables: the effective items of a procedure, which are its variables, are within
-- them
abbrev pub ItemsKeepLimits : Type 0
ItemsKeepLimits = (inner : Forest) → AreWithinLimits (items_inside inner)
