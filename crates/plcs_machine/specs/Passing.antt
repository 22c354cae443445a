-- What comes where no value is worked on: jumps, the cells of a new frame, and then a place.
use Rattle.std.specs.Prelude.{ℕ, zero, suc, ◌+◌, nat_le, ℤ, ◌&&◌, if◌then◌else◌, List, [], ◌∷◌, ◌++◌, length, sum_by, slice_get, Option, Some, None, is_none, option_and_then, option_map}
use Rattle.plcs_base.specs.declared.declared.ItemType.{ItemType}
use Rattle.plcs_code.specs.PlainInstr.{PlainInstr}
use Rattle.plcs_store.specs.declared.argument.Argument.{Argument}
use Rattle.plcs_store.specs.declared.frame.Frame.{Frame}
use Rattle.plcs_store.specs.declared.variable.Variable.{Variable}
use Rattle.plcs_store.specs.CellAt.{Variables, new_variable, variable_named}
use Rattle.plcs_store.specs.NewFrame.{parameter_of}
use Rattle.template_tree.specs.Positions.Place.{PlainPlace}
use Rattle.template_tree.specs.Programs.Limit.{most_cells}
use Rattle.plcs_machine.specs.Fetched.{Fetched, at_once, behind_one}
use Rattle.plcs_machine.specs.Lead.{jump_target}

-- an instruction that may come where no value is worked on
pub data Passing : Type 0 where
  -- a step ends at this place
  lands : PlainPlace → Passing
  -- it jumps, by this number
  jumps : ℤ → Passing
  -- the parameter of the name and the type takes the next argument
  takes : List ℕ → ItemType → Passing
  -- cells of the name and the type are made, for a variable of this size
  makes : List ℕ → ItemType → (size : ℕ) → Passing

-- the instruction as one that may come there, if it is
abbrev pub passing_of : PlainInstr → Option Passing
passing_of (PlainInstr.place place) = Some (Passing.lands place)
passing_of PlainInstr.suspend_placeholder = None
passing_of PlainInstr.suspend_marked = None
passing_of (PlainInstr.push_number z) = None
passing_of (PlainInstr.push_bit b) = None
passing_of (PlainInstr.push_text x) = None
passing_of (PlainInstr.load name) = None
passing_of (PlainInstr.load_at name) = None
passing_of (PlainInstr.store name) = None
passing_of (PlainInstr.store_at name) = None
passing_of (PlainInstr.unary op) = None
passing_of (PlainInstr.binary op) = None
passing_of (PlainInstr.builtin function n) = None
passing_of (PlainInstr.jump d) = Some (Passing.jumps d)
passing_of (PlainInstr.jump_false d) = None
passing_of (PlainInstr.for_enter slot name d) = None
passing_of (PlainInstr.for_next slot name d) = None
passing_of (PlainInstr.get name) = None
passing_of (PlainInstr.get_at name) = None
passing_of (PlainInstr.put n) = None
passing_of (PlainInstr.put_skip n) = None
passing_of (PlainInstr.reference name) = None
passing_of (PlainInstr.reference_at name) = None
passing_of PlainInstr.dummy = None
passing_of (PlainInstr.call name n) = None
passing_of (PlainInstr.parameter name ty) = Some (Passing.takes name ty)
passing_of (PlainInstr.cell name ty n) = Some (Passing.makes name ty n)
passing_of PlainInstr.leave = None

-- ---- the variables of a new frame

-- how many cells the variables of a new frame have together, as far as instructions made them
abbrev pub cell_count : Variables → ℕ
cell_count variables = sum_by (λ named. length named.1.cells) variables

-- the variables of a new frame once an instruction made the cells of one more behind them, if none has its name yet and
-- their cells aren't too many then
abbrev pub with_variable : (name : List ℕ) → Variable → Variables → Option Variables
with_variable name variable variables =
    if is_none (variable_named name variables) && nat_le (cell_count variables + length variable.cells) most_cells
    then Some (variables ++ ((name, variable) ∷ [])) else None

-- the variables of a new frame once an instruction made the cells of one more, none of which is set
abbrev pub with_unset : (name : List ℕ) → ItemType → (size : ℕ) → Variables → Option Variables
with_unset name ty size variables = with_variable name (new_variable ty size) variables

-- a frame while instructions make its cells: its variables so far, and the arguments that no parameter took yet
pub record Making : Type 0 where
  pub variables : Variables
  pub arguments : List Argument

-- a frame that instructions make, with these variables in place of its own
abbrev pub with_variables : Making → Variables → Making
with_variables making variables = record making { variables = variables }

-- a frame while instructions make its cells, with a parameter for the first of these arguments; the others are left
abbrev pub with_parameter : List Frame → (name : List ℕ) → ItemType → Variables → List Argument → Option Making
with_parameter frames name ty variables [] = None
with_parameter frames name ty variables (argument ∷ arguments) =
    option_map (with_variables record { variables = variables; arguments = arguments })
    (option_and_then (λ parameter. with_variable name parameter variables) (parameter_of frames ty argument))

-- ---- the way to the next place

-- where a step ends: its place, and the variables of the frame that was made on the way
pub record Landing : Type 0 where
  pub place : PlainPlace
  pub variables : Variables

-- a step that ends at the place, with these variables of a frame that it made
abbrev pub landing : PlainPlace → Variables → Landing
landing place variables = record { place = place; variables = variables }

-- the variables with the cells of a new frame while these are made, or none
abbrev pub variables_made : Option Making → Variables
variables_made None = []
variables_made (Some making) = making.variables

-- where an instruction leads before the next address, behind which it is told where others lead; cells are made in a
-- new frame alone
abbrev pub passed : List Frame → (next : ℕ) → Option Making → (go : ℕ → Option Making → Option (Fetched Landing))
    → Passing → Option (Fetched Landing)
passed frames next making go (Passing.lands place) = Some (at_once (landing place (variables_made making)))
passed frames next making go (Passing.jumps d) =
    option_map behind_one (option_and_then (λ target. go target making) (jump_target next d))
passed frames next making go (Passing.takes name ty) =
    option_map behind_one
    (option_and_then (λ more. go next (Some more))
    (option_and_then (λ now. with_parameter frames name ty now.variables now.arguments) making))
passed frames next making go (Passing.makes name ty size) =
    option_map behind_one
    (option_and_then (λ more. go next (Some more))
    (option_and_then (λ now. option_map (with_variables now) (with_unset name ty size now.variables)) making))

-- where a step ends that comes to an address, within so many fetches: only jumps come before the place, and, where a
-- frame is made, its cells
abbrev pub settle : List Frame → List PlainInstr → (fetches address : ℕ) → Option Making → Option (Fetched Landing)
settle frames instrs zero address making = None
settle frames instrs (suc fetches) address making =
    option_and_then (passed frames (address + 1) making (settle frames instrs fetches))
    (option_and_then passing_of (slice_get instrs address))
