-- Which configurations fit a program.
use Rattle.std.specs.Prelude.{◌≡◌, ℕ, ◌<◌, ◌≤◌, ◌==◌, Bool, true, false, if◌then◌else◌, bytes_eq, List, [], ◌∷◌, ◌++◌, length, map, All, slice_get, Some, option_map}
use Rattle.std.specs.List.{IsDistinct}
use Rattle.std.specs.Map.{keys_of}
use Rattle.plcs_base.specs.declared.declared.Declared.{Declared}
use Rattle.plcs_base.specs.declared.declared.ItemType.{ItemType}
use Rattle.plcs_base.specs.declared.value.Kind.{Kind}
use Rattle.plcs_base.specs.declared.value.Value.{Value}
use Rattle.plcs_grammar.specs.declared.node_kind.NodeKind.{NodeKind}
use Rattle.plcs_grammar.specs.declared.template.Template.{Template}
use Rattle.template_tree.specs.Checks.Environment.{Items, cells_in, item_named, kind_of_type}
use Rattle.template_tree.specs.Positions.Place.{PlainPlace, Start}
use Rattle.template_tree.specs.Programs.PlainTree.{Forest}
use Rattle.tree_steps.specs.RunPlace.{HasPlace}
use Rattle.tree_steps.specs.StandingSlot.{Around, StandsInside, loop_by_kind, loops_around, outermost_slot}
use Rattle.plcs_store.specs.declared.cell.Cell.{Cell}
use Rattle.plcs_store.specs.declared.cell.Location.{Location}
use Rattle.plcs_store.specs.declared.frame.Frame.{Frame}
use Rattle.plcs_store.specs.declared.variable.Variable.{Variable}
use Rattle.plcs_store.specs.CellAt.{Variables, variable_at, variable_named}
use Rattle.plcs_store.specs.Configuration.{PlainConfiguration, frame_place}
use Rattle.plcs_store.specs.Limit.{most_frames}

-- ---- where frames stand

-- in a configuration that fits a program, whether a frame that stands at this point of a node of the template is at a
-- CALL, and waits there for what it called
abbrev pub waits_in_template : Template → (point : ℕ) → Bool
waits_in_template Template.Fixed point = false
waits_in_template Template.Bit point = false
waits_in_template Template.Char point = false
waits_in_template Template.If point = false
waits_in_template Template.IfElse point = false
waits_in_template Template.While point = false
waits_in_template Template.For point = false
waits_in_template Template.Until point = false
waits_in_template Template.Group point = false
waits_in_template Template.Get point = false
waits_in_template Template.Put point = false
waits_in_template Template.PutSkip point = false
waits_in_template Template.Call point = point == 1
waits_in_template Template.Return point = false
waits_in_template Template.Comment point = false
waits_in_template Template.Proc point = false
waits_in_template Template.ProcP point = false

-- in a configuration that fits a program, whether a frame that stands at this point of a node of the kind is at a CALL,
-- and waits there for what it called
abbrev pub is_waiting_place : NodeKind → (point : ℕ) → Bool
is_waiting_place NodeKind.DeclarationHole point = false
is_waiting_place NodeKind.StatementHole point = false
is_waiting_place NodeKind.ProcedureHole point = false
is_waiting_place NodeKind.Main point = false
is_waiting_place NodeKind.Assign point = false
is_waiting_place (NodeKind.Filled template) point = waits_in_template template point

-- a frame stands at a place of its procedure, and waits for another there or doesn't; the nodes around its place are
-- told
pub record StandsAround (program : Forest) (waits : Bool) (frame : Frame) (kind : NodeKind)
    (around : Around) : Type 0 where
  pub stands : StandsInside program frame.place.slot.0 kind around
  pub exists : HasPlace program (frame_place frame)
  pub procedure : outermost_slot frame.place.slot.0 around ≡ frame.procedure.0
  pub waiting : is_waiting_place kind frame.place.point.0 ≡ waits

-- a frame stands at a place of its procedure, and waits for another there or doesn't
abbrev pub StandsAt : (program : Forest) → (waits : Bool) → Frame → Type 0
StandsAt program waits frame = (kind : NodeKind) × (around : Around) × StandsAround program waits frame kind around

-- as in a configuration that fits the program, a frame that is the newest stands where a run begins that comes to its
-- slot, or else at another point
abbrev pub StandsAtStart : (program : Forest) → Frame → Type 0
StandsAtStart program frame = frame.place.point.0 ≡ 0 → Start program frame.place.slot.0 ≡ Some (frame_place frame)

-- each frame stands at a place of its procedure, the newest ready for a step, and each other one at its CALL
abbrev pub AllStand : (program : Forest) → List Frame → Type 0
AllStand program [] = Unit {0}
AllStand program (frame ∷ []) = StandsAt program false frame × StandsAtStart program frame
AllStand program (frame ∷ (above ∷ frames)) = StandsAt program true frame × AllStand program (above ∷ frames)

-- the first frame is of main, the first node of the program
abbrev pub IsOfMain : (program : Forest) → List Frame → Type 0
IsOfMain Forest.nil frames = ⊥
IsOfMain (Forest.cons label inner rest) frames =
    option_map (λ frame. frame.procedure.0) (slice_get frames 0) ≡ Some label.slot

-- the frames stand in the program: there are 1 to 64, the first is of main, and each stands at its place
pub record FramesStand (program : Forest) (frames : List Frame) : Type 0 where
  pub some : 1 ≤ length frames
  pub few : length frames ≤ most_frames
  pub main : IsOfMain program frames
  pub stand : AllStand program frames

-- ---- the cells of frames

-- what a variable has of a declared item: its type and its size
abbrev pub declared_part : Declared → ItemType × ℕ
declared_part item = (item.ty, item.size)

-- what of a variable has to fit its declared item in the program: its type and its size
abbrev pub variable_part : Variable → ItemType × ℕ
variable_part variable = (variable.ty, variable.size)

-- the variables of a frame that fits are those of the effective items, with their types and sizes, each once
pub record AreVariables (items : List Declared) (variables : Variables) : Type 0 where
  pub once : IsDistinct bytes_eq (keys_of variables)
  pub same : (name : List ℕ)
      → option_map variable_part (variable_named name variables) ≡ option_map declared_part (item_named name items)
  pub whole : (name : List ℕ) (variable : Variable) → variable_named name variables ≡ Some variable
      → length variable.cells ≡ cells_in variable.size

-- each frame has the cells of its procedure
abbrev pub CellsFit : (program : Forest) → List Frame → Type 0
CellsFit program frames = All (λ frame. AreVariables (Items program frame.procedure.0) frame.cells) frames

-- ---- the loops of frames

-- the loops that a frame of a configuration which fits keeps at a place: those For statements that enclose it,
-- outermost first, and the For itself at its next iteration
abbrev pub loops_at : NodeKind → Around → PlainPlace → List ℕ
loops_at kind around place = loops_around around ++ (if place.point == 1 then loop_by_kind kind place.slot else [])

-- a frame keeps the loops in which its place stands
abbrev pub HasLoops : (program : Forest) → Frame → Type 0
HasLoops program frame =
    (kind : NodeKind) (around : Around) → StandsInside program frame.place.slot.0 kind around
    → map (λ kept. kept.slot.0) frame.loops ≡ loops_at kind around (frame_place frame)

-- each frame keeps the loops in which its place stands
abbrev pub LoopsFit : (program : Forest) → List Frame → Type 0
LoopsFit program frames = All (HasLoops program) frames

-- ---- what is in cells

-- the kind of a value, which has to fit its cell
abbrev pub kind_of_value : Value → Kind
kind_of_value (Value.Fixed z) = Kind.Fixed
kind_of_value (Value.Bit b) = Kind.Bit
kind_of_value (Value.Text x) = Kind.Text

-- a cell that fits doesn't stand for another
abbrev pub IsNoReference : Cell → Type 0
IsNoReference Cell.Unset = Unit {0}
IsNoReference (Cell.Held value) = Unit {0}
IsNoReference (Cell.Ref location) = ⊥

-- a reference that fits may go to this location: there is a cell of the kind there, and it is no reference
pub record IsTarget (frames : List Frame) (kind : Kind) (location : Location) : Type 0 where
  pub variable : Variable
  pub there : variable_at frames location.frame location.name ≡ Some variable
  pub kind_is : kind_of_type variable.ty ≡ kind
  pub cell : Cell
  pub cell_there : slice_get variable.cells location.element ≡ Some cell
  pub plain : IsNoReference cell

-- what a cell of the kind holds in the frame of this number: a value of the kind, or a reference to a cell of the kind
-- in a lower frame
abbrev pub HoldsRight : List Frame → (frame : ℕ) → Kind → Cell → Type 0
HoldsRight frames frame kind Cell.Unset = Unit {0}
HoldsRight frames frame kind (Cell.Held value) = kind_of_value value ≡ kind
HoldsRight frames frame kind (Cell.Ref location) = (location.frame < frame) × IsTarget frames kind location

-- each cell holds what is right
abbrev pub ValuesFit : List Frame → Type 0
ValuesFit frames =
    (frame element : ℕ) (name : List ℕ) (variable : Variable) (cell : Cell)
    → variable_at frames frame name ≡ Some variable
    → slice_get variable.cells element ≡ Some cell → HoldsRight frames frame (kind_of_type variable.ty) cell

-- ---- the four together

-- the configuration fits the program
pub record Fits (program : Forest) (c : PlainConfiguration) : Type 0 where
  pub frames : FramesStand program c.frames
  pub cells : CellsFit program c.frames
  pub loops : LoopsFit program c.frames
  pub values : ValuesFit c.frames
