-- The laws of steps: a new run fits, what fits has a step, and what that leads to fits again.
use Rattle.std.specs.Prelude.{◌≡◌, ℕ, ◌+◌, ◌<◌, ◌≤◌, List, length, slice_get, sum_by, Some, IsSome}
use Rattle.template_tree.specs.Positions.Place.{PlainPlace}
use Rattle.template_tree.specs.Programs.Limit.{most_cells}
use Rattle.template_tree.specs.Programs.PlainTree.{Forest, PlainTree}
use Rattle.template_tree.specs.Programs.Tree.{IsTree}
use Rattle.plcs_store.specs.declared.frame.Frame.{Frame}
use Rattle.plcs_store.specs.Act.{Act, done}
use Rattle.plcs_store.specs.Configuration.{PlainConfiguration, frame_place}
use Rattle.plcs_store.specs.Fits.{Fits}
use Rattle.plcs_store.specs.Limit.{most_loops}
use Rattle.plcs_store.specs.NewFrame.{First}
use Rattle.plcs_store.specs.Spot.{Spot, spot_at}
use Rattle.plcs_store.specs.Step.{PlainStepAnswer, Step}
use Rattle.plcs_store.specs.Undone.{Allows, step_undone, undo_of}

-- a new run of a tree fits it
abbrev pub NewRunsFit : Type 0
NewRunsFit = (tree : PlainTree) → IsTree tree → Fits tree.items (First tree.items)

-- what fits a tree has a step there
abbrev pub FittingRunsStep : Type 0
FittingRunsStep =
    (tree : PlainTree) (input : List ℕ) (c : PlainConfiguration) → IsTree tree → Fits tree.items c
    → IsSome (Step tree.items input c)

-- what a run that fits a tree steps to fits it again
abbrev pub StepsKeepFit : Type 0
StepsKeepFit =
    (tree : PlainTree) (input : List ℕ) (c d : PlainConfiguration) → IsTree tree → Fits tree.items c
    → Step tree.items input c ≡ Some (PlainStepAnswer.stepped d) → Fits tree.items d

-- a frame waits at point 1 of its CALL for what it called, as the laws of steps say
abbrev pub WaitsAtCall : (program : Forest) → Frame → Type 0
WaitsAtCall program frame =
    (frame.place.point.0 ≡ 1) × ((next : PlainPlace) × (spot_at program (frame_place frame) ≡ Some (Spot.waits next)))

-- of the frames of a run that fits a tree, each but the newest waits at its CALL
abbrev pub FittingCallersWait : Type 0
FittingCallersWait =
    (tree : PlainTree) (c : PlainConfiguration) (number : ℕ) (frame : Frame) → IsTree tree → Fits tree.items c
    → slice_get c.frames number ≡ Some frame → number + 1 < length c.frames → WaitsAtCall tree.items frame

-- the law that a frame of a run that fits a tree has room for one more loop
abbrev pub FittingLoopsHaveRoom : Type 0
FittingLoopsHaveRoom =
    (tree : PlainTree) (c : PlainConfiguration) (number : ℕ) (frame : Frame) → IsTree tree → Fits tree.items c
    → slice_get c.frames number ≡ Some frame → length frame.loops < most_loops

-- the law that a frame of a run that fits a tree has no more cells than a frame may have
abbrev pub FittingCellsFew : Type 0
FittingCellsFew =
    (tree : PlainTree) (c : PlainConfiguration) (number : ℕ) (frame : Frame) → IsTree tree → Fits tree.items c
    → slice_get c.frames number ≡ Some frame → sum_by (λ named. length named.1.cells) frame.cells ≤ most_cells

-- a step of a run that fits a tree does an act that its configuration allows, and goes on somewhere
abbrev pub StepsDoAllowedActs : Type 0
StepsDoAllowedActs =
    (tree : PlainTree) (input : List ℕ) (c d : PlainConfiguration) → IsTree tree → Fits tree.items c
    → Step tree.items input c ≡ Some (PlainStepAnswer.stepped d)
    → (act : Act) × (next : PlainPlace) × Allows act c × (d ≡ done act next c)

-- a step of a run that fits a tree is taken back by the record of the act that it does
abbrev pub StepsOfRunsTakenBack : Type 0
StepsOfRunsTakenBack =
    (tree : PlainTree) (input : List ℕ) (c d : PlainConfiguration) → IsTree tree → Fits tree.items c
    → Step tree.items input c ≡ Some (PlainStepAnswer.stepped d)
    → (act : Act) × (next : PlainPlace) × (d ≡ done act next c) × (step_undone (undo_of act c) d ≡ c)
