-- The configurations before a run's, as the records of its latest steps give them back.
use Rattle.std.specs.Prelude.{◌≡◌, ◌≤◌, List, [], ◌∷◌, length, Some}
use Rattle.std.specs.List.{All}
use Rattle.plcs_store.specs.declared.frame.Frame.{Frame}
use Rattle.plcs_store.specs.declared.undo.Undo.{Undo}
use Rattle.plcs_store.specs.Configuration.{PlainConfiguration}
use Rattle.plcs_store.specs.Limit.{most_frames, most_loops}
use Rattle.plcs_store.specs.Undone.{newest_frame, step_undone}

-- the whole configurations before this one, by the records of the steps that led to it, the latest first
abbrev pub configurations_before : List Undo → PlainConfiguration → List PlainConfiguration
configurations_before [] c = []
configurations_before (undo ∷ undos) c = step_undone undo c ∷ configurations_before undos (step_undone undo c)

-- a run goes back: the latest configuration before this one becomes its own, and the others are left before that
abbrev pub GoesBack : (old : List Undo) → PlainConfiguration → (new : List Undo) → PlainConfiguration → Type 0
GoesBack old after new before = configurations_before old after ≡ before ∷ configurations_before new before

-- a configuration, as one before a run's, keeps the limits of runs: of its frames, and of the loops of the newest
pub record KeepsRunLimits (c : PlainConfiguration) : Type 0 where
  pub frames : length c.frames ≤ most_frames
  pub loops : (frame : Frame) → newest_frame c.frames ≡ Some frame → length frame.loops ≤ most_loops

-- each configuration before this one keeps the limits of a run, so that there is room to go back to it
abbrev pub CanGoBack : List Undo → PlainConfiguration → Type 0
CanGoBack undos c = All KeepsRunLimits (configurations_before undos c)
