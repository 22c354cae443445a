-- What a step that the code made answers and changes.
use Rattle.std.specs.Prelude.{◌≡◌, ◌+◌, length, Option, Some}
use Rattle.template_tree.specs.Positions.Place.{PlainPlace}
use Rattle.plcs_store.specs.declared.undo.Undo.{Undo}
use Rattle.plcs_store.specs.Act.{Act, done}
use Rattle.plcs_store.specs.Configuration.{PlainConfiguration}
use Rattle.plcs_store.specs.Step.{PlainStepAnswer}
use Rattle.plcs_store.specs.Undone.{Allows, step_undone, undo_of}
use Rattle.plcs_machine.specs.declared.step_answer.StepAnswer.{StepAnswer}
use Rattle.plcs_machine.specs.Exec.{FetchedAnswer}
use Rattle.plcs_machine.specs.Fetched.{result_of}

-- the answer of a step that the code tells so, where this is the configuration then
abbrev pub step_answered : StepAnswer → PlainConfiguration → PlainStepAnswer
step_answered StepAnswer.Stepped now = PlainStepAnswer.stepped now
step_answered (StepAnswer.Stopped reason) now = PlainStepAnswer.stopped reason
step_answered StepAnswer.Ended now = PlainStepAnswer.ended

-- a step that the code made did an act that the configuration before allows, and this is its record
abbrev pub DoesAct : (before now : PlainConfiguration) → (notes : Undo) → Type 0
DoesAct before now notes =
    (act : Act) × (next : PlainPlace) × Allows act before × (now ≡ done act next before) × (notes ≡ undo_of act before)

-- neither the configuration nor the record changes
abbrev pub NothingChanges : (before now : PlainConfiguration) → (noted notes : Undo) → Type 0
NothingChanges before now noted notes = (now ≡ before) × (notes ≡ noted)

-- a step that is made does one act, and leaves the record of it, which gives the whole configuration before the step
-- back; any other changes nothing
abbrev pub StepChanges : StepAnswer → (before now : PlainConfiguration) → (noted notes : Undo) → Type 0
StepChanges StepAnswer.Stepped before now noted notes = (step_undone notes now ≡ before) × DoesAct before now notes
StepChanges (StepAnswer.Stopped reason) before now noted notes = NothingChanges before now noted notes
StepChanges StepAnswer.Ended before now noted notes = NothingChanges before now noted notes

-- the answer that is wanted of a step that the code made is a configuration with one frame more, as only a call makes
-- one
abbrev pub MakesFrame : (wanted : Option FetchedAnswer) → (before : PlainConfiguration) → Type 0
MakesFrame wanted before =
    (now : PlainConfiguration) × (result_of wanted ≡ Some (PlainStepAnswer.stepped now))
    × (length now.frames ≡ length before.frames + 1)
