-- How the run of a saved program ends: the number of each ending, and what it says of the run.
use Rattle.std.specs.Prelude.{◌≡◌, ℕ, ◌+◌, ◌<◌, length, Option, Some}
use Rattle.plcs_store.specs.declared.reason.Reason.{Reason}
use Rattle.plcs_store.specs.Configuration.{PlainConfiguration}
use Rattle.plcs_store.specs.Step.{PlainStepAnswer}
use Rattle.program_run.specs.declared.ending.Ending.{Ending}

-- the exit status where a run ends since no step can be made, by the reason
abbrev pub reason_status : Reason → ℕ
reason_status Reason.Placeholder = 5
reason_status Reason.Marked = 6
reason_status (Reason.Fault kind) = 7
reason_status Reason.InputWanted = 8

-- the exit status of the command, by how the run ended
abbrev pub exit_status : Ending → ℕ
exit_status Ending.Ended = 0
exit_status Ending.BadWords = 1
exit_status (Ending.ProgramRefused refusal) = 2
exit_status (Ending.InputRefused refusal) = 2
exit_status Ending.NoMemory = 3
exit_status Ending.WriteFault = 4
exit_status (Ending.Stopped reason) = reason_status reason
exit_status Ending.StepsMade = 9

-- a run that stands there calls a procedure in its next step, which has this answer: it has one frame more then
pub record CallsInStep (last : PlainConfiguration) (next : Option PlainStepAnswer) : Type 0 where
  pub called : PlainConfiguration
  pub answered : next ≡ Some (PlainStepAnswer.stepped called)
  pub frames : length called.frames ≡ length last.frames + 1

-- how a run ends of which so many steps were made, with this limit, and which stands there, where the next step would
-- have this answer. The limit is asked for before the next step is tried. Memory runs out in no step but a call
abbrev pub EndsAs : Ending → (limit made : ℕ) → (last : PlainConfiguration) → (next : Option PlainStepAnswer) → Type 0
EndsAs Ending.Ended limit made last next = (made < limit) × (next ≡ Some PlainStepAnswer.ended)
EndsAs (Ending.Stopped reason) limit made last next = (made < limit) × (next ≡ Some (PlainStepAnswer.stopped reason))
EndsAs Ending.StepsMade limit made last next = made ≡ limit
EndsAs Ending.NoMemory limit made last next = (made < limit) × CallsInStep last next
EndsAs Ending.BadWords limit made last next = ⊥
EndsAs (Ending.ProgramRefused refusal) limit made last next = ⊥
EndsAs (Ending.InputRefused refusal) limit made last next = ⊥
EndsAs Ending.WriteFault limit made last next = ⊥
