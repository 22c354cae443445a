-- A run of a tree between two of its steps.
use Rattle.std.specs.Prelude.{◌≡◌, [], ℕ, ◌+◌, List, Some, Result, Ok, Err}
use Rattle.plcs_base.specs.declared.memory.OutOfMemory.{OutOfMemory}
use Rattle.plcs_base.specs.PlainCounts.{PlainCounts}
use Rattle.plcs_machine.specs.declared.step_answer.StepAnswer.{StepAnswer}
use Rattle.plcs_machine.specs.Fetched.{FetchesBy}
use Rattle.plcs_store.specs.declared.run_state.RunState.{RunState}
use Rattle.plcs_store.specs.Configuration.{PlainConfiguration, plain_configuration}
use Rattle.plcs_store.specs.Fits.{Fits}
use Rattle.plcs_store.specs.NewFrame.{First}
use Rattle.plcs_store.specs.Step.{Step}
use Rattle.template_tree.specs.Programs.PlainTree.{Forest, PlainTree}
use Rattle.program_run.specs.declared.ending.Ending.{Ending}
use Rattle.program_run.specs.CountedRun.{FetchesRun, step_fetches, steps_fetches}
use Rattle.program_run.specs.ReachedConfiguration.{configuration_after}
use Rattle.program_run.specs.RunEnding.{EndsAs}

-- a run of the tree stands between two steps: what it is in fits the tree, and the room for operands is empty
pub record RunStands (tree : PlainTree) (state : RunState) : Type 0 where
  pub fits : Fits tree.items (plain_configuration state)
  pub values : state.operands.values ≡ []
  pub arguments : state.operands.arguments ≡ []

-- a run of the tree begins
pub record HasBegun (tree : PlainTree) (state : RunState) : Type 0 where
  pub first : plain_configuration state ≡ First tree.items
  pub stands : RunStands tree state

-- a run of the tree stands there once so many steps were made, and what they take was fetched
pub record IsReached (tree : PlainTree) (input : List ℕ) (made : ℕ) (state : RunState)
    (before now : PlainCounts) : Type 0 where
  pub reached : configuration_after tree.items input made ≡ Some (plain_configuration state)
  pub stands : RunStands tree state
  pub fetched : FetchesBy (steps_fetches tree.items input made) before now

-- what a run is in stays where no step is made
abbrev pub StaysUnlessStepped : Result StepAnswer OutOfMemory → (before now : PlainConfiguration) → Type 0
StaysUnlessStepped (Ok StepAnswer.Stepped) before now = Unit {0}
StaysUnlessStepped (Ok (StepAnswer.Stopped reason)) before now = now ≡ before
StaysUnlessStepped (Ok StepAnswer.Ended) before now = now ≡ before
StaysUnlessStepped (Err wanted) before now = now ≡ before

-- the steps of a run end so where so many of them reach this configuration; to what they fetch comes what was fetched
-- for the beginning of the run, if that is counted here
pub record EndsSteps (program : Forest) (input : List ℕ) (limit : ℕ) (ending : Ending) (last : PlainConfiguration)
    (begun : ℕ) (before now : PlainCounts) : Type 0 where
  pub made : ℕ
  pub reached : configuration_after program input made ≡ Some last
  pub ends : EndsAs ending limit made last (Step program input last)
  pub fetches : FetchesRun ending (begun + steps_fetches program input made)
      (step_fetches program input last) before now
