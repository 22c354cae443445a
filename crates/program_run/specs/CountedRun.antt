-- How much work is counted for the run of a program.
use Rattle.std.specs.Prelude.{ℕ, zero, suc, ◌+◌, ◌≤◌, List, length}
use Rattle.std.specs.Option.{option_map_or}
use Rattle.plcs_base.specs.Count.{raised_by}
use Rattle.plcs_base.specs.PlainCounts.{ChecksAtMost, PlainCounts}
use Rattle.template_tree.specs.Checks.Marks.{procedure_verdicts}
use Rattle.template_tree.specs.Programs.PlainTree.{Forest}
use Rattle.plcs_store.specs.Configuration.{PlainConfiguration}
use Rattle.plcs_code.specs.Counts.{Emits}
use Rattle.plcs_code.specs.ProgramCode.{program_code}
use Rattle.plcs_machine.specs.Enter.{Enter}
use Rattle.plcs_machine.specs.Exec.{Exec}
use Rattle.plcs_machine.specs.Fetched.{FetchesAtMost, FetchesBy, fetches_of}
use Rattle.program_run.specs.declared.ending.Ending.{Ending}
use Rattle.program_run.specs.ReachedConfiguration.{configuration_after}

-- ---- what is fetched

-- how many instructions of a program's code are fetched where a run of it begins
abbrev pub begin_fetches : (program : Forest) → ℕ
begin_fetches program = fetches_of (Enter (program_code program))

-- how many instructions of a program's code are fetched where the next step of its run is tried
abbrev pub step_fetches : (program : Forest) → (input : List ℕ) → PlainConfiguration → ℕ
step_fetches program input c = fetches_of (Exec (program_code program) input c)

-- how many instructions of a program's code are fetched for so many steps of its run, from the first one on
abbrev pub steps_fetches : (program : Forest) → (input : List ℕ) → (steps : ℕ) → ℕ
steps_fetches program input zero = 0
steps_fetches program input (suc steps) =
    steps_fetches program input steps
    + option_map_or (step_fetches program input) (configuration_after program input steps) 0

-- how many instructions are counted as fetched for a run that ends so, where `made` are fetched for what was made of
-- it and `next` for a try of the next step: nothing else is counted. No step is tried where as many were made as may
-- be; where memory runs out in one, it is fetched in part
abbrev pub FetchesRun : Ending → (made next : ℕ) → (before now : PlainCounts) → Type 0
FetchesRun Ending.Ended made next before now = FetchesBy (made + next) before now
FetchesRun (Ending.Stopped reason) made next before now = FetchesBy (made + next) before now
FetchesRun Ending.StepsMade made next before now = FetchesBy made before now
FetchesRun Ending.NoMemory made next before now =
    (raised_by made before.fetched ≤ now.fetched) × FetchesAtMost (made + next) before now
FetchesRun Ending.BadWords made next before now = ⊥
FetchesRun (Ending.ProgramRefused refusal) made next before now = ⊥
FetchesRun (Ending.InputRefused refusal) made next before now = ⊥
FetchesRun Ending.WriteFault made next before now = ⊥

-- ---- all that is counted

-- what is counted for the run of a program that ends so, of which so many steps reach this configuration: its phrases
-- are checked, each once at most, then its code is made, each instruction of it once, and then just what the
-- beginning of the run and its steps take is fetched
pub record CountsRun (program : Forest) (input : List ℕ) (ending : Ending) (made : ℕ) (last : PlainConfiguration)
    (before now : PlainCounts) : Type 0 where
  pub checked : PlainCounts
  pub coded : PlainCounts
  pub checks : ChecksAtMost (length (procedure_verdicts program program)) before checked
  pub emits : Emits (length (program_code program).instrs) checked coded
  pub fetches : FetchesRun ending (begin_fetches program + steps_fetches program input made)
      (step_fetches program input last) coded now
