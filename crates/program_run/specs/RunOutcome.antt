-- What the run of a saved program comes to: the bytes that are written, by how it ends.
use Rattle.std.specs.Prelude.{◌≡◌, ◌⊎◌, ℕ, List, Option, Some, None}
use Rattle.std.specs.Io.KnownBytes.{Appends}
use Rattle.plcs_base.specs.Count.{Rose}
use Rattle.plcs_base.specs.PlainCounts.{PlainCounts}
use Rattle.synth_outside.specs.Files.{FileMap}
use Rattle.synth_outside.specs.Sink.{AppendsFront}
use Rattle.template_tree.specs.Programs.PlainTree.{Forest, PlainTree}
use Rattle.plcs_store.specs.Configuration.{PlainConfiguration}
use Rattle.plcs_store.specs.Step.{Step}
use Rattle.program_run.specs.declared.ending.Ending.{Ending}
use Rattle.program_run.specs.AskedRun.{PlainAskedRun}
use Rattle.program_run.specs.CountedRun.{CountsRun}
use Rattle.program_run.specs.ReachedConfiguration.{configuration_after}
use Rattle.program_run.specs.RunEnding.{EndsAs}
use Rattle.program_run.specs.RunFiles.{AreLoaded, IsInputRefused, IsProgramRefused}
use Rattle.program_run.specs.StoppedLine.{PlainStoppedLine, line_told}

-- ---- what is told from outside

-- what is told from outside of a run at a moment: the bytes that its output took, where it tells them, how often the
-- output wanted memory, and how much work is counted
pub record ToldRun : Type 0 where
  pub taken : Option (List ℕ)
  pub wants : ℕ
  pub counts : PlainCounts

-- what is told of a run whose output and counts are these
abbrev pub told_run : (taken : Option (List ℕ)) → (wants : ℕ) → (counts : PlainCounts) → ToldRun
told_run taken wants counts = record { taken = taken; wants = wants; counts = counts }

-- ---- the run

-- the run of a program over an input, with this limit of steps, ends so where so many steps reach this configuration,
-- and that is counted as its work
pub record Reaches (program : Forest) (input : List ℕ) (limit : ℕ) (ending : Ending) (last : PlainConfiguration)
    (before now : PlainCounts) : Type 0 where
  pub made : ℕ
  pub reached : configuration_after program input made ≡ Some last
  pub ends : EndsAs ending limit made last (Step program input last)
  pub counts : CountsRun program input ending made last before now

-- the run of a program ends so, all of its output is written, and the line of the listing at which it stands is told
pub record IsWhollyWritten (program : Forest) (input : List ℕ) (limit : ℕ) (ending : Ending)
    (line : Option PlainStoppedLine) (before now : ToldRun) : Type 0 where
  pub last : PlainConfiguration
  pub reaches : Reaches program input limit ending last before.counts now.counts
  pub output : Appends before.taken now.taken last.output
  pub wants : now.wants ≡ before.wants
  pub line_is : line ≡ line_told ending program last

-- the run of a program ends in some way, of its output a front is written, and no line is told
pub record IsPartlyWritten (program : Forest) (input : List ℕ) (limit : ℕ) (line : Option PlainStoppedLine)
    (before now : ToldRun) : Type 0 where
  pub own : Ending
  pub last : PlainConfiguration
  pub reaches : Reaches program input limit own last before.counts now.counts
  pub output : AppendsFront before.taken now.taken last.output
  pub line_is : line ≡ None

-- memory ran out before a run began: nothing of it is written or told
pub record IsUnwritten (line : Option PlainStoppedLine) (before now : ToldRun) : Type 0 where
  pub output : now.taken ≡ before.taken
  pub wants : now.wants ≡ before.wants
  pub line_is : line ≡ None

-- what the run of a program that was loaded comes to, by what is answered in the end. Memory may run out before it
-- begins, in a step, or in a write of its output, which counts that
abbrev pub RunsTo : (program : Forest) → (input : List ℕ) → (limit : ℕ) → Ending → Option PlainStoppedLine
    → (before now : ToldRun) → Type 0
RunsTo program input limit Ending.Ended line before now =
    IsWhollyWritten program input limit Ending.Ended line before now
RunsTo program input limit (Ending.Stopped reason) line before now =
    IsWhollyWritten program input limit (Ending.Stopped reason) line before now
RunsTo program input limit Ending.StepsMade line before now =
    IsWhollyWritten program input limit Ending.StepsMade line before now
RunsTo program input limit Ending.NoMemory line before now =
    IsUnwritten line before now
    ⊎ (IsWhollyWritten program input limit Ending.NoMemory line before now
    ⊎ (Rose before.wants now.wants × IsPartlyWritten program input limit line before now))
RunsTo program input limit Ending.WriteFault line before now =
    IsPartlyWritten program input limit line before now
RunsTo program input limit Ending.BadWords line before now = ⊥
RunsTo program input limit (Ending.ProgramRefused refusal) line before now = ⊥
RunsTo program input limit (Ending.InputRefused refusal) line before now = ⊥

-- ---- the run of what was loaded

-- what is asked for was loaded, and this is what its run comes to
pub record LoadedRunsTo (asked : PlainAskedRun) (stored : Option FileMap) (ending : Ending)
    (line : Option PlainStoppedLine) (before now : ToldRun) : Type 0 where
  pub tree : PlainTree
  pub input : List ℕ
  pub loaded : AreLoaded asked stored tree input
  pub runs : RunsTo tree.items input asked.steps ending line before now

-- a run wasn't begun since a file of it was refused: nothing is written, counted or told
abbrev pub IsNotBegun : (line : Option PlainStoppedLine) → (before now : ToldRun) → Type 0
IsNotBegun line before now = (line ≡ None) × (now ≡ before)

-- what the run that is asked for comes to, by what is answered in the end
abbrev pub ComesTo : PlainAskedRun → Option FileMap → Ending → Option PlainStoppedLine → (before now : ToldRun) → Type 0
ComesTo asked stored Ending.Ended line before now = LoadedRunsTo asked stored Ending.Ended line before now
ComesTo asked stored (Ending.Stopped reason) line before now =
    LoadedRunsTo asked stored (Ending.Stopped reason) line before now
ComesTo asked stored Ending.StepsMade line before now = LoadedRunsTo asked stored Ending.StepsMade line before now
ComesTo asked stored Ending.WriteFault line before now = LoadedRunsTo asked stored Ending.WriteFault line before now
ComesTo asked stored Ending.NoMemory line before now =
    IsUnwritten line before now ⊎ LoadedRunsTo asked stored Ending.NoMemory line before now
ComesTo asked stored Ending.BadWords line before now = ⊥
ComesTo asked stored (Ending.ProgramRefused refusal) line before now =
    IsProgramRefused asked stored refusal × IsNotBegun line before now
ComesTo asked stored (Ending.InputRefused refusal) line before now =
    IsInputRefused asked stored refusal × IsNotBegun line before now
