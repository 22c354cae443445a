-- The files of a run: what is loaded for it, or which of them is refused.
use Rattle.std.specs.Prelude.{◌≡◌, ◌≢◌, ◌⊎◌, ℕ, ◌≤◌, List, [], length, Option, Some, None, Ok}
use Rattle.synth_outside.specs.Cause.{RisesWith}
use Rattle.synth_outside.specs.Files.{FileMap, NewContent, PlainFiles}
use Rattle.template_tree.specs.Programs.PlainTree.{PlainTree}
use Rattle.template_tree.specs.Programs.Tree.{IsTree}
use Rattle.file_store.specs.declared.refusal.FileRefusal.{FileRefusal}
use Rattle.file_store.specs.FileReading.{Holds, IsFileRefused, IsLoadRefused, LoadingSays}
use Rattle.file_store.specs.Limit.{longest_input}
use Rattle.file_store.specs.Want.{MayRiseWith}
use Rattle.program_run.specs.declared.ending.Ending.{Ending}
use Rattle.program_run.specs.AskedRun.{PlainAskedRun}

-- ---- what is loaded

-- the input of a run is what the file of the name holds, where the map is told, and no more than it may be; without a
-- file it is empty
abbrev pub IsInputOf : Option FileMap → (name : Option (List ℕ)) → (input : List ℕ) → Type 0
IsInputOf stored None input = input ≡ []
IsInputOf stored (Some name) input = Holds stored name (λ x. x ≡ input) × (length input ≤ longest_input)

-- the tree and the input are those of the run that is asked for: where the map is told, the program's file is the
-- listing of the tree, whose slots are drawn from 0 in listing order
pub record AreLoaded (asked : PlainAskedRun) (stored : Option FileMap) (tree : PlainTree)
    (input : List ℕ) : Type 0 where
  pub listing : LoadingSays stored asked.program (Ok tree)
  pub is_tree : IsTree tree
  pub input_is : IsInputOf stored asked.input input

-- ---- what is refused

-- the program of the run that is asked for is refused for this
pub record IsProgramRefused (asked : PlainAskedRun) (stored : Option FileMap) (refusal : FileRefusal) : Type 0 where
  pub why : IsLoadRefused stored asked.program refusal
  pub not_memory : refusal ≢ FileRefusal.OutOfMemory

-- the input of the run is refused for this that has the name; without a file none is
abbrev pub IsInputNameRefused : Option FileMap → (name : Option (List ℕ)) → FileRefusal → Type 0
IsInputNameRefused stored None refusal = ⊥
IsInputNameRefused stored (Some name) refusal = IsFileRefused longest_input stored name refusal

-- the input of the run that is asked for is refused for this; the program, which is loaded before it, isn't
pub record IsInputRefused (asked : PlainAskedRun) (stored : Option FileMap) (refusal : FileRefusal) : Type 0 where
  pub tree : PlainTree
  pub listing : LoadingSays stored asked.program (Ok tree)
  pub why : IsInputNameRefused stored asked.input refusal
  pub not_memory : refusal ≢ FileRefusal.OutOfMemory

-- ---- what the calls on files did

-- the file of a run's program or of its input is refused since a call on the files failed, and the run ends so
abbrev pub IsFileFault : Ending → Type 0
IsFileFault ending =
    (ending ≡ Ending.ProgramRefused FileRefusal.FileFault) ⊎ (ending ≡ Ending.InputRefused FileRefusal.FileFault)

-- for a run files were only read: the map and what is begun are as before, the count of faults rises where a call
-- failed and it is told so, and that of wants at most where want of memory is told
pub record OnlyLoads (failed wanted : Type 0) (before now : PlainFiles)
    (begun_before begun_now : Option NewContent) : Type 0 where
  pub stored : now.stored ≡ before.stored
  pub begun : begun_now ≡ begun_before
  pub faults : RisesWith failed before.faults now.faults
  pub wants : MayRiseWith wanted before.wants now.wants
