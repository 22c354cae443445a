-- The steps by the code of a program, as those of the program without room.
use Rattle.std.specs.Prelude.{◌≡◌, ℕ, List, Some, IsSome}
use Rattle.template_tree.specs.Programs.PlainTree.{PlainTree, roomless_tree}
use Rattle.template_tree.specs.Programs.Tree.{IsTree}
use Rattle.plcs_store.specs.Configuration.{PlainConfiguration}
use Rattle.plcs_store.specs.Fits.{Fits}
use Rattle.plcs_store.specs.Step.{PlainStepAnswer, Step}
use Rattle.plcs_machine.specs.Exec.{Exec}
use Rattle.plcs_machine.specs.Fetched.{result_of}
use Rattle.synth_session.specs.ProgramCode.{code_of}

-- what fits a program has a step by its code, which is its step by the program alone, and after which it fits
pub record StepsOfProgram (tree : PlainTree) (input : List ℕ) (c : PlainConfiguration) : Type 0 where
  pub defined : IsSome (Exec (code_of tree) input c)
  pub same : result_of (Exec (code_of tree) input c) ≡ Step tree.items input c
  pub fit : (next : PlainConfiguration) → Step tree.items input c ≡ Some (PlainStepAnswer.stepped next)
      → Fits tree.items next

-- so it is for each tree, without room
abbrev pub StepsOfPrograms : Type 0
StepsOfPrograms =
    (tree : PlainTree) (input : List ℕ) (c : PlainConfiguration) → IsTree tree → Fits (roomless_tree tree).items c
    → StepsOfProgram (roomless_tree tree) input c
