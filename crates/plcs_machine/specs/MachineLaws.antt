-- The laws of the machine: the code of a tree begins and steps as the tree does.
use Rattle.std.specs.Prelude.{◌≡◌, ℕ, List, Some, IsSome}
use Rattle.plcs_base.specs.Mark.{MarkMap}
use Rattle.plcs_base.specs.Scope.{ItemMap}
use Rattle.template_tree.specs.Checks.ProgramMaps.{MarksTell, ScopeTells}
use Rattle.template_tree.specs.Programs.PlainTree.{PlainTree}
use Rattle.template_tree.specs.Programs.Tree.{IsTree}
use Rattle.plcs_code.specs.Gen.{Gen}
use Rattle.plcs_store.specs.Configuration.{PlainConfiguration}
use Rattle.plcs_store.specs.Fits.{Fits}
use Rattle.plcs_store.specs.NewFrame.{First}
use Rattle.plcs_store.specs.Step.{Step}
use Rattle.plcs_machine.specs.Enter.{Enter}
use Rattle.plcs_machine.specs.Exec.{Exec}
use Rattle.plcs_machine.specs.Fetched.{result_of}

-- the code of a tree, by the tree's own items, begins a run, and that is the new run of the tree
abbrev pub CodeBeginsAsTree : Type 0
CodeBeginsAsTree =
    (tree : PlainTree) (marks : MarkMap) (items : ItemMap) → IsTree tree → MarksTell marks tree.items
    → ScopeTells items tree.items
    → result_of (Enter (Gen marks items tree.items)) ≡ Some (First tree.items)

-- what fits a tree has a step by the code of the tree, with the tree's own marks and items
abbrev pub FittingRunsExec : Type 0
FittingRunsExec =
    (tree : PlainTree) (marks : MarkMap) (items : ItemMap) (input : List ℕ) (c : PlainConfiguration)
    → IsTree tree → MarksTell marks tree.items → ScopeTells items tree.items → Fits tree.items c
    → IsSome (Exec (Gen marks items tree.items) input c)

-- the step of what fits a tree by the code of the tree is its step by the tree alone
abbrev pub CodeStepsAsTree : Type 0
CodeStepsAsTree =
    (tree : PlainTree) (marks : MarkMap) (items : ItemMap) (input : List ℕ) (c : PlainConfiguration)
    → IsTree tree → MarksTell marks tree.items → ScopeTells items tree.items → Fits tree.items c
    → result_of (Exec (Gen marks items tree.items) input c) ≡ Step tree.items input c
