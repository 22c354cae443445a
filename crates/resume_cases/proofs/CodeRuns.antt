-- `begun`, `try_step`: a run by the code of a tree begins, has a step, and what it steps to fits the tree again.
use Rattle.std.specs.Prelude.{◌≡◌, refl, ℕ, List, Option, Some, None, IsSome, is_some}
use Rattle.std.proofs.Common.{ap, sym, ◌∙◌, subst}
use Rattle.std.proofs.Math.Bool.{false≢true}
use Rattle.std.proofs.lemmas.Option.{same_Some}
use Rattle.template_tree.specs.Programs.PlainTree.{PlainTree}
use Rattle.template_tree.specs.Programs.Tree.{IsTree}
use Rattle.plcs_code.specs.Gen.{PlainCode}
use Rattle.plcs_store.specs.declared.undo.Undo.{Undo}
use Rattle.plcs_store.specs.Configuration.{PlainConfiguration}
use Rattle.plcs_store.specs.Fits.{Fits}
use Rattle.plcs_store.specs.NewFrame.{First}
use Rattle.plcs_store.specs.Step.{Step}
use Rattle.plcs_store.specs.StepLaws.{NewRunsFit, StepsKeepFit}
use Rattle.plcs_machine.specs.declared.step_answer.StepAnswer.{StepAnswer}
use Rattle.plcs_machine.specs.Enter.{Enter}
use Rattle.plcs_machine.specs.Exec.{Exec}
use Rattle.plcs_machine.specs.Fetched.{Fetched, result_of}
use Rattle.plcs_machine.specs.MachineLaws.{CodeBeginsAsTree, CodeStepsAsTree, FittingRunsExec}
use Rattle.plcs_machine.specs.StepMade.{StepChanges, step_answered}
use Rattle.resume_cases.specs.Private.BenchRun.{IsTreesCode, IsTried}

-- what has a result is there
has_result : {A : Type 0} (fetched : Option (Fetched A)) (result : A) → result_of fetched ≡ Some result → IsSome fetched
has_result None result is = absurd (false≢true (ap (λ o. is_some o) is))
has_result (Some fetched) result is = refl

-- ---- a run that begins

first_of : (tree : PlainTree) (code : PlainCode) → CodeBeginsAsTree → IsTree tree → IsTreesCode tree code
    → result_of (Enter code) ≡ Some (First tree.items)
first_of tree code begins is_tree is =
    ap (λ (generated : PlainCode). result_of (Enter generated)) is.generated
    ∙ begins tree is.marks is.items is_tree is.marks_tell is.items_tell

pub begins : (tree : PlainTree) (code : PlainCode) → CodeBeginsAsTree → IsTree tree → IsTreesCode tree code → IsSome (Enter code)
begins tree code law is_tree is = has_result (Enter code) (First tree.items) (first_of tree code law is_tree is)

pub begun_fits : (tree : PlainTree) (code : PlainCode) (c : PlainConfiguration) → CodeBeginsAsTree → NewRunsFit → IsTree tree
    → IsTreesCode tree code → result_of (Enter code) ≡ Some c → Fits tree.items c
begun_fits tree code c law fit is_tree is result =
    subst (Fits tree.items) (same_Some (First tree.items) c (sym (first_of tree code law is_tree is) ∙ result)) (fit tree is_tree)

-- ---- a step

pub has_step : (tree : PlainTree) (code : PlainCode) (input : List ℕ) (c : PlainConfiguration) → FittingRunsExec → IsTree tree
    → IsTreesCode tree code → Fits tree.items c → IsSome (Exec code input c)
has_step tree code input c law is_tree is fits =
    subst (λ (generated : PlainCode). IsSome (Exec generated input c)) (sym is.generated)
    (law tree is.marks is.items input c is_tree is.marks_tell is.items_tell fits)

as_tree : (tree : PlainTree) (code : PlainCode) (input : List ℕ) (c : PlainConfiguration) → CodeStepsAsTree → IsTree tree
    → IsTreesCode tree code → Fits tree.items c → Step tree.items input c ≡ result_of (Exec code input c)
as_tree tree code input c law is_tree is fits =
    sym
    (ap (λ (generated : PlainCode). result_of (Exec generated input c)) is.generated
    ∙ law tree is.marks is.items input c is_tree is.marks_tell is.items_tell fits)

pub tried : (tree : PlainTree) (code : PlainCode) (input : List ℕ) (c d : PlainConfiguration) (answer : StepAnswer) (noted notes : Undo)
    → CodeStepsAsTree → StepsKeepFit → IsTree tree → IsTreesCode tree code → Fits tree.items c
    → result_of (Exec code input c) ≡ Some (step_answered answer d) → StepChanges answer c d noted notes
    → IsTried tree answer c d notes
tried tree code input c d StepAnswer.Stepped noted notes law keep is_tree is fits result changes =
    (keep tree input c d is_tree fits (as_tree tree code input c law is_tree is fits ∙ result), changes.0)
tried tree code input c d (StepAnswer.Stopped reason) noted notes law keep is_tree is fits result changes = changes.0
tried tree code input c d StepAnswer.Ended noted notes law keep is_tree is fits result changes = changes.0
