-- Runs of a tree by its code: they begin, have a step, and what they step to fits the tree again.
use Rattle.std.specs.Prelude.{◌≡◌, refl, ℕ, List, [], Option, Some, None, IsSome, is_some}
use Rattle.std.proofs.Common.{ap, sym, ◌∙◌, subst}
use Rattle.std.proofs.Math.Bool.{false≢true}
use Rattle.std.proofs.lemmas.Option.{same_Some}
use Rattle.plcs_code.specs.Gen.{PlainCode}
use Rattle.plcs_machine.specs.declared.step_answer.StepAnswer.{StepAnswer}
use Rattle.plcs_machine.specs.Enter.{Enter}
use Rattle.plcs_machine.specs.Exec.{Exec}
use Rattle.plcs_machine.specs.Fetched.{Fetched, result_of}
use Rattle.plcs_machine.specs.MachineLaws.{CodeBeginsAsTree, CodeStepsAsTree, FittingRunsExec}
use Rattle.plcs_machine.specs.StepMade.{MakesFrame, StepChanges, step_answered}
use Rattle.plcs_store.specs.declared.run_state.RunState.{RunState}
use Rattle.plcs_store.specs.declared.undo.Undo.{Undo}
use Rattle.plcs_store.specs.Configuration.{PlainConfiguration, plain_configuration}
use Rattle.plcs_store.specs.Fits.{Fits}
use Rattle.plcs_store.specs.NewFrame.{First}
use Rattle.plcs_store.specs.Step.{PlainStepAnswer, Step}
use Rattle.plcs_store.specs.StepLaws.{NewRunsFit, StepsKeepFit}
use Rattle.template_tree.specs.Programs.PlainTree.{PlainTree}
use Rattle.template_tree.specs.Programs.Tree.{IsTree}
use Rattle.program_run.specs.RunEnding.{CallsInStep}
use Rattle.program_run.specs.Private.ProgramCode.{IsCodeOf}
use Rattle.program_run.specs.Private.SteppedRun.{HasBegun, RunStands}

-- what has a result is there
has_result : {A : Type 0} (fetched : Option (Fetched A)) (result : A) → result_of fetched ≡ Some result → IsSome fetched
has_result None result is = absurd (false≢true (ap (λ o. is_some o) is))
has_result (Some fetched) result is = refl

-- the new run by the code of a tree is that of the tree
first_of : (tree : PlainTree) (code : PlainCode) → CodeBeginsAsTree → IsTree tree → (is : IsCodeOf tree code)
    → result_of (Enter code) ≡ Some (First tree.items)
first_of tree code law is_tree is =
    ap (λ (generated : PlainCode). result_of (Enter generated)) is.generated ∙ law tree is.marks is.items is_tree is.marks_tell is.items_tell

-- a run by the code of a tree begins
pub begins : (tree : PlainTree) (code : PlainCode) → CodeBeginsAsTree → IsTree tree → IsCodeOf tree code → IsSome (Enter code)
begins tree code law is_tree is = has_result (Enter code) (First tree.items) (first_of tree code law is_tree is)

-- what the new run of a tree is in
pub begun : (tree : PlainTree) (code : PlainCode) (state : RunState) → CodeBeginsAsTree → NewRunsFit → IsTree tree → IsCodeOf tree code
    → result_of (Enter code) ≡ Some (plain_configuration state) → (state.operands.values ≡ []) × (state.operands.arguments ≡ []) → HasBegun tree state
begun tree code state law fit is_tree is result room =
    let same = same_Some (First tree.items) (plain_configuration state) (sym (first_of tree code law is_tree is) ∙ result) in
    record {
      first = sym same;
      stands = record { fits = subst (Fits tree.items) same (fit tree is_tree); values = room.0; arguments = room.1 };
    }

-- what fits a tree has a step by its code
pub has_step : (tree : PlainTree) (code : PlainCode) (input : List ℕ) (c : PlainConfiguration) → FittingRunsExec → IsTree tree → IsCodeOf tree code
    → Fits tree.items c → IsSome (Exec code input c)
has_step tree code input c law is_tree is fits =
    subst (λ (generated : PlainCode). IsSome (Exec generated input c)) (sym is.generated)
    (law tree is.marks is.items input c is_tree is.marks_tell is.items_tell fits)

-- the step by the code of a tree is that by the tree
pub steps_as_tree : (tree : PlainTree) (code : PlainCode) (input : List ℕ) (c : PlainConfiguration) (answer : PlainStepAnswer) → CodeStepsAsTree → IsTree tree
    → IsCodeOf tree code → Fits tree.items c → result_of (Exec code input c) ≡ Some answer → Step tree.items input c ≡ Some answer
steps_as_tree tree code input c answer law is_tree is fits result =
    sym
    (ap (λ (generated : PlainCode). result_of (Exec generated input c)) is.generated
    ∙ law tree is.marks is.items input c is_tree is.marks_tell is.items_tell fits)
    ∙ result

-- what a step answers leaves a configuration that fits the tree
fits_after : (tree : PlainTree) (input : List ℕ) (c d : PlainConfiguration) (answer : StepAnswer) (noted notes : Undo) → StepsKeepFit → IsTree tree
    → Fits tree.items c → Step tree.items input c ≡ Some (step_answered answer d) → StepChanges answer c d noted notes → Fits tree.items d
fits_after tree input c d StepAnswer.Stepped noted notes keep is_tree fits steps changes = keep tree input c d is_tree fits steps
fits_after tree input c d (StepAnswer.Stopped reason) noted notes keep is_tree fits steps changes = subst (Fits tree.items) (sym changes.0) fits
fits_after tree input c d StepAnswer.Ended noted notes keep is_tree fits steps changes = subst (Fits tree.items) (sym changes.0) fits

-- once a step was tried the run stands again
pub stands_after : (tree : PlainTree) (input : List ℕ) (old new : RunState) (answer : StepAnswer) (noted notes : Undo) → StepsKeepFit → IsTree tree
    → RunStands tree old → Step tree.items input (plain_configuration old) ≡ Some (step_answered answer (plain_configuration new))
    → StepChanges answer (plain_configuration old) (plain_configuration new) noted notes
    → (new.operands.values ≡ []) × (new.operands.arguments ≡ []) → RunStands tree new
stands_after tree input old new answer noted notes keep is_tree stands steps changes room =
    record {
      fits = fits_after tree input (plain_configuration old) (plain_configuration new) answer noted notes keep is_tree stands.fits steps changes;
      values = room.0;
      arguments = room.1;
    }

-- and so where memory ran out
pub stands_kept : (tree : PlainTree) (old new : RunState) → RunStands tree old → plain_configuration new ≡ plain_configuration old
    → (new.operands.values ≡ []) × (new.operands.arguments ≡ []) → RunStands tree new
stands_kept tree old new stands same room =
    record { fits = subst (Fits tree.items) (sym same) stands.fits; values = room.0; arguments = room.1 }

-- a step by the code that makes a frame is a call of the tree
pub calls_in_step : (tree : PlainTree) (code : PlainCode) (input : List ℕ) (c : PlainConfiguration) → CodeStepsAsTree → IsTree tree
    → IsCodeOf tree code → Fits tree.items c → MakesFrame (Exec code input c) c → CallsInStep c (Step tree.items input c)
calls_in_step tree code input c law is_tree is fits makes =
    record {
      called = makes.0;
      answered = steps_as_tree tree code input c (PlainStepAnswer.stepped makes.0) law is_tree is fits makes.1;
      frames = makes.2;
    }
