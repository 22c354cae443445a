-- Runs by the code of a program: they begin, have a step, and what they step to is of such a run again.
use Rattle.std.specs.Prelude.{◌≡◌, refl, ℕ, List, [], ◌∷◌, take, Option, Some, None, IsSome, is_some}
use Rattle.std.proofs.Common.{ap, sym, ◌∙◌, subst}
use Rattle.std.proofs.Math.Bool.{false≢true}
use Rattle.std.proofs.lemmas.List.Elements.{All-cons, All-head, All-nil, All-same}
use Rattle.std.proofs.lemmas.Option.{same_Some}
use Rattle.plcs_code.specs.Gen.{PlainCode}
use Rattle.plcs_store.specs.declared.operands.Operands.{Operands}
use Rattle.plcs_store.specs.declared.run_state.RunState.{RunState}
use Rattle.plcs_store.specs.declared.undo.Undo.{Undo}
use Rattle.plcs_store.specs.Configuration.{PlainConfiguration, plain_configuration}
use Rattle.plcs_store.specs.Fits.{Fits}
use Rattle.plcs_store.specs.NewFrame.{First}
use Rattle.plcs_store.specs.Step.{Step}
use Rattle.plcs_store.specs.StepLaws.{NewRunsFit, StepsKeepFit}
use Rattle.plcs_store.specs.Undone.{step_undone}
use Rattle.plcs_machine.specs.declared.step_answer.StepAnswer.{StepAnswer}
use Rattle.plcs_machine.specs.Enter.{Enter}
use Rattle.plcs_machine.specs.Exec.{Exec}
use Rattle.plcs_machine.specs.Fetched.{Fetched, result_of}
use Rattle.plcs_machine.specs.MachineLaws.{CodeBeginsAsTree, CodeStepsAsTree, FittingRunsExec}
use Rattle.plcs_machine.specs.StepMade.{StepChanges, step_answered}
use Rattle.back_steps.specs.EarlierConfigurations.{GoesBack, KeepsRunLimits, configurations_before}
use Rattle.back_steps.specs.Limit.{most_records}
use Rattle.run_cases.specs.RunOfProgram.{HasSteps, IsProgramCode, IsRunOf, StandsByCode}

-- what has a result is there
has_result : {A : Type 0} (fetched : Option (Fetched A)) (result : A) → result_of fetched ≡ Some result → IsSome fetched
has_result None result is = absurd (false≢true (ap (λ o. is_some o) is))
has_result (Some fetched) result is = refl

-- the new run by the code is that of its program
first_of : (code : PlainCode) → CodeBeginsAsTree → (is : IsProgramCode code) → result_of (Enter code) ≡ Some (First is.tree.items)
first_of code begins is =
    ap (λ (generated : PlainCode). result_of (Enter generated)) is.generated
    ∙ begins is.tree is.marks is.items is.is_tree is.marks_tell is.items_tell

-- a run by the code begins
pub begins : (code : PlainCode) → CodeBeginsAsTree → IsProgramCode code → IsSome (Enter code)
begins code law is = has_result (Enter code) (First is.tree.items) (first_of code law is)

-- the room for operands is empty
abbrev HasRoom : RunState → Type 0
HasRoom state = (state.operands.values ≡ []) × (state.operands.arguments ≡ [])

-- what a new run by the code is in stands
pub begun : (code : PlainCode) (state : RunState) → CodeBeginsAsTree → NewRunsFit → IsProgramCode code
    → result_of (Enter code) ≡ Some (plain_configuration state) → HasRoom state → StandsByCode code state
begun code state law fit is result room =
    let first = First is.tree.items in
    let same = same_Some first (plain_configuration state) (sym (first_of code law is) ∙ result) in
    record {
      run = record { program = is; fits = subst (Fits is.tree.items) same (fit is.tree is.is_tree) };
      values = room.0;
      arguments = room.1;
    }

-- a run by the code has a step
pub has_step : (code : PlainCode) (input : List ℕ) (c : PlainConfiguration) → FittingRunsExec → IsRunOf code c → IsSome (Exec code input c)
has_step code input c law run =
    subst (λ (generated : PlainCode). IsSome (Exec generated input c)) (sym run.program.generated)
    (law run.program.tree run.program.marks run.program.items input c run.program.is_tree run.program.marks_tell
    run.program.items_tell run.fits)

-- the step of a run by the code is that by its program
as_tree : (code : PlainCode) (input : List ℕ) (c : PlainConfiguration) → CodeStepsAsTree → (run : IsRunOf code c)
    → Step run.program.tree.items input c ≡ result_of (Exec code input c)
as_tree code input c law run =
    sym
    (ap (λ (generated : PlainCode). result_of (Exec generated input c)) run.program.generated
    ∙ law run.program.tree run.program.marks run.program.items input c run.program.is_tree run.program.marks_tell
    run.program.items_tell run.fits)

-- what is so of a configuration is so of the same one
same_run : (code : PlainCode) (c d : PlainConfiguration) → d ≡ c → IsRunOf code c → IsRunOf code d
same_run code c d same run = subst (IsRunOf code) (sym same) run

-- what a run by the code is in after a step is of such a run
made : (code : PlainCode) (input : List ℕ) (c d : PlainConfiguration) (answer : StepAnswer) (noted notes : Undo) → CodeStepsAsTree
    → StepsKeepFit → IsRunOf code c → result_of (Exec code input c) ≡ Some (step_answered answer d) → StepChanges answer c d noted notes
    → IsRunOf code d
made code input c d StepAnswer.Stepped noted notes law keep run result changes =
    record {
      program = run.program;
      fits = keep run.program.tree input c d run.program.is_tree run.fits (as_tree code input c law run ∙ result);
    }
made code input c d (StepAnswer.Stopped reason) noted notes law keep run result changes = same_run code c d changes.0 run
made code input c d StepAnswer.Ended noted notes law keep run result changes = same_run code c d changes.0 run

-- once a step is tried the run stands again
pub stands_after : (code : PlainCode) (input : List ℕ) (old new : RunState) (answer : StepAnswer) (noted notes : Undo) → CodeStepsAsTree
    → StepsKeepFit → StandsByCode code old → result_of (Exec code input (plain_configuration old)) ≡ Some (step_answered answer (plain_configuration new))
    → StepChanges answer (plain_configuration old) (plain_configuration new) noted notes → HasRoom new → StandsByCode code new
stands_after code input old new answer noted notes law keep stands result changes room =
    record {
      run = made code input (plain_configuration old) (plain_configuration new) answer noted notes law keep stands.run result changes;
      values = room.0;
      arguments = room.1;
    }

-- and so where memory runs out
pub stands_kept : (code : PlainCode) (old new : RunState) → StandsByCode code old → plain_configuration new ≡ plain_configuration old → HasRoom new
    → StandsByCode code new
stands_kept code old new stands same room =
    record {
      run = same_run code (plain_configuration old) (plain_configuration new) same stands.run;
      values = room.0;
      arguments = room.1;
    }

-- ---- steps that are taken back

-- without records no step is taken back
pub no_steps : (code : PlainCode) (state : RunState) → HasSteps code [] state
no_steps code state = record { able = All-nil KeepsRunLimits; runs = All-nil (IsRunOf code) }

-- the record of a step that is made takes it back
takes_back : (old new : PlainConfiguration) (answer : StepAnswer) (noted notes : Undo) → answer ≡ StepAnswer.Stepped
    → StepChanges answer old new noted notes → step_undone notes new ≡ old
takes_back old new answer noted notes is changes = (subst (λ (some : StepAnswer). StepChanges some old new noted notes) is changes).0

-- that record alone, in a history, takes back the step of a run by the code
pub one_step : (code : PlainCode) (undos none : List Undo) (old new : RunState) (answer : StepAnswer) (noted notes : Undo) → none ≡ []
    → undos ≡ take most_records (notes ∷ none) → answer ≡ StepAnswer.Stepped
    → StepChanges answer (plain_configuration old) (plain_configuration new) noted notes → KeepsRunLimits (plain_configuration old) → StandsByCode code old
    → HasSteps code undos new
one_step code undos none old new answer noted notes empty records is changes limits stands =
    let before = step_undone notes (plain_configuration new) in
    let back = sym (takes_back (plain_configuration old) (plain_configuration new) answer noted notes is changes) in
    subst (λ (all : List Undo). HasSteps code all new) (sym (records ∙ ap (λ (others : List Undo). take most_records (notes ∷ others)) empty))
    record {
      able = All-cons KeepsRunLimits before [] (subst KeepsRunLimits back limits) (All-nil KeepsRunLimits);
      runs = All-cons (IsRunOf code) before [] (subst (IsRunOf code) back stands.run) (All-nil (IsRunOf code));
    }

-- once a step is taken back the run stands again
pub took_back : (code : PlainCode) (undos left : List Undo) (old new : RunState) → StandsByCode code old → HasSteps code undos old
    → GoesBack undos (plain_configuration old) left (plain_configuration new) → new.operands ≡ old.operands → StandsByCode code new
took_back code undos left old new stands steps goes operands =
    let before = plain_configuration new in
    let earlier = configurations_before left before in
    record {
      run =
          All-head (IsRunOf code) before earlier
          (All-same (IsRunOf code) (before ∷ earlier) (configurations_before undos (plain_configuration old)) (sym goes) steps.runs);
      values = ap (λ (room : Operands). room.values) operands ∙ stands.values;
      arguments = ap (λ (room : Operands). room.arguments) operands ∙ stands.arguments;
    }
