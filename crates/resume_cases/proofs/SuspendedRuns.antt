-- `begun`, `is_stepped`, `is_taken_back`, `make_under`, `elide_under`, `resume_run`: how a run goes on to stand.
use Rattle.std.specs.Prelude.{◌≡◌, ℕ, List, [], ◌∷◌, take, Option, Some, None, IfSome, IsSome, OnErr, OnOk, Result, Ok, Err}
use Rattle.std.proofs.Common.{ap, sym, ◌∙◌, subst}
use Rattle.std.proofs.Math.Bool.{false≢true}
use Rattle.template_tree.specs.Edits.Elision.{with_toggled_at}
use Rattle.template_tree.specs.Programs.PlainTree.{PlainTree}
use Rattle.template_tree.specs.Programs.Tree.{IsTree}
use Rattle.tree_steps.specs.EditStep.{CameByEdits}
use Rattle.tree_steps.specs.EditStepLaws.{EditsFollow, TogglesAreNoEdits}
use Rattle.plcs_store.specs.declared.kept.Kept.{Kept}
use Rattle.plcs_store.specs.declared.operands.Operands.{Operands}
use Rattle.plcs_store.specs.declared.refusal.ResumeRefusal.{ResumeRefusal}
use Rattle.plcs_store.specs.declared.run_state.RunState.{RunState}
use Rattle.plcs_store.specs.declared.undo.Undo.{Undo}
use Rattle.plcs_store.specs.Configuration.{plain_configuration}
use Rattle.plcs_store.specs.Fits.{Fits}
use Rattle.plcs_store.specs.Resume.{resolved}
use Rattle.plcs_store.specs.Undone.{step_undone}
use Rattle.plcs_machine.specs.declared.step_answer.StepAnswer.{StepAnswer}
use Rattle.back_steps.specs.EarlierConfigurations.{CanGoBack, GoesBack, KeepsRunLimits, configurations_before}
use Rattle.back_steps.specs.Limit.{most_records}
use Rattle.resume_rule.specs.ResumeAnswer.{HasEntries, IsResumeAnswer}
use Rattle.resume_rule.specs.ResumeLaws.{EditedRunsFit, FittingRunsResolved, KeptHasEntries}
use Rattle.resume_cases.specs.declared.suspended.Suspended.{Suspended}
use Rattle.resume_cases.specs.Private.BenchRun.{FitsUnedited, HasKept, IsBetweenSteps, IsTried, KeepsSuspended, SuspendedIn, StandsBy}
use Rattle.resume_cases.proofs.NotedRuns.{gone_back, noted, same_run}
use Rattle.resume_cases.proofs.EditedRuns.{alone, fits_unedited, kept_on, kept_stands, resumed_fits}

-- a run for which nothing is kept stands by what it fits
by_fit : (tree : PlainTree) (suspended : Suspended) → suspended.run.kept ≡ None → IsBetweenSteps suspended.run.state
    → FitsUnedited tree suspended.history (plain_configuration suspended.run.state) → SuspendedIn tree suspended
by_fit tree suspended none ready fits =
    record {
      ready = ready;
      stands =
          subst (λ (kept : Option Kept). StandsBy kept tree suspended.history (plain_configuration suspended.run.state)) (sym none) fits;
    }

-- and so it fits where it stands
pub unedited : (tree : PlainTree) (suspended : Suspended) → SuspendedIn tree suspended → suspended.run.kept ≡ None
    → FitsUnedited tree suspended.history (plain_configuration suspended.run.state)
unedited tree suspended stands none =
    fits_unedited suspended.run.kept tree suspended.history (plain_configuration suspended.run.state) stands.stands none

pub fits_where_it_stands : (tree : PlainTree) (suspended : Suspended) → SuspendedIn tree suspended → suspended.run.kept ≡ None
    → Fits tree.items (plain_configuration suspended.run.state)
fits_where_it_stands tree suspended stands none = (unedited tree suspended stands none).fits

-- a new run stands
pub begun_stands : (tree : PlainTree) (suspended : Suspended) → suspended.run.kept ≡ None → suspended.history ≡ []
    → IsBetweenSteps suspended.run.state → Fits tree.items (plain_configuration suspended.run.state) → SuspendedIn tree suspended
begun_stands tree suspended none nothing ready fits =
    by_fit tree suspended none ready (alone tree suspended.history (plain_configuration suspended.run.state) nothing fits)

-- a step that was made and noted
pub step_stands : (tree : PlainTree) (old new : Suspended) (undo : Undo) → SuspendedIn tree old → old.run.kept ≡ None → new.run.kept ≡ None
    → IsBetweenSteps new.run.state → Fits tree.items (plain_configuration new.run.state)
    → CanGoBack new.history (plain_configuration new.run.state)
    → configurations_before new.history (plain_configuration new.run.state)
    ≡ take most_records (plain_configuration old.run.state ∷ configurations_before old.history (plain_configuration old.run.state))
    → SuspendedIn tree new
step_stands tree old new undo stands none none_now ready fits able before =
    by_fit tree new none_now ready
    (noted tree old.history new.history (plain_configuration old.run.state) (plain_configuration new.run.state)
    (unedited tree old stands none) fits able before)

-- a step that was tried, made, and noted
pub made_stands : (tree : PlainTree) (old new : Suspended) (answer : StepAnswer) (undo : Undo) → SuspendedIn tree old
    → old.run.kept ≡ None → new.run.kept ≡ None → IsBetweenSteps new.run.state
    → IsTried tree answer (plain_configuration old.run.state) (plain_configuration new.run.state) undo → answer ≡ StepAnswer.Stepped
    → KeepsRunLimits (plain_configuration old.run.state)
    → (step_undone undo (plain_configuration new.run.state) ≡ plain_configuration old.run.state
    → configurations_before new.history (plain_configuration new.run.state)
    ≡ take most_records (plain_configuration old.run.state ∷ configurations_before old.history (plain_configuration old.run.state)))
    → (step_undone undo (plain_configuration new.run.state) ≡ plain_configuration old.run.state → KeepsRunLimits (plain_configuration old.run.state)
    → CanGoBack old.history (plain_configuration old.run.state) → CanGoBack new.history (plain_configuration new.run.state))
    → SuspendedIn tree new
made_stands tree old new answer undo stands none none_now ready tried is limits earlier able =
    let made = subst (λ (a : StepAnswer). IsTried tree a (plain_configuration old.run.state) (plain_configuration new.run.state) undo) is tried in
    step_stands tree old new undo stands none none_now ready made.0
    (able made.1 limits (unedited tree old stands none).able) (earlier made.1)

-- the room for operands is as before
pub same_room : (old new : RunState) → new.operands ≡ old.operands → IsBetweenSteps old → IsBetweenSteps new
same_room old new same ready =
    record {
      values = ap (λ (o : Operands). o.values) same ∙ ready.values;
      arguments = ap (λ (o : Operands). o.arguments) same ∙ ready.arguments;
    }

-- the room to go back is as before where nothing is kept
pub able_before : (tree : PlainTree) (suspended : Suspended) → SuspendedIn tree suspended → suspended.run.kept ≡ None
    → CanGoBack suspended.history (plain_configuration suspended.run.state)
able_before tree suspended stands none = (unedited tree suspended stands none).able

-- a step that wasn't made
pub still_stands : (tree : PlainTree) (old new : Suspended) → SuspendedIn tree old → old.run.kept ≡ None → new.run.kept ≡ None
    → IsBetweenSteps new.run.state → plain_configuration new.run.state ≡ plain_configuration old.run.state → new.history ≡ old.history
    → SuspendedIn tree new
still_stands tree old new stands none none_now ready same history =
    by_fit tree new none_now ready
    (subst (λ (undos : List Undo). FitsUnedited tree undos (plain_configuration new.run.state)) (sym history)
    (same_run tree old.history (plain_configuration old.run.state) (plain_configuration new.run.state) (unedited tree old stands none) same))

-- a step that was taken back
pub back_stands : (tree : PlainTree) (old new : Suspended) → SuspendedIn tree old → new.run.kept ≡ old.run.kept → IsBetweenSteps new.run.state
    → GoesBack old.history (plain_configuration old.run.state) new.history (plain_configuration new.run.state)
    → CanGoBack new.history (plain_configuration new.run.state) → SuspendedIn tree new
back_stands tree old new stands kept ready back able =
    record {
      ready = ready;
      stands =
          subst (λ (k : Option Kept). StandsBy k tree new.history (plain_configuration new.run.state)) (sym kept)
          (gone_back old.run.kept tree old.history new.history (plain_configuration old.run.state) (plain_configuration new.run.state)
          stands.stands back able);
    }

-- where a step is asked to be taken back, one is, or nothing is changed
pub went_back : {A E : Type 0} (tree : PlainTree) (old new : Suspended) (answer : Result A E) → SuspendedIn tree old
    → new.run.kept ≡ old.run.kept → new.run.state.operands ≡ old.run.state.operands
    → OnOk answer (GoesBack old.history (plain_configuration old.run.state) new.history (plain_configuration new.run.state))
    → OnOk answer (CanGoBack new.history (plain_configuration new.run.state))
    → OnErr answer ((new.history ≡ old.history) × (new.run.state ≡ old.run.state)) → SuspendedIn tree new
went_back tree old new (Ok done) stands kept operands back able refused =
    back_stands tree old new stands kept
    (same_room old.run.state new.run.state operands stands.ready) back able
went_back tree old new (Err fault) stands kept operands back able refused =
    record {
      ready = subst IsBetweenSteps (sym refused.1) stands.ready;
      stands =
          subst (λ (k : Option Kept). StandsBy k tree new.history (plain_configuration new.run.state)) (sym kept)
          (subst (λ (undos : List Undo). StandsBy old.run.kept tree undos (plain_configuration new.run.state)) (sym refused.0)
          (subst (λ (state : RunState). StandsBy old.run.kept tree old.history (plain_configuration state)) (sym refused.1) stands.stands));
    }

-- a run that keeps something is between two steps as before
pub still_ready : (tree : PlainTree) (old new : Suspended) → SuspendedIn tree old → KeepsSuspended old new → IsBetweenSteps new.run.state
still_ready tree old new stands same = subst IsBetweenSteps (sym same.state) stands.ready

-- a turned comment is no edit
pub turned : (tree later : PlainTree) (path : List ℕ) → TogglesAreNoEdits → later ≡ with_toggled_at path tree → CameByEdits tree later
turned tree later path law is = subst (CameByEdits tree) (sym is) (0, law tree path)

-- an edit that was made, once the history is let go of
pub edit_stands : (tree later : PlainTree) (suspended : Suspended) → EditsFollow → IsTree later → CameByEdits tree later
    → HasKept tree suspended.run → suspended.history ≡ [] → IsBetweenSteps suspended.run.state → SuspendedIn later suspended
edit_stands tree later suspended follow is_tree came has nothing ready =
    record { ready = ready; stands = kept_stands later suspended.history suspended.run (kept_on tree later suspended.run follow is_tree came has) nothing }

-- an edit that was refused, where nothing was kept before, and nothing is again
pub refused_stands : (tree later : PlainTree) (old new : Suspended) → SuspendedIn tree old → old.run.kept ≡ None → new.run.kept ≡ None
    → later ≡ tree → new.run.state ≡ old.run.state → new.history ≡ old.history → SuspendedIn later new
refused_stands tree later old new stands none none_now same state history =
    subst (λ (t : PlainTree). SuspendedIn t new) (sym same)
    (still_stands tree old new stands none none_now (subst IsBetweenSteps (sym state) stands.ready) (ap plain_configuration state) history)

-- where something was kept before there is no history
nothing_held : (tree : PlainTree) (suspended : Suspended) → SuspendedIn tree suspended → IsSome suspended.run.kept → suspended.history ≡ []
nothing_held tree suspended stands some = by suspended.run.kept some stands.stands
  where
    by : (kept : Option Kept) → IsSome kept → StandsBy kept tree suspended.history (plain_configuration suspended.run.state) → suspended.history ≡ []
    by None some fits = absurd (false≢true some)
    by (Some kept) some fits = fits.1

-- and where something was kept before
pub refused_kept : (tree later : PlainTree) (old new : Suspended) → SuspendedIn tree old → IsSome old.run.kept → later ≡ tree
    → HasKept tree new.run → new.run.state ≡ old.run.state → new.history ≡ old.history → SuspendedIn later new
refused_kept tree later old new stands some same has state history =
    subst (λ (t : PlainTree). SuspendedIn t new) (sym same)
    record {
      ready = subst IsBetweenSteps (sym state) stands.ready;
      stands = kept_stands tree new.history new.run has (history ∙ nothing_held tree old stands some);
    }

-- something is kept for each frame of a run that stands
pub entries : (tree : PlainTree) (suspended : Suspended) → KeptHasEntries → SuspendedIn tree suspended
    → IfSome suspended.run.kept (HasEntries (plain_configuration suspended.run.state))
entries tree suspended law stands = by suspended.run.kept stands.stands
  where
    by : (kept : Option Kept) → StandsBy kept tree suspended.history (plain_configuration suspended.run.state)
        → IfSome kept (HasEntries (plain_configuration suspended.run.state))
    by None fits = tt
    by (Some kept) fits =
        let before = fits.0 in law before.earlier.items (plain_configuration suspended.run.state) kept before.fitted before.kept_of

-- a run that is resumed
pub resumed_stands : (tree : PlainTree) (old new : Suspended) (answer : Option ResumeRefusal) → EditedRunsFit → FittingRunsResolved
    → IsTree tree → SuspendedIn tree old → IfSome old.run.kept (λ kept. IsResumeAnswer kept (plain_configuration old.run.state) tree.items answer)
    → answer ≡ None → new.run.kept ≡ None → IsBetweenSteps new.run.state → new.history ≡ old.history
    → plain_configuration new.run.state ≡ resolved tree.items (plain_configuration old.run.state) → SuspendedIn tree new
resumed_stands tree old new answer edited resolves is_tree stands asked allowed none ready history goes =
    by_fit tree new none ready
    (subst (λ (undos : List Undo). FitsUnedited tree undos (plain_configuration new.run.state)) (sym history)
    (resumed_fits old.run.kept tree old.history (plain_configuration old.run.state) (plain_configuration new.run.state) answer edited resolves
    is_tree stands.stands asked allowed goes))
