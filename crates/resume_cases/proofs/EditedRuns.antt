-- `keep`, `make_under`, `elide`, `resume_run`: a run goes on to stand while its tree is edited, and fits it again once
-- it is resumed.
use Rattle.std.specs.Prelude.{◌≡◌, refl, List, [], Option, Some, None, IfSome}
use Rattle.std.proofs.Common.{ap, sym, ◌∙◌, subst}
use Rattle.std.proofs.lemmas.List.Elements.{All-nil}
use Rattle.std.proofs.lemmas.Option.{none-some}
use Rattle.template_tree.specs.Programs.PlainTree.{PlainTree}
use Rattle.template_tree.specs.Programs.Tree.{IsTree}
use Rattle.tree_steps.specs.EditStep.{CameByEdits}
use Rattle.tree_steps.specs.EditStepLaws.{EditsFollow}
use Rattle.plcs_store.specs.declared.kept.Kept.{Kept}
use Rattle.plcs_store.specs.declared.refusal.ResumeRefusal.{ResumeRefusal}
use Rattle.plcs_store.specs.declared.run_state.Run.{Run}
use Rattle.plcs_store.specs.declared.undo.Undo.{Undo}
use Rattle.plcs_store.specs.Configuration.{PlainConfiguration, plain_configuration}
use Rattle.plcs_store.specs.Fits.{Fits}
use Rattle.plcs_store.specs.Resume.{resolved}
use Rattle.suspend_state.specs.Suspension.{Keeps, KeepsBeside}
use Rattle.back_steps.specs.EarlierConfigurations.{KeepsRunLimits}
use Rattle.resume_rule.specs.ResumeAnswer.{IsResumeAnswer}
use Rattle.resume_rule.specs.ResumeLaws.{EditedRunsFit, FittingRunsResolved}
use Rattle.resume_cases.specs.Private.BenchRun.{FitsUnedited, FittedEarlier, HasKept, StandsBy}
use Rattle.resume_cases.proofs.NotedRuns.{same_run}

-- ---- what is kept

-- a tree came from itself, by no edit
by_none : (tree : PlainTree) → CameByEdits tree tree
by_none tree = (0, record { items = refl; drawn = refl })

-- once a run keeps something it fitted the tree of which that is
pub has_kept : (tree : PlainTree) (undos : List Undo) (old new : Run) → IsTree tree
    → StandsBy old.kept tree undos (plain_configuration old.state) → Keeps tree.items old new → HasKept tree new
has_kept tree undos old new is_tree stands keeps = by old.kept refl stands keeps
  where
    by : (before : Option Kept) → old.kept ≡ before → StandsBy before tree undos (plain_configuration old.state)
        → KeepsBeside before tree.items old new → HasKept tree new
    by None is unedited (kept, same, of) =
        record {
          kept = kept;
          is = ap (λ (run : Run). run.kept) same;
          fitted =
              subst (λ (run : Run). FittedEarlier tree kept (plain_configuration run.state)) (sym same)
              record { earlier = tree; is_tree = is_tree; came = by_none tree; fitted = unedited.fits; kept_of = of };
        }
    by (Some kept) is edited same =
        record {
          kept = kept;
          is = ap (λ (run : Run). run.kept) same ∙ is;
          fitted = subst (λ (run : Run). FittedEarlier tree kept (plain_configuration run.state)) (sym same) edited.0;
        }

-- to keep changes neither the configuration nor the room for operands
pub keeps_state : (tree : PlainTree) (old new : Run) → Keeps tree.items old new → new.state ≡ old.state
keeps_state tree old new keeps = by old.kept keeps
  where
    by : (before : Option Kept) → KeepsBeside before tree.items old new → new.state ≡ old.state
    by None (kept, same, of) = ap (λ (run : Run). run.state) same
    by (Some kept) same = ap (λ (run : Run). run.state) same

-- an edit leaves what is kept
pub kept_on : (tree later : PlainTree) (run : Run) → EditsFollow → IsTree later → CameByEdits tree later → HasKept tree run
    → HasKept later run
kept_on tree later run follow is_tree came has =
    let before = has.fitted in
    record {
      kept = has.kept;
      is = has.is;
      fitted =
          record {
            earlier = before.earlier;
            is_tree = before.is_tree;
            came = follow before.earlier tree later is_tree before.came came;
            fitted = before.fitted;
            kept_of = before.kept_of;
          };
    }

-- a run that keeps something stands, without history
pub kept_stands : (tree : PlainTree) (undos : List Undo) (run : Run) → HasKept tree run → undos ≡ []
    → StandsBy run.kept tree undos (plain_configuration run.state)
kept_stands tree undos run has none =
    subst (λ (kept : Option Kept). StandsBy kept tree undos (plain_configuration run.state)) (sym has.is) (has.fitted, none)

-- where nothing was kept the run fits
pub fits_unedited : (kept : Option Kept) (tree : PlainTree) (undos : List Undo) (c : PlainConfiguration) → StandsBy kept tree undos c
    → kept ≡ None → FitsUnedited tree undos c
fits_unedited None tree undos c stands none = stands
fits_unedited (Some kept) tree undos c stands none = absurd (none-some kept (sym none))

-- ---- a run that is resumed

-- without history a run that fits stands
pub alone : (tree : PlainTree) (undos : List Undo) (c : PlainConfiguration) → undos ≡ [] → Fits tree.items c → FitsUnedited tree undos c
alone tree undos c none fits =
    subst (λ (us : List Undo). FitsUnedited tree us c) (sym none)
    record { fits = fits; able = All-nil KeepsRunLimits; before = All-nil (Fits tree.items) }

-- a run that may be resumed fits the tree where it goes on
pub resumed_fits : (kept : Option Kept) (tree : PlainTree) (undos : List Undo) (c d : PlainConfiguration) (answer : Option ResumeRefusal)
    → EditedRunsFit → FittingRunsResolved → IsTree tree → StandsBy kept tree undos c
    → IfSome kept (λ kept. IsResumeAnswer kept c tree.items answer) → answer ≡ None → d ≡ resolved tree.items c → FitsUnedited tree undos d
resumed_fits None tree undos c d answer edited unedited is_tree stands asked allowed goes =
    same_run tree undos c d stands (goes ∙ unedited tree.items c stands.fits)
resumed_fits (Some kept) tree undos c d answer edited unedited is_tree stands asked allowed goes =
    let before = stands.0 in
    let may = (asked None).1 (sym allowed) in
    alone tree undos d stands.1
    (subst (Fits tree.items) (sym goes)
    (edited before.earlier tree c kept before.is_tree is_tree before.came before.fitted before.kept_of may))
