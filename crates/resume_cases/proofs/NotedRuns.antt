-- `is_stepped`, `stepped_back`: a step that was made is noted, and one that is taken back leads to what fitted.
use Rattle.std.specs.Prelude.{◌≡◌, refl, List, [], ◌∷◌, take, Option, Some, None}
use Rattle.std.specs.List.{All}
use Rattle.std.proofs.Common.{ap, sym, ◌∙◌, subst}
use Rattle.std.proofs.lemmas.List.Elements.{All-cons, All-head, All-nil, All-rest, All-same, All-take}
use Rattle.template_tree.specs.Programs.PlainTree.{PlainTree}
use Rattle.plcs_store.specs.declared.kept.Kept.{Kept}
use Rattle.plcs_store.specs.declared.undo.Undo.{Undo}
use Rattle.plcs_store.specs.Configuration.{PlainConfiguration}
use Rattle.plcs_store.specs.Fits.{Fits}
use Rattle.back_steps.specs.EarlierConfigurations.{CanGoBack, GoesBack, KeepsRunLimits, configurations_before}
use Rattle.back_steps.specs.Limit.{most_records}
use Rattle.resume_cases.specs.Private.BenchRun.{FitsUnedited, StandsBy}

-- a step that was made is noted
pub noted : (tree : PlainTree) (undos more : List Undo) (old new : PlainConfiguration) → FitsUnedited tree undos old → Fits tree.items new
    → CanGoBack more new → configurations_before more new ≡ take most_records (old ∷ configurations_before undos old)
    → FitsUnedited tree more new
noted tree undos more old new unedited fits able is =
    record {
      fits = fits;
      able = able;
      before =
          All-same (Fits tree.items) (configurations_before more new) (take most_records (old ∷ configurations_before undos old)) is
          (All-take (Fits tree.items) most_records (old ∷ configurations_before undos old)
          (All-cons (Fits tree.items) old (configurations_before undos old) unedited.fits unedited.before));
    }

-- where nothing was changed a run stands as before
pub same_run : (tree : PlainTree) (undos : List Undo) (old new : PlainConfiguration) → FitsUnedited tree undos old → new ≡ old
    → FitsUnedited tree undos new
same_run tree undos old new unedited is = subst (FitsUnedited tree undos) (sym is) unedited

-- whatever is kept, the history gives back what it holds
pub stands_able : (kept : Option Kept) (tree : PlainTree) (undos : List Undo) (c : PlainConfiguration) → StandsBy kept tree undos c
    → CanGoBack undos c
stands_able None tree undos c stands = stands.able
stands_able (Some kept) tree undos c stands = subst (λ (us : List Undo). CanGoBack us c) (sym stands.1) (All-nil KeepsRunLimits)

-- there is no step to take back where something is kept
no_step : (undos : List Undo) (left : List Undo) (c before : PlainConfiguration) → undos ≡ [] → GoesBack undos c left before → ⊥
no_step undos left c before none back = subst is_filled (sym back ∙ ap (λ (us : List Undo). configurations_before us c) none) tt
  where
    is_filled : List PlainConfiguration → Type 0
    is_filled [] = ⊥
    is_filled (c ∷ cs) = Unit {0}

-- a step that is taken back leads to what fitted
pub gone_back : (kept : Option Kept) (tree : PlainTree) (undos left : List Undo) (c before : PlainConfiguration)
    → StandsBy kept tree undos c → GoesBack undos c left before → CanGoBack left before → StandsBy kept tree left before
gone_back None tree undos left c before stands back able =
    let all = subst (All (Fits tree.items)) back stands.before in
    record {
      fits = All-head (Fits tree.items) before (configurations_before left before) all;
      able = able;
      before =
          All-rest (Fits tree.items) before (configurations_before left before) (before ∷ configurations_before left before) refl all;
    }
gone_back (Some kept) tree undos left c before stands back able = absurd (no_step undos left c before stands.1 back)
