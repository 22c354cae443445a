-- A step of a run that fits its program: the run that is held then fits it too.
use Rattle.std.proofs.Common.{◌≡◌, ℕ, ◌∷◌, take, List, Option, Some, None, is_some, sym, ap, subst, ◌∙◌}
use Rattle.std.proofs.Math.Bool.{false≢true}
use Rattle.std.proofs.lemmas.List.Elements.{All-cons, All-same, All-take}
use Rattle.template_tree.specs.Programs.PlainTree.{PlainTree, roomless_tree}
use Rattle.template_tree.specs.Programs.Tree.{IsTree}
use Rattle.plcs_store.specs.declared.reason.RunReason.{RunReason}
use Rattle.plcs_store.specs.declared.run_state.Run.{Run}
use Rattle.plcs_store.specs.declared.undo.Undo.{Undo}
use Rattle.edit_undo.specs.EarlierTree.{EarlierTree}
use Rattle.plcs_store.specs.Configuration.{PlainConfiguration, plain_configuration}
use Rattle.plcs_store.specs.Fits.{Fits}
use Rattle.plcs_store.specs.Step.{PlainStepAnswer}
use Rattle.plcs_code.specs.Gen.{PlainCode}
use Rattle.plcs_machine.specs.Exec.{Exec}
use Rattle.plcs_machine.specs.Fetched.{result_of}
use Rattle.back_steps.specs.EarlierConfigurations.{configurations_before}
use Rattle.back_steps.specs.Limit.{most_records}
use Rattle.synth_session.specs.ProgramCode.{code_of}
use Rattle.synth_session.specs.SessionView.{MayGoOn, plain_run}
use Rattle.synth_session.specs.Private.HeldRunKept.{MadeStep, TriesStep, TriesStepIfStands}
use Rattle.synth_session.specs.Private.ProgramSteps.{StepsOfPrograms}
use Rattle.synth_session.proofs.TriedSteps.{HeldFits, HeldGoesOn}

module _ (laws : StepsOfPrograms) (tree : PlainTree) (is_tree : IsTree tree) (code : PlainCode) (is_code : code ≡ code_of (roomless_tree tree))
    (input : List ℕ) (undos_old undos_new : List Undo) where
  -- what was made of it by the code fits
  next_fits : (c next : PlainConfiguration) → Fits (roomless_tree tree).items c
      → result_of (Exec code input c) ≡ Some (PlainStepAnswer.stepped next) → Fits (roomless_tree tree).items next
  next_fits c next fits answered =
      let steps = laws tree input c is_tree fits in
      steps.fit next (sym steps.same ∙ ap (λ (k : PlainCode). result_of (Exec k input c)) (sym is_code) ∙ answered)

  -- a run of which a step was made goes on, and back
  stepped_goes_on : (old now : Run) → MadeStep undos_old undos_new old now → Fits (roomless_tree tree).items (plain_configuration old.state)
      → Fits (roomless_tree tree).items (plain_configuration now.state)
      → (earlier : List EarlierTree) → MayGoOn (roomless_tree tree) earlier (is_some old.kept) (plain_run (roomless_tree tree).items undos_old old)
      → MayGoOn (roomless_tree tree) earlier (is_some now.kept) (plain_run (roomless_tree tree).items undos_new now)
  stepped_goes_on old now made before after earlier fits =
      let held = configurations_before undos_old (plain_configuration old.state) in
      record {
        unkept = λ is. after;
        stood = λ is. absurd (false≢true (ap is_some (sym made.dropped) ∙ is));
        earlier =
            All-same (Fits (roomless_tree tree).items) (configurations_before undos_new (plain_configuration now.state))
            (take most_records (plain_configuration old.state ∷ held)) made.earlier
            (All-take (Fits (roomless_tree tree).items) most_records (plain_configuration old.state ∷ held)
            (All-cons (Fits (roomless_tree tree).items) (plain_configuration old.state) held before fits.earlier));
        with_earlier = λ is. after;
      }

  -- `stays_fit` of try_step, where a step is made
  pub made_fits : (old new : Option Run) → TriesStepIfStands (λ c. result_of (Exec code input c)) undos_old undos_new old new None
      → HeldFits (roomless_tree tree).items undos_old old → HeldFits (roomless_tree tree).items undos_new new
  made_fits None new tries fits = absurd tries
  made_fits (Some run) new tries fits =
      subst (HeldFits (roomless_tree tree).items undos_new) (sym tries.1)
      (next_fits (plain_configuration run.state) (plain_configuration tries.0.state) fits tries.2.0)

  -- `fits` of try_step, where a step is made
  pub made_goes_on : (old new : Option Run) → TriesStepIfStands (λ c. result_of (Exec code input c)) undos_old undos_new old new None
      → HeldFits (roomless_tree tree).items undos_old old → (earlier : List EarlierTree) → HeldGoesOn (roomless_tree tree) earlier undos_old old
      → HeldGoesOn (roomless_tree tree) earlier undos_new new
  made_goes_on None new tries fits earlier goes_on = absurd tries
  made_goes_on (Some run) new tries fits earlier goes_on =
      subst (HeldGoesOn (roomless_tree tree) earlier undos_new) (sym tries.1)
      (stepped_goes_on run tries.0 tries.2.1 fits
      (next_fits (plain_configuration run.state) (plain_configuration tries.0.state) fits tries.2.0) earlier goes_on)

-- ---- a step that isn't made

module _ (undos_old undos_new : List Undo) (reason : RunReason) where
  -- the run is as it was
  same_by : (answer : Option PlainStepAnswer) (old now : Run) → TriesStep undos_old undos_new old now answer (Some reason)
      → (now ≡ old) × (undos_new ≡ undos_old)
  same_by None old now tries = absurd tries
  same_by (Some (PlainStepAnswer.stepped next)) old now tries = absurd tries
  same_by (Some (PlainStepAnswer.stopped why)) old now tries = (tries.1, tries.2)
  same_by (Some PlainStepAnswer.ended) old now tries = (tries.1, tries.2)

  same_held : (answer : PlainConfiguration → Option PlainStepAnswer) (old new : Option Run)
      → TriesStepIfStands answer undos_old undos_new old new (Some reason) → (new ≡ old) × (undos_new ≡ undos_old)
  same_held answer None new tries = absurd tries
  same_held answer (Some run) new tries =
      let same = same_by (answer (plain_configuration run.state)) run tries.0 tries.2 in
      (tries.1 ∙ ap (λ (r : Run). Some r) same.0, same.1)

  -- whatever the held run fits, it fits still
  pub held_still : (P : List Undo → Option Run → Type 0) (answer : PlainConfiguration → Option PlainStepAnswer) (old new : Option Run)
      → TriesStepIfStands answer undos_old undos_new old new (Some reason) → P undos_old old → P undos_new new
  held_still P answer old new tries held =
      let same = same_held answer old new tries in
      subst (λ (u : List Undo). P u new) (sym same.1) (subst (P undos_old) (sym same.0) held)
