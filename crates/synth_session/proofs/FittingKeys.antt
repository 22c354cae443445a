-- After a key in which the run goes on it fits the program: a new one does, and one that may be resumed does there.
use Rattle.std.proofs.Common.{◌≡◌, ℕ, Bool, true, false, if◌then◌else◌, List, Option, Some, None, option_map, is_some, refl, sym, subst}
use Rattle.std.specs.Prelude.{IfSome}
use Rattle.synth_outside.specs.Files.{FileMap}
use Rattle.template_tree.specs.Programs.PlainTree.{PlainTree}
use Rattle.template_tree.specs.Programs.Tree.{IsTree}
use Rattle.plcs_store.specs.declared.run_state.Run.{Run}
use Rattle.plcs_store.specs.declared.undo.Undo.{Undo}
use Rattle.edit_undo.specs.EarlierTree.{EarlierTree}
use Rattle.plcs_store.specs.Fits.{Fits}
use Rattle.plcs_store.specs.Resume.{MayResume, resolved}
use Rattle.plcs_store.specs.StepLaws.{NewRunsFit}
use Rattle.resume_rule.specs.ResumeLaws.{ResumedRunsFit, FittingRunsResolved}
use Rattle.synth_session.specs.declared.answer.Answer.{Answer}
use Rattle.synth_session.specs.declared.answer.Refusal.TheVariants as why
use Rattle.synth_session.specs.declared.key.Key.{Key}
use Rattle.synth_session.specs.KeyOutcome.{KeyOutcome, refusal_outcome}
use Rattle.synth_session.specs.KeyReply.{CanReply, Reply, Request}
use Rattle.synth_session.specs.KeyRequest.{request, run_request}
use Rattle.synth_session.specs.PlainRun.{PlainRun, is_ended}
use Rattle.synth_session.specs.PlainSession.{PlainSession}
use Rattle.synth_session.specs.Press.{RunningKeysFit, key_outcome, press, without_code_display}
use Rattle.synth_session.specs.RunCommands.{asked_outcome, going_outcome}
use Rattle.synth_session.specs.SessionView.{MayGoOn, plain_run}
use Rattle.synth_session.specs.Tick.{RunFits}
use Rattle.synth_session.proofs.RunningKeys.{key_has}
use Rattle.synth_session.proofs.TriedSteps.{HeldGoesOn}

-- the run that stands, if one does, may be asked whether it goes on, whether or not something is kept for it
abbrev pub GoesOnIfStands : PlainTree → List EarlierTree → Option PlainRun → Type 0
GoesOnIfStands tree earlier standing = IfSome standing (λ run. (is_kept : Bool) × MayGoOn tree earlier is_kept run)

pub held_goes : (tree : PlainTree) (earlier : List EarlierTree) (undos : List Undo) (held : Option Run) → HeldGoesOn tree earlier undos held
    → GoesOnIfStands tree earlier (option_map (plain_run tree.items undos) held)
held_goes tree earlier undos None goes = tt
held_goes tree earlier undos (Some run) goes = (is_some run.kept, goes)

module _ (begins : NewRunsFit) (edited : ResumedRunsFit) (resolves : FittingRunsResolved) where
  -- a run that may be resumed fits where it goes on
  resumed_fits : (tree : PlainTree) → IsTree tree → (earlier : List EarlierTree) (is_kept : Bool) (run : PlainRun)
      → MayGoOn tree earlier is_kept run
      → MayResume run.kept run.configuration tree.items None → Fits tree.items (resolved tree.items run.configuration)
  resumed_fits tree is_tree earlier true run goes may =
      let stood = goes.stood refl in
      edited stood.before tree run.configuration run.kept stood.is_tree is_tree stood.agrees stood.fits stood.kept may
  resumed_fits tree is_tree earlier false run goes may =
      subst (Fits tree.items) (sym (resolves tree.items run.configuration (goes.unkept refl))) (goes.unkept refl)

  module _ (s : PlainSession) (is_tree : IsTree s.tree) (goes : GoesOnIfStands s.tree s.earlier s.run) (stored : Option FileMap) where
    -- where the run goes on, it fits
    abbrev FitsIfRunning : Reply → Request → KeyOutcome → Type 0
    FitsIfRunning reply asked outcome = CanReply stored asked reply → outcome.answer ≡ Answer.Running → RunFits outcome.after

    asked_fits : (steps : ℕ) (run : PlainRun) (is_kept : Bool) → MayGoOn s.tree s.earlier is_kept run → (reply : Reply)
        → FitsIfRunning reply (Request.Resume run.kept run.configuration s.tree) (asked_outcome s steps run reply)
    asked_fits steps run is_kept may Reply.NotAsked can is = absurd can
    asked_fits steps run is_kept may (Reply.Read standing) can is = absurd can
    asked_fits steps run is_kept may (Reply.Resumes None) can is = resumed_fits s.tree is_tree s.earlier is_kept run may can
    asked_fits steps run is_kept may (Reply.Resumes (Some refusal)) can is = absurd (cc)
    asked_fits steps run is_kept may Reply.Saved can is = absurd can
    asked_fits steps run is_kept may (Reply.Loaded tree) can is = absurd can
    asked_fits steps run is_kept may (Reply.Refused refusal) can is = absurd can

    going_fits : (steps : ℕ) (run : PlainRun) (reply : Reply) (is_kept : Bool) → MayGoOn s.tree s.earlier is_kept run → (ended : Bool)
        → FitsIfRunning reply (if ended then Request.Nothing else Request.Resume run.kept run.configuration s.tree)
        (if ended then refusal_outcome s why.RunEnded else asked_outcome s steps run reply)
    going_fits steps run reply is_kept may true can is = absurd (cc)
    going_fits steps run reply is_kept may false can is = asked_fits steps run is_kept may reply can is

    goes_on_fits : (reply : Reply) (steps : ℕ) (run : PlainRun) → s.run ≡ Some run
        → FitsIfRunning reply (run_request s.tree (Some run)) (going_outcome s steps run reply)
    goes_on_fits reply steps run is =
        let may = subst (GoesOnIfStands s.tree s.earlier) is goes in
        going_fits steps run reply may.0 may.1 (is_ended run.reason)

    key_fits : (reply : Reply) (key : Key) → FitsIfRunning reply (request s key) (key_outcome s key reply)
    key_fits reply key =
        key_has s reply (FitsIfRunning reply) (λ asked outcome still can is. absurd (still.other is)) (λ steps can is. begins s.tree is_tree)
        (goes_on_fits reply) key

  -- the law
  pub running_keys_fit : (s : PlainSession) → IsTree s.tree → GoesOnIfStands s.tree s.earlier s.run → RunningKeysFit s
  unfolding press
  running_keys_fit s is_tree goes key reply stored = key_fits (without_code_display s) is_tree goes stored reply key
