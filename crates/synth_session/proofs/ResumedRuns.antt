-- The run that a session holds, where it is to go on: whether it may is what was kept for it tells, and where it may it
-- fits the program at the place to which it is resolved. Where earlier configurations are held nothing was edited, so
-- that it stays there.
use Rattle.std.proofs.Common.{◌≡◌, ◌≢◌, ◌⊎◌, inl, inr, ℕ, Bool, true, false, if◌then◌else◌, List, [], ◌∷◌, Option, Some, None, Ok, refl, sym, ap, subst, ◌∙◌}
use Rattle.std.specs.Prelude.{IfSome, IsSome, is_some, option_map, unwrap_or}
use Rattle.std.specs.List.{All}
use Rattle.plcs_base.specs.PlainCounts.{PlainCounts}
use Rattle.template_tree.specs.Programs.PlainTree.{Forest, PlainTree, roomless_tree}
use Rattle.template_tree.specs.Programs.Tree.{IsTree}
use Rattle.plcs_store.specs.declared.kept.Kept.{Kept}
use Rattle.plcs_store.specs.declared.reason.RunReason.{RunReason}
use Rattle.plcs_store.specs.declared.refusal.ResumeRefusal.{ResumeRefusal}
use Rattle.plcs_store.specs.declared.run_state.Run.{Run}
use Rattle.plcs_store.specs.declared.undo.Undo.{Undo}
use Rattle.edit_undo.specs.EarlierTree.{EarlierTree}
use Rattle.plcs_store.specs.Configuration.{PlainConfiguration, plain_configuration}
use Rattle.plcs_store.specs.Fits.{Fits}
use Rattle.plcs_store.specs.Resume.{IsKeptOf, MayResume, UneditedResumes, kept_of, resolved}
use Rattle.plcs_store.specs.RunsAlike.{RunsIgnoreRoom}
use Rattle.back_steps.specs.EarlierConfigurations.{configurations_before}
use Rattle.suspend_state.specs.Suspension.{FittingRunsAreKept}
use Rattle.resume_rule.specs.ResumeAnswer.{HasEntries, IsResumeAnswer}
use Rattle.resume_rule.specs.ResumeLaws.{AnswersIgnoreRoom, ResumedRunsFit, FittingRunsResolved, KeptHasEntries}
use Rattle.synth_session.specs.KeyOutcome.{KeyOutcome, refusal_outcome}
use Rattle.synth_session.specs.declared.answer.Answer.{Answer}
use Rattle.synth_session.specs.declared.answer.Refusal.TheVariants as why
use Rattle.synth_session.specs.KeyReply.{CanReply, Reply, Request}
use Rattle.synth_session.specs.KeyRequest.{run_request}
use Rattle.synth_session.specs.PlainRun.{PlainRun, is_ended}
use Rattle.synth_session.specs.PlainSession.{PlainSession}
use Rattle.synth_session.specs.RunCommands.{asked_outcome, going_outcome, most_steps, resume_outcome, resumed_run}
use Rattle.synth_session.specs.Private.HeldRunKept.{CanBeAsked, GoesOn, GoesOnIfStands, StaysIfHeld}
use Rattle.synth_session.specs.SessionView.{CountsOutcome, MayGoOn, plain_run}
use Rattle.synth_session.proofs.CountedPrograms.{key_free}
use Rattle.synth_session.proofs.FittingRuns.{FitsHeld}

-- ---- what comes of a run that isn't over

-- it is asked whether it may go on
pub going_asked : (s : PlainSession) (steps : ℕ) (run : PlainRun) (reply : Reply) (P : KeyOutcome → Type 0) → is_ended run.reason ≡ false
    → P (asked_outcome s steps run reply) → P (going_outcome s steps run reply)
going_asked s steps run reply P goes h =
    subst P (sym (ap (λ (b : Bool). if b then refusal_outcome s why.RunEnded else asked_outcome s steps run reply) goes)) h

request_asked : (tree : PlainTree) (run : PlainRun) (answer : Option ResumeRefusal) → is_ended run.reason ≡ false
    → MayResume run.kept run.configuration tree.items answer → CanReply None (run_request tree (Some run)) (Reply.Resumes answer)
request_asked tree run answer goes may =
    subst (λ (b : Bool). CanReply None (if b then Request.Nothing else Request.Resume run.kept run.configuration tree) (Reply.Resumes answer))
    (sym goes) may

-- nothing is counted where it may not, or goes on
pub going_counts : (counts : PlainCounts) (s : PlainSession) (steps : ℕ) (run : PlainRun) (reply : Reply) (answer : Answer)
    → CountsOutcome (going_outcome s steps run reply) counts counts (Ok answer)
going_counts counts s steps run reply answer = by (is_ended run.reason) reply
  where
    by : (ended : Bool) (reply : Reply)
        → CountsOutcome (if ended then refusal_outcome s why.RunEnded else asked_outcome s steps run reply) counts counts (Ok answer)
    by true reply = key_free 0 0
    by false (Reply.Resumes None) = key_free 0 0
    by false (Reply.Resumes (Some refusal)) = key_free 0 0
    by false Reply.NotAsked = key_free 0 0
    by false (Reply.Read standing) = key_free 0 0
    by false Reply.Saved = key_free 0 0
    by false (Reply.Loaded tree) = key_free 0 0
    by false (Reply.Refused refusal) = key_free 0 0

-- nor where `.resume` finds one, or none
pub resumed_counts : (counts : PlainCounts) (s : PlainSession) (run : Option PlainRun) (reply : Reply) (answer : Answer)
    → CountsOutcome (resume_outcome s run reply) counts counts (Ok answer)
resumed_counts counts s None reply answer = key_free 0 0
resumed_counts counts s (Some run) reply answer = going_counts counts s (most_steps s.trace) run reply answer

-- what comes of the run that stands for a reason
pub standing_run : (program : Forest) (undos : List Undo) (held : Option Run) (reason : RunReason) (P : Option PlainRun → Type 0)
    → option_map (λ run. run.reason) held ≡ Some reason
    → ((run : PlainRun) → option_map (plain_run program undos) held ≡ Some run → P (Some run)) → P (option_map (plain_run program undos) held)
standing_run program undos None reason P stands h = absurd (cc)
standing_run program undos (Some run) reason P stands h = h (plain_run program undos run) refl

-- ---- the parts of a run

run_of : PlainConfiguration → RunReason → Kept → List PlainConfiguration → PlainRun
run_of c reason kept earlier = record { configuration = c; reason = reason; kept = kept; earlier = earlier }

same_run : (c d : PlainConfiguration) (one other : RunReason) (kept held : Kept) (earlier before : List PlainConfiguration)
    → c ≡ d → one ≡ other → kept ≡ held → earlier ≡ before → run_of c one kept earlier ≡ run_of d other held before
same_run c d one other kept held earlier before p q r s =
    ap (λ (x : PlainConfiguration). run_of x one kept earlier) p
    ∙ ap (λ (x : RunReason). run_of d x kept earlier) q
    ∙ ap (λ (x : Kept). run_of d other x earlier) r
    ∙ ap (λ (x : List PlainConfiguration). run_of d other held x) s

-- ---- the run that is held

-- the run that is held, if one is, is answered so, by what was kept for it
abbrev pub IsAnswered : (tree : PlainTree) → Option Run → Option ResumeRefusal → Type 0
IsAnswered tree held answer =
    IfSome held (λ run. IfSome run.kept (λ kept. IsResumeAnswer kept (plain_configuration run.state) tree.items answer))

-- where nothing was kept for it, that is a yes
abbrev pub GoesOnUnedited : Option Run → Option ResumeRefusal → Type 0
GoesOnUnedited held answer = IfSome held (λ run. run.kept ≡ None → answer ≡ None)

module _ (tree : PlainTree) (earlier : List EarlierTree) (undos : List Undo) (run : Run)
    (fits : MayGoOn (roomless_tree tree) earlier (is_some run.kept) (plain_run (roomless_tree tree).items undos run)) where
  -- what is kept for it has an entry for each frame
  has_entries : KeptHasEntries → (kept : Option Kept) → run.kept ≡ kept → IfSome kept (HasEntries (plain_configuration run.state))
  has_entries entries None same = tt
  has_entries entries (Some kept) same =
      let stood = fits.stood (ap is_some same) in
      let kept_there = subst (λ (k : Option Kept). IsKeptOf stood.before.items (plain_configuration run.state)
      (unwrap_or k (kept_of (roomless_tree tree).items (plain_configuration run.state)))) same stood.kept in
      entries stood.before.items (plain_configuration run.state) kept stood.fits kept_there

  -- it may be asked
  run_asked : RunsIgnoreRoom → KeptHasEntries → CanBeAsked tree.items run
  run_asked alike entries =
      record {
        unkept = λ none. ((alike tree.items).fits (plain_configuration run.state)).0 (fits.unkept (ap is_some none));
        kept = has_entries entries run.kept refl;
      }

  -- it stays where it is, if earlier configurations are held
  stays_by : RunsIgnoreRoom → FittingRunsResolved → (held : List Undo) → undos ≡ held
      → (held ≡ []) ⊎ (resolved tree.items (plain_configuration run.state) ≡ plain_configuration run.state)
  stays_by alike resolves [] same = inl refl
  stays_by alike resolves (undo ∷ held) same =
      let some : configurations_before undos (plain_configuration run.state) ≢ [] =
      subst (λ (u : List Undo). configurations_before u (plain_configuration run.state) ≢ []) (sym same) (λ none. absurd (cc)) in
      inr (resolves tree.items (plain_configuration run.state)
      (((alike tree.items).fits (plain_configuration run.state)).0 (fits.with_earlier some)))

  run_stays : RunsIgnoreRoom → FittingRunsResolved → StaysIfHeld tree.items undos run
  run_stays alike resolves = stays_by alike resolves undos refl

  -- it may go on by what is kept for it in its plain form
  may_resume : UneditedResumes → FittingRunsAreKept → AnswersIgnoreRoom → (answer : Option ResumeRefusal) (kept : Option Kept) → run.kept ≡ kept
      → IfSome kept (λ k. IsResumeAnswer k (plain_configuration run.state) tree.items answer) → (kept ≡ None → answer ≡ None)
      → MayResume (unwrap_or kept (kept_of (roomless_tree tree).items (plain_configuration run.state))) (plain_configuration run.state)
      (roomless_tree tree).items answer
  may_resume unedited are_kept ignore answer None same asked free =
      subst (MayResume (kept_of (roomless_tree tree).items (plain_configuration run.state)) (plain_configuration run.state) (roomless_tree tree).items)
      (sym (free refl))
      (unedited (roomless_tree tree).items (plain_configuration run.state) (kept_of (roomless_tree tree).items (plain_configuration run.state))
      (are_kept (roomless_tree tree).items (plain_configuration run.state) (fits.unkept (ap is_some same))))
  may_resume unedited are_kept ignore answer (Some kept) same asked free =
      (ignore tree.items (plain_configuration run.state) kept answer).1 ((asked answer).1 refl)

  run_may : UneditedResumes → FittingRunsAreKept → AnswersIgnoreRoom → (answer : Option ResumeRefusal) → IsAnswered tree (Some run) answer
      → GoesOnUnedited (Some run) answer
      → MayResume (plain_run (roomless_tree tree).items undos run).kept (plain_configuration run.state) (roomless_tree tree).items answer
  run_may unedited are_kept ignore answer asked free = may_resume unedited are_kept ignore answer run.kept refl asked free

  -- where it may, it fits the program once its place is resolved
  module _ (edited : ResumedRunsFit) (resolves : FittingRunsResolved) (is_tree : IsTree (roomless_tree tree))
      (may : MayResume (plain_run (roomless_tree tree).items undos run).kept (plain_configuration run.state) (roomless_tree tree).items None) where
    resolved_fits : (is_kept : Bool) → is_some run.kept ≡ is_kept
        → Fits (roomless_tree tree).items (resolved (roomless_tree tree).items (plain_configuration run.state))
    resolved_fits false same =
        let there = fits.unkept same in
        subst (Fits (roomless_tree tree).items) (sym (resolves (roomless_tree tree).items (plain_configuration run.state) there)) there
    resolved_fits true same =
        let stood = fits.stood same in
        edited stood.before (roomless_tree tree) (plain_configuration run.state) (plain_run (roomless_tree tree).items undos run).kept stood.is_tree is_tree
        stood.agrees stood.fits stood.kept may

    module _ (alike : RunsIgnoreRoom) (going : Run) (goes : GoesOn tree.items run going) where
      goes_there : plain_configuration going.state ≡ resolved (roomless_tree tree).items (plain_configuration run.state)
      goes_there = goes.configuration ∙ sym ((alike tree.items).goes_on (plain_configuration run.state))

      -- the earlier configurations are as before
      earlier_by : ((undos ≡ []) ⊎ (resolved tree.items (plain_configuration run.state) ≡ plain_configuration run.state))
          → configurations_before undos (plain_configuration going.state) ≡ configurations_before undos (plain_configuration run.state)
      earlier_by (inl none) =
          ap (λ (u : List Undo). configurations_before u (plain_configuration going.state)) none
          ∙ sym (ap (λ (u : List Undo). configurations_before u (plain_configuration run.state)) none)
      earlier_by (inr stays) = ap (configurations_before undos) (goes.configuration ∙ stays)

      earlier_same : configurations_before undos (plain_configuration going.state) ≡ configurations_before undos (plain_configuration run.state)
      earlier_same = earlier_by (run_stays alike resolves)

      fits_there : Fits (roomless_tree tree).items (plain_configuration going.state)
      fits_there = subst (Fits (roomless_tree tree).items) (sym goes_there) (resolved_fits (is_some run.kept) refl)

      -- so it may go on from there
      going_fits : MayGoOn (roomless_tree tree) earlier (is_some going.kept) (plain_run (roomless_tree tree).items undos going)
      going_fits =
          let none : is_some going.kept ≡ false = ap is_some goes.dropped in
          record {
            unkept = λ _. fits_there;
            stood = λ kept. absurd (cc);
            earlier = subst (All (Fits (roomless_tree tree).items)) (sym earlier_same) fits.earlier;
            with_earlier = λ _. fits_there;
          }

      -- and that is what the plain run goes on as
      going_plain : plain_run (roomless_tree tree).items undos going ≡ resumed_run (roomless_tree tree) (plain_run (roomless_tree tree).items undos run)
      unfolding run_of
      going_plain =
          same_run (plain_configuration going.state) (resolved (roomless_tree tree).items (plain_configuration run.state)) going.reason run.reason
          (unwrap_or going.kept (kept_of (roomless_tree tree).items (plain_configuration going.state)))
          (kept_of (roomless_tree tree).items (resolved (roomless_tree tree).items (plain_configuration run.state)))
          (configurations_before undos (plain_configuration going.state)) (configurations_before undos (plain_configuration run.state))
          goes_there goes.reason
          (ap (λ (k : Option Kept). unwrap_or k (kept_of (roomless_tree tree).items (plain_configuration going.state))) goes.dropped
          ∙ ap (kept_of (roomless_tree tree).items) goes_there)
          earlier_same

-- ---- the same, if one is held

module _ (tree : PlainTree) (earlier : List EarlierTree) (undos : List Undo) where
  pub held_asked : RunsIgnoreRoom → KeptHasEntries → (held : Option Run) → FitsHeld (roomless_tree tree) earlier undos held → IfSome held (CanBeAsked tree.items)
  held_asked alike entries None fits = tt
  held_asked alike entries (Some run) fits = run_asked tree earlier undos run fits alike entries

  pub held_stays : RunsIgnoreRoom → FittingRunsResolved → (held : Option Run) → FitsHeld (roomless_tree tree) earlier undos held
      → IfSome held (StaysIfHeld tree.items undos)
  held_stays alike resolves None fits = tt
  held_stays alike resolves (Some run) fits = run_stays tree earlier undos run fits alike resolves

  module _ (unedited : UneditedResumes) (are_kept : FittingRunsAreKept) (ignore : AnswersIgnoreRoom) where
    -- what can be replied to it
    pub held_reply : (held : Option Run) (run : PlainRun) (answer : Option ResumeRefusal)
        → option_map (plain_run (roomless_tree tree).items undos) held ≡ Some run → FitsHeld (roomless_tree tree) earlier undos held
        → IsAnswered tree held answer → GoesOnUnedited held answer → is_ended run.reason ≡ false
        → CanReply None (run_request (roomless_tree tree) (option_map (plain_run (roomless_tree tree).items undos) held)) (Reply.Resumes answer)
    held_reply None run answer there fits asked free goes = absurd (cc)
    held_reply (Some run) plain answer there fits asked free goes =
        let same : plain_run (roomless_tree tree).items undos run ≡ plain = ap (λ (o : Option PlainRun). unwrap_or o plain) there in
        request_asked (roomless_tree tree) (plain_run (roomless_tree tree).items undos run) answer
        (ap (λ (r : PlainRun). is_ended r.reason) same ∙ goes)
        (run_may tree earlier undos run fits unedited are_kept ignore answer asked free)

    module _ (alike : RunsIgnoreRoom) (edited : ResumedRunsFit) (resolves : FittingRunsResolved) (is_tree : IsTree (roomless_tree tree))
        (undos_now : List Undo) (records : undos_now ≡ undos) where
      -- where it may go on, it may
      pub held_goes_on : (held now : Option Run) → GoesOnIfStands tree.items held now → FitsHeld (roomless_tree tree) earlier undos held
          → IsAnswered tree held None → FitsHeld (roomless_tree tree) earlier undos_now now
      held_goes_on None now goes fits asked = subst (FitsHeld (roomless_tree tree) earlier undos_now) (sym goes) tt
      held_goes_on (Some run) now goes fits asked =
          subst (λ (u : List Undo). FitsHeld (roomless_tree tree) earlier u now) (sym records)
          (subst (FitsHeld (roomless_tree tree) earlier undos) (sym goes.1)
          (going_fits tree earlier undos run fits edited resolves is_tree
          (run_may tree earlier undos run fits unedited are_kept ignore None asked (λ _. refl)) alike goes.0 goes.2))

      pub held_plain : (held now : Option Run) (run : PlainRun) → GoesOnIfStands tree.items held now → FitsHeld (roomless_tree tree) earlier undos held
          → IsAnswered tree held None → option_map (plain_run (roomless_tree tree).items undos) held ≡ Some run
          → option_map (plain_run (roomless_tree tree).items undos_now) now ≡ Some (resumed_run (roomless_tree tree) run)
      held_plain None now run goes fits asked there = absurd (cc)
      held_plain (Some run) now plain goes fits asked there =
          ap (λ (u : List Undo). option_map (plain_run (roomless_tree tree).items u) now) records
          ∙ ap (option_map (plain_run (roomless_tree tree).items undos)) goes.1
          ∙ ap Some (going_plain tree earlier undos run fits edited resolves is_tree
          (run_may tree earlier undos run fits unedited are_kept ignore None asked (λ _. refl)) alike goes.0 goes.2)
          ∙ ap (option_map (resumed_run (roomless_tree tree))) there

-- ---- why it stands still

reason_goes : (reason : RunReason) → (reason ≡ RunReason.Ended → ⊥) → is_ended reason ≡ false
reason_goes RunReason.Placeholder other = refl
reason_goes RunReason.Marked other = refl
reason_goes (RunReason.Fault kind) other = refl
reason_goes RunReason.InputWanted other = refl
reason_goes RunReason.Paused other = refl
reason_goes RunReason.Ended other = absurd (other refl)

-- it isn't over
pub held_reason : {held : Option PlainRun} (run : PlainRun) (reason : RunReason) → held ≡ Some run → option_map (λ r. r.reason) held ≡ Some reason
    → (reason ≡ RunReason.Ended → ⊥) → is_ended run.reason ≡ false
held_reason {held} run reason there stands other =
    let both : Some run.reason ≡ Some reason = sym (ap (option_map (λ (r : PlainRun). r.reason)) there) ∙ stands in
    let same : run.reason ≡ reason = ap (λ (o : Option RunReason). unwrap_or o reason) both in
    ap is_ended same ∙ reason_goes reason other

-- it stands, and so it does where it goes on
pub held_stands : (tree : PlainTree) (undos undos_now : List Undo) (held now : Option Run) (reason : RunReason) → GoesOnIfStands tree.items held now
    → option_map (λ r. r.reason) (option_map (plain_run (roomless_tree tree).items undos) held) ≡ Some reason
    → IsSome (option_map (plain_run (roomless_tree tree).items undos_now) now)
held_stands tree undos undos_now None now reason goes stands = absurd (cc)
held_stands tree undos undos_now (Some run) now reason goes stands =
    subst (λ (h : Option Run). IsSome (option_map (plain_run (roomless_tree tree).items undos_now) h)) (sym goes.1) refl
