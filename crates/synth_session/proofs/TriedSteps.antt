-- A step of the run that a session holds, as one of the plain session: what comes of trying it, and of a run that
-- rests.
use Rattle.std.proofs.Common.{◌≡◌, ℕ, ◌+◌, ◌∷◌, take, true, List, Option, Some, None, option_map, unwrap_or, is_some, IfSome, IsSome, refl, sym, ap, ap₂, subst, subst₂, ◌∙◌}
use Rattle.std.proofs.Math.Bool.{false≢true}
use Rattle.template_tree.specs.Programs.PlainTree.{Forest, PlainTree, roomless_tree}
use Rattle.plcs_store.specs.declared.kept.Kept.{Kept}
use Rattle.plcs_store.specs.declared.reason.RunReason.{RunReason}
use Rattle.plcs_store.specs.declared.run_state.Run.{Run}
use Rattle.plcs_store.specs.declared.undo.Undo.{Undo}
use Rattle.edit_undo.specs.EarlierTree.{EarlierTree}
use Rattle.plcs_store.specs.Configuration.{PlainConfiguration, plain_configuration}
use Rattle.plcs_store.specs.Fits.{Fits}
use Rattle.plcs_store.specs.Resume.{kept_of}
use Rattle.plcs_store.specs.Step.{PlainStepAnswer}
use Rattle.plcs_code.specs.Gen.{PlainCode}
use Rattle.plcs_machine.specs.Exec.{Exec, FetchedAnswer}
use Rattle.plcs_machine.specs.Fetched.{fetches_of, result_of}
use Rattle.suspend_state.specs.Suspension.{with_reason}
use Rattle.back_steps.specs.EarlierConfigurations.{configurations_before}
use Rattle.back_steps.specs.Limit.{most_records}
use Rattle.session_words.specs.declared.message.Message.{Message}
use Rattle.session_words.specs.declared.message.Notice.{Notice}
use Rattle.session_words.specs.Message.{message_text}
use Rattle.synth_session.specs.declared.program.Program.{Program}
use Rattle.synth_session.specs.PlainHeldRun.{PlainHeldRun}
use Rattle.synth_session.specs.PlainRun.{PlainRun}
use Rattle.synth_session.specs.PlainSession.{PlainSession}
use Rattle.synth_session.specs.RunNotice.{reason_notice}
use Rattle.synth_session.specs.SessionView.{MayGoOn, plain_run}
use Rattle.synth_session.specs.Tick.{Steps, rested_in, tried_if, tried_in, tried_with, with_rest, with_step}
use Rattle.synth_session.specs.Private.HeldRunKept.{MadeStep, TriesStep, TriesStepIfStands}
use Rattle.synth_session.specs.Private.TickDone.{HasTried}

-- ---- a run that rests

-- `rested` of rest
pub rests : (s : PlainSession) (program : Forest) (undos_old undos_new : List Undo) (reason : RunReason) (notice : Notice) (old new : Option Run)
    → IsSome (option_map (plain_run program undos_old) old) → new ≡ option_map (with_reason reason) old → undos_new ≡ undos_old
    → notice ≡ reason_notice reason
    → record s { run = option_map (plain_run program undos_new) new; message = message_text (Message.Notice notice) }
    ≡ rested_in s reason (option_map (plain_run program undos_old) old)
rests s program undos_old undos_new reason notice None new stands same undos told = absurd (false≢true stands)
rests s program undos_old undos_new reason notice (Some run) new stands same undos told =
    ap (λ (n : Notice). record s { run = option_map (plain_run program undos_new) new; message = message_text (Message.Notice n) }) told
    ∙ ap₂
    (λ (u : List Undo) (r : Option Run). record s {
      run = option_map (plain_run program u) r;
      message = message_text (Message.Notice (reason_notice reason));
    })
    undos same

-- the run that is held, if one is, may be asked whether it goes on in the program, and may go back
abbrev pub HeldGoesOn : PlainTree → List EarlierTree → List Undo → Option Run → Type 0
HeldGoesOn tree earlier undos held = IfSome held (λ run. MayGoOn tree earlier (is_some run.kept) (plain_run tree.items undos run))

-- the run that is held, if one is, fits the program
abbrev pub HeldFits : Forest → List Undo → Option Run → Type 0
HeldFits program undos held = IfSome (option_map (plain_run program undos) held) (λ run. Fits program run.configuration)

rests_run : (tree : PlainTree) (earlier : List EarlierTree) (undos : List Undo) (reason : RunReason) (old : Option Run)
    → HeldGoesOn tree earlier undos old → HeldGoesOn tree earlier undos (option_map (with_reason reason) old)
rests_run tree earlier undos reason None goes_on = tt
rests_run tree earlier undos reason (Some run) goes_on = record {
  unkept = goes_on.unkept;
  stood = λ is.
      let stood = goes_on.stood is in
      record {
        before = stood.before;
        is_tree = stood.is_tree;
        agrees = stood.agrees;
        earlier_agree = stood.earlier_agree;
        fits = stood.fits;
        kept = stood.kept;
      };
  earlier = goes_on.earlier;
  with_earlier = goes_on.with_earlier;
}

rests_fitting : (program : Forest) (undos : List Undo) (reason : RunReason) (old : Option Run) → HeldFits program undos old
    → HeldFits program undos (option_map (with_reason reason) old)
rests_fitting program undos reason None fits = tt
rests_fitting program undos reason (Some run) fits = fits

-- the session in the code that has the same program and holds the same run
same_held : {W : Type 0} (P : PlainTree → PlainHeldRun → Type 0) (one other : Program W) (run held : PlainHeldRun) → other ≡ one
    → held ≡ run → P (roomless_tree one.tree) run → P (roomless_tree other.tree) held
same_held {W} P one other run held program same has =
    subst (λ (x : Program W). P (roomless_tree x.tree) held) (sym program) (subst (P (roomless_tree one.tree)) (sym same) has)

module _ {W : Type 0} (one other : Program W) (old rested held : PlainHeldRun) (reason : RunReason) (program : other ≡ one) (same : held ≡ rested)
    (run : rested.run ≡ option_map (with_reason reason) old.run) (undos : rested.undos ≡ old.undos) where
  -- `fits` of rest
  pub rests_go_on : (earlier : List EarlierTree) → HeldGoesOn (roomless_tree one.tree) earlier old.undos old.run
      → HeldGoesOn (roomless_tree other.tree) earlier held.undos held.run
  rests_go_on earlier goes_on =
      same_held (λ tree h. HeldGoesOn tree earlier h.undos h.run) one other rested held program same
      (subst (λ (u : List Undo). HeldGoesOn (roomless_tree one.tree) earlier u rested.run) (sym undos)
      (subst (HeldGoesOn (roomless_tree one.tree) earlier old.undos) (sym run) (rests_run (roomless_tree one.tree) earlier old.undos reason old.run goes_on)))

  -- `stays_fit` of rest
  pub rests_fit : HeldFits (roomless_tree one.tree).items old.undos old.run → HeldFits (roomless_tree other.tree).items held.undos held.run
  rests_fit fits =
      same_held (λ tree h. HeldFits tree.items h.undos h.run) one other rested held program same
      (subst (λ (u : List Undo). HeldFits (roomless_tree one.tree).items u rested.run) (sym undos)
      (subst (HeldFits (roomless_tree one.tree).items old.undos) (sym run) (rests_fitting (roomless_tree one.tree).items old.undos reason old.run fits)))

-- ---- a step that is answered

some_same : {A : Type 0} (x y : A) → Some x ≡ Some y → x ≡ y
some_same {A} x y same = ap (λ (o : Option A). unwrap_or o x) same

made_so : (s : PlainSession) (run : PlainRun) (answer : Option FetchedAnswer) (next : PlainConfiguration)
    → result_of answer ≡ Some (PlainStepAnswer.stepped next)
    → ((tried_if s run answer).made ≡ true) × ((tried_if s run answer).after ≡ with_step s run next)
made_so s run None next is = absurd (cc)
made_so s run (Some answer) next is =
    let same = some_same answer.result (PlainStepAnswer.stepped next) is in (
      ap (λ (a : PlainStepAnswer). (tried_with s run answer.fetches a).made) same,
      ap (λ (a : PlainStepAnswer). (tried_with s run answer.fetches a).after) same,
    )

-- the run of which a step was made
stepped_run : (program : Forest) (undos_old undos_new : List Undo) (old now : Run) → MadeStep undos_old undos_new old now
    → plain_run program undos_new now
    ≡ record (plain_run program undos_old old) {
      configuration = plain_configuration now.state;
      kept = kept_of program (plain_configuration now.state);
      earlier = take most_records (plain_configuration old.state ∷ configurations_before undos_old (plain_configuration old.state));
    }
stepped_run program undos_old undos_new old now made =
    let c = plain_configuration now.state in
    ap
    (λ (k : Option Kept). record {
      configuration = c;
      reason = now.reason;
      kept = unwrap_or k (kept_of program c);
      earlier = configurations_before undos_new c;
    })
    made.dropped
    ∙ ap₂
    (λ (r : RunReason) (e : List PlainConfiguration). record { configuration = c; reason = r; kept = kept_of program c; earlier = e })
    made.reason made.earlier

module _ (steps : Steps) (s : PlainSession) (undos_old undos_new : List Undo) where
  -- `tried` of try_step: a step that is made
  pub tried_made : (old new : Option Run) → TriesStepIfStands (λ c. result_of (steps c)) undos_old undos_new old new None
      → HasTried (tried_in steps s (option_map (plain_run s.tree.items undos_old) old)) s
      (record s { run = option_map (plain_run s.tree.items undos_new) new; made = s.made + 1 }) None
  tried_made None new tries = absurd tries
  tried_made (Some run) new tries =
      let now = tries.0 in
      let made = made_so s (plain_run s.tree.items undos_old run) (steps (plain_configuration run.state)) (plain_configuration now.state) tries.2.0 in (
        made.0,
        ap (λ (r : Option Run). record s { run = option_map (plain_run s.tree.items undos_new) r; made = s.made + 1 }) tries.1
            ∙ ap (λ (r : PlainRun). record s { run = Some r; made = s.made + 1 }) (stepped_run s.tree.items undos_old undos_new run now tries.2.1)
            ∙ sym made.1,
      )

  -- a step that isn't made
  stays : (run : Run) (new : Option Run) (answer : Option FetchedAnswer) (now : Run) → new ≡ Some now → (reason : RunReason)
      → TriesStep undos_old undos_new run now (result_of answer) (Some reason)
      → HasTried (tried_if s (plain_run s.tree.items undos_old run) answer) (record s { run = Some (plain_run s.tree.items undos_old run) })
      (record s { run = option_map (plain_run s.tree.items undos_new) new }) (Some reason)
  stays run new None now is reason tries = absurd tries
  stays run new (Some answer) now is reason tries = by answer.result tries
    where
      rests_as : now ≡ run → undos_new ≡ undos_old
          → record s { run = option_map (plain_run s.tree.items undos_new) new } ≡ record s { run = Some (plain_run s.tree.items undos_old run) }
      rests_as same undos =
          ap₂ (λ (u : List Undo) (r : Option Run). record s { run = option_map (plain_run s.tree.items u) r }) undos
          (is ∙ ap (λ (r : Run). Some r) same)

      by : (result : PlainStepAnswer) → TriesStep undos_old undos_new run now (Some result) (Some reason)
          → HasTried (tried_with s (plain_run s.tree.items undos_old run) answer.fetches result) (record s { run = Some (plain_run s.tree.items undos_old run) })
          (record s { run = option_map (plain_run s.tree.items undos_new) new }) (Some reason)
      by (PlainStepAnswer.stepped next) tries = absurd tries
      by (PlainStepAnswer.stopped why) tries =
          (refl, rests_as tries.1 tries.2, ap (with_rest s (plain_run s.tree.items undos_old run)) tries.0)
      by PlainStepAnswer.ended tries =
          (refl, rests_as tries.1 tries.2, ap (with_rest s (plain_run s.tree.items undos_old run)) tries.0)

  -- `tried` of try_step: a step that isn't made
  pub tried_rests : (old new : Option Run) (reason : RunReason)
      → TriesStepIfStands (λ c. result_of (steps c)) undos_old undos_new old new (Some reason)
      → HasTried (tried_in steps s (option_map (plain_run s.tree.items undos_old) old))
      (record s { run = option_map (plain_run s.tree.items undos_old) old })
      (record s { run = option_map (plain_run s.tree.items undos_new) new }) (Some reason)
  tried_rests None new reason tries = absurd tries
  tried_rests (Some run) new reason tries = stays run new (steps (plain_configuration run.state)) tries.0 tries.1 reason tries.2

-- ---- what is fetched

answer_fetches : (s : PlainSession) (run : PlainRun) (fetches : ℕ) (answer : PlainStepAnswer) → (tried_with s run fetches answer).fetches ≡ fetches
answer_fetches s run fetches (PlainStepAnswer.stepped next) = refl
answer_fetches s run fetches (PlainStepAnswer.stopped why) = refl
answer_fetches s run fetches PlainStepAnswer.ended = refl

if_fetches : (s : PlainSession) (run : PlainRun) (answer : Option FetchedAnswer) → (tried_if s run answer).fetches ≡ fetches_of answer
if_fetches s run None = refl
if_fetches s run (Some answer) = answer_fetches s run answer.fetches answer.result

tried_fetches : (steps : Steps) (s : PlainSession) (run : PlainRun) → (tried_in steps s (Some run)).fetches ≡ fetches_of (steps run.configuration)
tried_fetches steps s run = if_fetches s run (steps run.configuration)

module _ (code : PlainCode) (input told : List ℕ) (same : told ≡ input) (undos_old undos_new : List Undo) (old new : Option Run) where
  -- what was tried by the input that is told
  pub tries_as : (answered given : Option RunReason) → answered ≡ given
      → TriesStepIfStands (λ c. result_of (Exec code told c)) undos_old undos_new old new answered
      → TriesStepIfStands (λ c. result_of (Exec code input c)) undos_old undos_new old new given
  tries_as answered given is tries =
      subst₂ (λ (i : List ℕ) (r : Option RunReason). TriesStepIfStands (λ c. result_of (Exec code i c)) undos_old undos_new old new r) same is tries

-- `counted` and `counts` of try_step
pub told_fetches : (code : PlainCode) (input told : List ℕ) → told ≡ input → (s : PlainSession) (undos : List Undo) (old : Option Run) (P : ℕ → Type 0)
    → IsSome (option_map (plain_run s.tree.items undos) old)
    → IfSome old (λ run. P (fetches_of (Exec code told (plain_configuration run.state))))
    → P (tried_in (Exec code input) s (option_map (plain_run s.tree.items undos) old)).fetches
told_fetches code input told same s undos None P stands counted = absurd (false≢true stands)
told_fetches code input told same s undos (Some run) P stands counted =
    subst P (sym (tried_fetches (Exec code input) s (plain_run s.tree.items undos run)))
    (subst (λ (i : List ℕ). P (fetches_of (Exec code i (plain_configuration run.state)))) same counted)
