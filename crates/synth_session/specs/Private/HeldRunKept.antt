-- What becomes of the run that a session holds, if one stands.
use Rattle.std.specs.Prelude.{◌≡◌, ◌⊎◌, ℕ, List, [], ◌∷◌, drop, length, min, take, Option, Some, None, IfSome}
use Rattle.template_tree.specs.Programs.PlainTree.{Forest}
use Rattle.plcs_store.specs.declared.reason.RunReason.{RunReason}
use Rattle.plcs_store.specs.declared.run_state.Run.{Run}
use Rattle.plcs_store.specs.declared.run_state.RunState.{RunState}
use Rattle.plcs_store.specs.declared.undo.Undo.{Undo}
use Rattle.plcs_store.specs.Configuration.{PlainConfiguration, plain_configuration}
use Rattle.plcs_store.specs.Fits.{Fits}
use Rattle.plcs_store.specs.Resume.{resolved}
use Rattle.plcs_store.specs.Step.{PlainStepAnswer}
use Rattle.suspend_state.specs.Suspension.{Keeps, paused}
use Rattle.resume_rule.specs.ResumeAnswer.{HasEntries}
use Rattle.back_steps.specs.EarlierConfigurations.{configurations_before}
use Rattle.back_steps.specs.Limit.{most_records}
use Rattle.synth_session.specs.RunCommands.{from_back}
use Rattle.synth_session.specs.RunNotice.{stop_reason}

-- ---- a new run

-- a run began in what the code begins in, if it does, and is held: it is paused, and nothing is kept for it
abbrev pub BeginsRun : Option PlainConfiguration → (new : Option Run) → Type 0
BeginsRun first new = (state : RunState) × (new ≡ Some (paused state)) × (first ≡ Some (plain_configuration state))

-- ---- before an edit

-- the run that stands, if one does, keeps the program as it was when it was first about to be edited
abbrev pub KeepsIfStands : (program : Forest) → (old new : Option Run) → Type 0
KeepsIfStands program None new = new ≡ None
KeepsIfStands program (Some run) new = (keeping : Run) × (new ≡ Some keeping) × Keeps program run keeping

-- ---- going on

-- what is asked of a run before it may be asked whether it goes on: where nothing is kept for it, it fits the program,
-- and else something is kept for each frame
pub record CanBeAsked (program : Forest) (run : Run) : Type 0 where
  pub unkept : run.kept ≡ None → Fits program (plain_configuration run.state)
  pub kept : IfSome run.kept (HasEntries (plain_configuration run.state))

-- a run that goes on in the program stays where it is, if earlier configurations are held, since nothing was edited
-- then
abbrev pub StaysIfHeld : (program : Forest) → List Undo → Run → Type 0
StaysIfHeld program undos run =
    (undos ≡ []) ⊎ (resolved program (plain_configuration run.state) ≡ plain_configuration run.state)

-- a run goes on in the program where it may be resumed there; nothing is kept for it any more
pub record GoesOn (program : Forest) (old new : Run) : Type 0 where
  pub configuration : plain_configuration new.state ≡ resolved program (plain_configuration old.state)
  pub reason : new.reason ≡ old.reason
  pub dropped : new.kept ≡ None

-- the run that stands, if one does, goes on in the program
abbrev pub GoesOnIfStands : (program : Forest) → (old new : Option Run) → Type 0
GoesOnIfStands program None new = new ≡ None
GoesOnIfStands program (Some run) new = (going : Run) × (new ≡ Some going) × GoesOn program run going

-- ---- going back

-- so many steps were taken back of a configuration, or as many as are held, with these records before and now
abbrev pub StepsBack : (steps : ℕ) → (undos_old : List Undo) → PlainConfiguration → (undos_new : List Undo)
    → PlainConfiguration → Type 0
StepsBack steps undos_old old undos_new new =
    drop (min steps (length (configurations_before undos_old old))) (old ∷ configurations_before undos_old old)
    ≡ new ∷ configurations_before undos_new new

-- a run went so many steps back, with these records before and now: it is paused, and nothing is kept for it
pub record WentBack (steps : ℕ) (undos_old undos_new : List Undo) (old new : Run) : Type 0 where
  pub went : from_back steps (configurations_before undos_old (plain_configuration old.state))
      ≡ plain_configuration new.state ∷ configurations_before undos_new (plain_configuration new.state)
  pub reason : new.reason ≡ RunReason.Paused
  pub dropped : new.kept ≡ None

-- the run that stands, if one does, went so many steps back
abbrev pub WentBackIfStands : (steps : ℕ) → (undos_old undos_new : List Undo) → (old new : Option Run) → Type 0
WentBackIfStands steps undos_old undos_new None new = ⊥
WentBackIfStands steps undos_old undos_new (Some run) new =
    (back : Run) × (new ≡ Some back) × WentBack steps undos_old undos_new run back

-- ---- one step

-- a run made a step, with these records before and now: nothing is kept for it any more, and the configuration before
-- is held
pub record MadeStep (undos_old undos_new : List Undo) (old new : Run) : Type 0 where
  pub dropped : new.kept ≡ None
  pub reason : new.reason ≡ old.reason
  pub earlier : configurations_before undos_new (plain_configuration new.state)
      ≡ take most_records
      (plain_configuration old.state ∷ configurations_before undos_old (plain_configuration old.state))

-- a step of a run was tried, which is answered so: it was made, or the run stands still for a reason and is as it was
abbrev pub TriesStep : (undos_old undos_new : List Undo) → (old new : Run) → Option PlainStepAnswer → Option RunReason
    → Type 0
TriesStep undos_old undos_new old new answer None =
    (answer ≡ Some (PlainStepAnswer.stepped (plain_configuration new.state))) × MadeStep undos_old undos_new old new
TriesStep undos_old undos_new old new None (Some reason) = ⊥
TriesStep undos_old undos_new old new (Some (PlainStepAnswer.stepped next)) (Some reason) = ⊥
TriesStep undos_old undos_new old new (Some (PlainStepAnswer.stopped why)) (Some reason) =
    (reason ≡ stop_reason why) × (new ≡ old) × (undos_new ≡ undos_old)
TriesStep undos_old undos_new old new (Some PlainStepAnswer.ended) (Some reason) =
    (reason ≡ RunReason.Ended) × (new ≡ old) × (undos_new ≡ undos_old)

-- a step of the run that stands was tried
abbrev pub TriesStepIfStands : (answer : PlainConfiguration → Option PlainStepAnswer)
    → (undos_old undos_new : List Undo) → (old new : Option Run) → Option RunReason → Type 0
TriesStepIfStands answer undos_old undos_new None new tried = ⊥
TriesStepIfStands answer undos_old undos_new (Some run) new tried =
    (now : Run) × (new ≡ Some now)
    × TriesStep undos_old undos_new run now (answer (plain_configuration run.state)) tried
