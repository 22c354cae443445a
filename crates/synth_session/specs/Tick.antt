-- Ticks: the steps that a key makes in the run of a session, and what is counted for them.
use Rattle.std.specs.Prelude.{◌≡◌, ℕ, zero, suc, ◌+◌, ◌-◌, ◌<◌, ◌≤◌, Bool, true, false, if◌then◌else◌, List, [], ◌∷◌, length, take, Option, Some, None, IsSome, option_and_then, option_map, IfSome, Result, Ok, Err}
use Rattle.plcs_base.specs.PlainCounts.{PlainCounts}
use Rattle.plcs_base.specs.declared.memory.OutOfMemory.{OutOfMemory}
use Rattle.plcs_code.specs.Gen.{PlainCode}
use Rattle.plcs_store.specs.declared.reason.RunReason.{RunReason}
use Rattle.plcs_store.specs.Configuration.{PlainConfiguration}
use Rattle.plcs_store.specs.Fits.{Fits}
use Rattle.plcs_store.specs.Resume.{kept_of}
use Rattle.plcs_store.specs.Step.{PlainStepAnswer, Step}
use Rattle.plcs_machine.specs.Exec.{Exec, FetchedAnswer}
use Rattle.plcs_machine.specs.Fetched.{FetchesAtMost, FetchesBy, fetches_of}
use Rattle.back_steps.specs.Limit.{most_records}
use Rattle.session_words.specs.declared.message.Message.{Message}
use Rattle.session_words.specs.Message.{message_text}
use Rattle.template_tree.specs.Programs.PlainTree.{PlainTree}
use Rattle.synth_session.specs.declared.tick.Tick.{Tick}
use Rattle.synth_session.specs.PlainRun.{PlainRun}
use Rattle.synth_session.specs.PlainSession.{PlainSession}
use Rattle.synth_session.specs.ProgramCode.{code_of}
use Rattle.synth_session.specs.RunNotice.{reason_notice, stop_reason}
use Rattle.synth_session.specs.RunStop.{with_cursor_at_run}
use Rattle.synth_session.specs.Window.{with_cursor_seen}

-- ---- steps

-- a way to make steps: what each configuration is answered, with how many instructions are fetched for it
abbrev pub Steps : Type 0
Steps = PlainConfiguration → Option FetchedAnswer

-- the steps by code, whatever it is, with an input
abbrev pub code_steps : PlainCode → (input : List ℕ) → Steps
code_steps code input = Exec code input

-- an answer to a step, with so many instructions fetched for it
abbrev pub with_fetches : ℕ → PlainStepAnswer → FetchedAnswer
with_fetches fetches answer = record { result = answer; fetches = fetches }

-- the steps by a program alone, with an input; what is fetched for them is what its code takes
abbrev pub program_steps : PlainTree → (input : List ℕ) → Steps
program_steps tree input c =
    option_map (with_fetches (fetches_of (Exec (code_of tree) input c))) (Step tree.items input c)

-- what the next step of a session's run is answered, if a run stands
abbrev pub next_answer : Steps → PlainSession → Option FetchedAnswer
next_answer steps s = option_and_then (λ run. steps run.configuration) s.run

-- ---- one step

-- a session whose run made a step to a configuration: the one before it is held, and the step is counted
abbrev pub with_step : PlainSession → PlainRun → PlainConfiguration → PlainSession
with_step s run next = record s {
  run = Some (record run {
    configuration = next;
    kept = kept_of s.tree.items next;
    earlier = take most_records (run.configuration ∷ run.earlier);
  });
  made = s.made + 1;
}

-- a session whose run stands still for a reason, which is told
abbrev pub with_rest : PlainSession → PlainRun → RunReason → PlainSession
with_rest s run reason =
    record s
    { run = Some (record run { reason = reason }); message = message_text (Message.Notice (reason_notice reason)) }

-- what comes of trying a step: the session then, whether the step was made, and how many instructions were fetched
pub record Tried : Type 0 where
  pub after : PlainSession
  pub made : Bool
  pub fetches : ℕ

-- what comes of trying a step of a session's run that is answered so
abbrev pub tried_with : PlainSession → PlainRun → (fetches : ℕ) → PlainStepAnswer → Tried
tried_with s run fetches (PlainStepAnswer.stepped next) =
    record { after = with_step s run next; made = true; fetches = fetches }
tried_with s run fetches (PlainStepAnswer.stopped reason) =
    record { after = with_rest s run (stop_reason reason); made = false; fetches = fetches }
tried_with s run fetches PlainStepAnswer.ended =
    record { after = with_rest s run RunReason.Ended; made = false; fetches = fetches }

-- what comes of trying a step where there is none: nothing
abbrev pub untried : PlainSession → Tried
untried s = record { after = s; made = false; fetches = 0 }

-- what comes of trying a step of a run, if it is answered
abbrev pub tried_if : PlainSession → PlainRun → Option FetchedAnswer → Tried
tried_if s run None = untried s
tried_if s run (Some answer) = tried_with s run answer.fetches answer.result

-- what comes of trying a step of the run, if one stands
abbrev pub tried_in : Steps → PlainSession → Option PlainRun → Tried
tried_in steps s None = untried s
tried_in steps s (Some run) = tried_if s run (steps run.configuration)

-- what comes of trying the next step of a session's run
unfoldable pub tried : Steps → PlainSession → Tried
tried steps s = tried_in steps s s.run

-- the session whose run stands still for a reason, if one stands
abbrev pub rested_in : PlainSession → RunReason → Option PlainRun → PlainSession
rested_in s reason None = s
rested_in s reason (Some run) = with_rest s run reason

-- the session whose run is paused, if one stands, once all steps are made that its key asked for
abbrev pub with_pause : PlainSession → PlainSession
with_pause s = rested_in s RunReason.Paused s.run

-- ---- a tick

-- what comes of a tick: the session then, whether another may come, and how many instructions were fetched
pub record TickOutcome : Type 0 where
  pub after : PlainSession
  pub tick : Tick
  pub fetches : ℕ

-- the session at the end of a tick: the cursor stands where the run's place is shown, and the window follows it
abbrev pub settled : PlainSession → PlainSession
settled s = with_cursor_seen (with_cursor_at_run s)

-- a tick that leaves the session so
abbrev pub ticked : Tick → PlainSession → (fetches : ℕ) → TickOutcome
ticked tick s fetches = record { after = settled s; tick = tick; fetches = fetches }

-- a tick that more was fetched for, before it
abbrev pub with_more : ℕ → TickOutcome → TickOutcome
with_more fetches outcome = record outcome { fetches = fetches + outcome.fetches }

-- a tick after a step that was tried: where it was made, it goes on
abbrev pub tick_after : Tried → (PlainSession → TickOutcome) → TickOutcome
tick_after step go =
    if step.made then with_more step.fetches (go step.after) else ticked Tick.Over step.after step.fetches

-- the steps of a tick that shows none of them, at most so many: it goes on until the run stops or is over, or all are
-- made
unfoldable pub all_steps : Steps → (left : ℕ) → PlainSession → TickOutcome
all_steps steps zero s = ticked Tick.Over (with_pause s) 0
all_steps steps (suc left) s = tick_after (tried steps s) (all_steps steps left)

-- a tick after a step that is shown: no message is told then
abbrev pub shown_step : Tried → TickOutcome
shown_step step =
    if step.made then ticked Tick.Again (record step.after { message = [] }) step.fetches
    else ticked Tick.Over step.after step.fetches

-- the step of a tick that shows it, where so many may be made yet
abbrev pub one_step : Steps → (left : ℕ) → PlainSession → TickOutcome
one_step steps zero s = ticked Tick.Over (with_pause s) 0
one_step steps (suc left) s = shown_step (tried steps s)

-- how many steps the newest key of a run may make yet
abbrev pub steps_left : PlainSession → ℕ
steps_left s = s.asked - s.made

-- what comes of a tick: where each step is shown it makes one, and else all that may be made
unfoldable pub tick : Steps → PlainSession → TickOutcome
tick steps s = if s.trace then one_step steps (steps_left s) s else all_steps steps (steps_left s) s

-- ---- where memory runs out

-- the session after so many of the steps of a tick
unfoldable pub after_steps : Steps → (number : ℕ) → PlainSession → PlainSession
after_steps steps zero s = s
after_steps steps (suc number) s = (tried steps (after_steps steps number s)).after

-- the steps of a session's run, so many, are all made
abbrev pub AreMade : Steps → (number : ℕ) → PlainSession → Type 0
AreMade steps zero s = Unit {0}
AreMade steps (suc number) s = AreMade steps number s × ((tried steps (after_steps steps number s)).made ≡ true)

-- the next step of a session's run calls a procedure, which takes memory: it makes a frame more
pub record CallsNext (steps : Steps) (s : PlainSession) : Type 0 where
  pub run : PlainRun
  pub stands : s.run ≡ Some run
  pub next : PlainConfiguration
  pub answered : option_map (λ answer. answer.result) (steps run.configuration) ≡ Some (PlainStepAnswer.stepped next)
  pub calls : length next.frames ≡ length run.configuration.frames + 1

-- memory ran out in a tick that left the session so: so many of its steps were made before the one that wanted some,
-- which calls a procedure; a tick that shows its step makes none before that
pub record WantsInTick (steps : Steps) (before now : PlainSession) : Type 0 where
  pub number : ℕ
  pub within : number < steps_left before
  pub shown : before.trace ≡ true → number ≡ 0
  pub made : AreMade steps number before
  pub after : now ≡ after_steps steps number before
  pub calls : CallsNext steps now

-- what a tick did to a session: what comes of it, or memory ran out in it
abbrev pub DoesTick : Steps → (before now : PlainSession) → Result Tick OutOfMemory → Type 0
DoesTick steps before now (Ok told) = (now ≡ (tick steps before).after) × (told ≡ (tick steps before).tick)
DoesTick steps before now (Err error) = WantsInTick steps before now

-- what is counted in a tick: just so many instructions are fetched, or at most so many where memory ran out, and
-- nothing else is counted
abbrev pub CountsTick : (fetches : ℕ) → (before now : PlainCounts) → Result Tick OutOfMemory → Type 0
CountsTick fetches before now (Ok told) = FetchesBy fetches before now
CountsTick fetches before now (Err error) = FetchesAtMost fetches before now

-- ---- conditions

-- a condition of a tick: a run stands, and its key made no more steps than it asked for
pub record IsRunning (s : PlainSession) : Type 0 where
  pub stands : IsSome s.run
  pub within : s.made ≤ s.asked

-- a condition under which a tick by the code of the program makes steps of the program: the run that stands fits it
abbrev pub RunFits : PlainSession → Type 0
RunFits s = IfSome s.run (λ run. Fits s.tree.items run.configuration)

-- each step that a tick makes is defined, where so many may be made yet and as many are made as go on
abbrev pub AreDefined : Steps → (left : ℕ) → PlainSession → Type 0
AreDefined steps zero s = Unit {0}
AreDefined steps (suc left) s =
    IsSome (next_answer steps s) × ((tried steps s).made ≡ true → AreDefined steps left (tried steps s).after)

-- the first step that a tick makes is defined, where so many may be made yet
abbrev pub IsFirstDefined : Steps → (left : ℕ) → PlainSession → Type 0
IsFirstDefined steps zero s = Unit {0}
IsFirstDefined steps (suc left) s = IsSome (next_answer steps s)

-- each step that a tick makes is defined, by whether it shows its step
abbrev pub AreDefinedByTrace : (trace : Bool) → Steps → (left : ℕ) → PlainSession → Type 0
AreDefinedByTrace true steps left s = IsFirstDefined steps left s
AreDefinedByTrace false steps left s = AreDefined steps left s

-- a condition of a tick: each step that it makes is defined
abbrev pub IsTickDefined : Steps → PlainSession → Type 0
IsTickDefined steps s = AreDefinedByTrace s.trace steps (steps_left s) s

-- ---- laws

-- a tick left of a session what steps don't change: its program, its input, and whether each step is shown
pub record KeepsProgram (before now : PlainSession) : Type 0 where
  pub tree : now.tree ≡ before.tree
  pub input : now.input ≡ before.input
  pub trace : now.trace ≡ before.trace

-- the law of what ticks leave
abbrev pub TicksKeepProgram : Type 0
TicksKeepProgram = (steps : Steps) (s : PlainSession) → KeepsProgram s (tick steps s).after

-- after a tick that shows a step the run goes on, with one step less to be made
pub record GoesOnAfter (before now : PlainSession) : Type 0 where
  pub running : IsRunning now
  pub fewer : steps_left before ≡ steps_left now + 1

-- the law of ticks that show a step
abbrev pub ShownTicksGoOn : Type 0
ShownTicksGoOn =
    (steps : Steps) (s : PlainSession) → IsRunning s → (tick steps s).tick ≡ Tick.Again
    → GoesOnAfter s (tick steps s).after
