-- The commands of runs, `.run`, `.step`, `.resume`, `.back`, `.trace` and `.input`.
use Rattle.std.specs.Prelude.{ℕ, ◌+◌, ◌-◌, Bool, not, nat_lt, if◌then◌else◌, List, [], ◌∷◌, ◌++◌, drop, length, min, Option, Some, None, option_map}
use Rattle.file_store.specs.declared.refusal.FileRefusal.{FileRefusal}
use Rattle.file_store.specs.Limit.{longest_input}
use Rattle.session_words.specs.declared.message.Notice.{Notice}
use Rattle.template_tree.specs.Programs.PlainTree.{PlainTree}
use Rattle.plcs_store.specs.declared.reason.RunReason.{RunReason}
use Rattle.plcs_store.specs.declared.refusal.ResumeRefusal.{ResumeRefusal}
use Rattle.plcs_store.specs.Configuration.{PlainConfiguration}
use Rattle.plcs_store.specs.NewFrame.{First}
use Rattle.plcs_store.specs.Resume.{kept_of, resolved}
use Rattle.plcs_machine.specs.Enter.{Enter}
use Rattle.plcs_machine.specs.Fetched.{fetches_of}
use Rattle.synth_session.specs.declared.answer.Answer.{Answer}
use Rattle.synth_session.specs.declared.answer.Refusal.TheVariants as why
use Rattle.synth_session.specs.declared.run_commands.TheConstants.{MOST_RUN_STEPS, MOST_TRACED_STEPS}
use Rattle.synth_session.specs.KeyOutcome.{KeyOutcome, line_acceptance_outcome, line_notice_outcome, no_reply_outcome, refusal_outcome}
use Rattle.synth_session.specs.KeyReply.{Reply}
use Rattle.synth_session.specs.PlainRun.{PlainRun, is_ended, without_earlier}
use Rattle.synth_session.specs.PlainSession.{PlainSession}
use Rattle.synth_session.specs.ProgramCode.{code_of}
use Rattle.synth_session.specs.RunStop.{with_cursor_at_run}

-- ---- keys in which the run goes on

-- how many steps `.run` and `.resume` ask for, by whether each is shown
abbrev pub most_steps : (trace : Bool) → ℕ
most_steps trace = if trace then MOST_TRACED_STEPS else MOST_RUN_STEPS

-- what comes of a key in which this run goes on, for so many steps: none of them is made yet
abbrev pub running_outcome : PlainSession → (steps fetches : ℕ) → PlainRun → KeyOutcome
running_outcome s steps fetches run =
    record (line_acceptance_outcome (record s { run = Some run; asked = steps; made = 0 }))
    { answer = Answer.Running; fetches = fetches }

-- a new run of a program
abbrev pub begun_run : PlainTree → PlainRun
begun_run tree = record {
  configuration = First tree.items;
  reason = RunReason.Paused;
  kept = kept_of tree.items (First tree.items);
  earlier = [];
}

-- what comes of a key that begins a run in place of the one that stands, for so many steps
abbrev pub begun_outcome : PlainSession → (steps : ℕ) → KeyOutcome
begun_outcome s steps = running_outcome s steps (fetches_of (Enter (code_of s.tree))) (begun_run s.tree)

-- what `.run` does: a new run begins
abbrev pub run_outcome : PlainSession → KeyOutcome
run_outcome s = begun_outcome s (most_steps s.trace)

-- a run that goes on in a program: where its place is the start of a slot, from where a run begins that comes there
abbrev pub resumed_run : PlainTree → PlainRun → PlainRun
resumed_run tree run =
    record run {
      configuration = resolved tree.items run.configuration;
      kept = kept_of tree.items (resolved tree.items run.configuration);
    }

-- what comes of a run that is to go on for so many steps, by why it may not, if it may not
abbrev pub resumption_outcome : PlainSession → (steps : ℕ) → PlainRun → Option ResumeRefusal → KeyOutcome
resumption_outcome s steps run None = running_outcome s steps 0 (resumed_run s.tree run)
resumption_outcome s steps run (Some refusal) = refusal_outcome s (why.Resume refusal)

-- what comes of a run that is to go on and isn't over, by whether it may
abbrev pub asked_outcome : PlainSession → (steps : ℕ) → PlainRun → Reply → KeyOutcome
asked_outcome s steps run (Reply.Resumes refusal) = resumption_outcome s steps run refusal
asked_outcome s steps run reply = no_reply_outcome s

-- what comes of a run that stands and is to go on for so many steps: one that is over doesn't
abbrev pub going_outcome : PlainSession → (steps : ℕ) → PlainRun → Reply → KeyOutcome
going_outcome s steps run reply =
    if is_ended run.reason then refusal_outcome s why.RunEnded else asked_outcome s steps run reply

-- what `.step` does with the run that stands, if one does: it goes on, or a new one begins
abbrev pub step_outcome : PlainSession → (steps : ℕ) → Option PlainRun → Reply → KeyOutcome
step_outcome s steps None reply = begun_outcome s steps
step_outcome s steps (Some run) reply = going_outcome s steps run reply

-- what `.resume` does with the run that stands, if one does: it goes on
abbrev pub resume_outcome : PlainSession → Option PlainRun → Reply → KeyOutcome
resume_outcome s None reply = refusal_outcome s why.NoRun
resume_outcome s (Some run) reply = going_outcome s (most_steps s.trace) run reply

-- ---- back

-- a run that went back to a configuration, before which these are
abbrev pub run_back : PlainTree → PlainConfiguration → List PlainConfiguration → PlainRun
run_back tree c earlier =
    record { configuration = c; reason = RunReason.Paused; kept = kept_of tree.items c; earlier = earlier }

-- what comes of a run that goes back to the first of these configurations, if there is one
abbrev pub back_to : PlainSession → List PlainConfiguration → KeyOutcome
back_to s [] = refusal_outcome s why.NoHistory
back_to s (c ∷ earlier) =
    line_notice_outcome (with_cursor_at_run (record s { run = Some (run_back s.tree c earlier) })) Notice.Paused

-- the configurations from the one so many steps back on, or from the oldest on where fewer are held
abbrev pub from_back : (steps : ℕ) → List PlainConfiguration → List PlainConfiguration
from_back steps earlier = drop (min steps (length earlier) - 1) earlier

-- what `.back` does with the run that stands, if one does: it goes so many steps back, or as many as are held
abbrev pub back_outcome : PlainSession → (steps : ℕ) → Option PlainRun → KeyOutcome
back_outcome s steps None = refusal_outcome s why.NoRun
back_outcome s steps (Some run) = back_to s (from_back steps run.earlier)

-- ---- tracing and input

-- what `.trace` does: each step is shown from now on, or isn't
abbrev pub trace_outcome : PlainSession → KeyOutcome
trace_outcome s =
    line_notice_outcome (record s { trace = not s.trace }) (if s.trace then Notice.TraceOff else Notice.TraceOn)

-- a session with more input behind the one that it has; a run that stands goes back no more
abbrev pub with_more_input : PlainSession → List ℕ → PlainSession
with_more_input s bytes = record s { input = s.input ++ bytes; run = option_map without_earlier s.run }

-- what `.input` does: the text comes behind the input with a line end, where that has room
abbrev pub input_outcome : PlainSession → List ℕ → KeyOutcome
input_outcome s text =
    if nat_lt longest_input (length s.input + (length text + 1))
    then refusal_outcome s (why.File FileRefusal.TooLong)
    else line_acceptance_outcome (with_more_input s (text ++ 10 ∷ []))
