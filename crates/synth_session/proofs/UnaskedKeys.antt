-- Keys that ask nothing of the files: what can be replied to them, and that nothing is counted in those that only do
-- what no program and no run is made for.
use Rattle.std.proofs.Common.{Bor, ◌≡◌, ◌⊎◌, inl, inr, ℕ, Bool, true, false, ◌==◌, if◌then◌else◌, List, [], ◌∷◌, Option, Some, None, Result, Ok, Err, refl, sym, subst}
use Rattle.std.specs.Prelude.{is_some, length, nat_lt}
use Rattle.plcs_base.specs.PlainCounts.{PlainCounts}
use Rattle.plcs_base.specs.declared.memory.OutOfMemory.{OutOfMemory}
use Rattle.synth_outside.specs.Files.{PlainFiles}
use Rattle.template_tree.specs.Programs.PlainTree.{Forest, PlainTree}
use Rattle.template_tree.specs.Positions.Stop.{PlainStop}
use Rattle.plcs_grammar.specs.Canon.{Canon}
use Rattle.plcs_grammar.specs.PlainPhrase.{PlainPhrase}
use Rattle.plcs_store.specs.declared.kept.Kept.{Kept}
use Rattle.plcs_store.specs.Configuration.{PlainConfiguration}
use Rattle.plcs_store.specs.Resume.{kept_of}
use Rattle.plcs_store.specs.declared.reason.RunReason.{RunReason}
use Rattle.clip_store.specs.ClipLimit.{is_full}
use Rattle.clip_store.specs.PlainFragment.{PlainFragment}
use Rattle.cursor_moves.specs.Move.{stop_right}
use Rattle.session_edit.specs.Here.{category_at, takes_at}
use Rattle.session_words.specs.CommandLine.{begins_with_point, command_of}
use Rattle.session_words.specs.declared.command.Command.{Command}
use Rattle.session_words.specs.PlainCommand.{PlainReading, plain_command}
use Rattle.synth_session.specs.declared.answer.Answer.{Answer}
use Rattle.synth_session.specs.declared.answer.ClipRefusal.{ClipRefusal}
use Rattle.synth_session.specs.declared.answer.Refusal.TheVariants as why
use Rattle.synth_session.specs.declared.session.Session.{Session}
use Rattle.synth_session.specs.declared.typed_line.TheConstants.{LINE_LIMIT}
use Rattle.synth_session.specs.ClipCommands.{copied_to_clip, copy_outcome, fragment_there, slots_there}
use Rattle.synth_session.specs.CursorKeys.{cursor_goes, cursor_moved}
use Rattle.synth_session.specs.EnteredLine.{command_line_outcome, line_entered, reading_outcome, text_entered}
use Rattle.synth_session.specs.KeyOutcome.{KeyOutcome, refusal_outcome}
use Rattle.synth_session.specs.KeyReply.{CanReply, FilesDo, Reply, Request}
use Rattle.synth_session.specs.KeyRequest.{command_line_request, command_request, line_request, reading_request, run_request, text_request}
use Rattle.synth_session.specs.MemoryTaken.{command_line_takes_memory, line_takes_memory, reading_takes_memory}
use Rattle.synth_session.specs.PlainRun.{PlainRun, is_ended}
use Rattle.synth_session.specs.PlainSession.{PlainSession}
use Rattle.synth_session.specs.RunCommands.{back_outcome, back_to, from_back}
use Rattle.synth_session.specs.TypedLine.{char_typed, cursor_phrase, last_erased, phrase_typed, text_typed}
use Rattle.synth_session.specs.Private.MemorylessKey.{HasOutcome}
use Rattle.synth_session.specs.SessionView.{CountsOutcome, DoesByReply}
use Rattle.synth_session.proofs.CountedPrograms.{key_free}
use Rattle.synth_session.proofs.WantedCounts.{want_free}

-- ---- what is counted

-- where no instruction is fetched, nothing counted is what comes of the key
pub counted_free : (outcome : KeyOutcome) (counts : PlainCounts) (result : Result Answer OutOfMemory) → outcome.fetches ≡ 0
    → CountsOutcome outcome counts counts result
counted_free outcome counts (Ok answer) none = rw none (key_free outcome.checks outcome.emits)
counted_free outcome counts (Err error) none = want_free outcome.checks outcome.emits outcome.fetches

-- so it is in either of two cases
choice_free : (test : Bool) (one other : KeyOutcome) → one.fetches ≡ 0 → other.fetches ≡ 0 → (if test then one else other).fetches ≡ 0
choice_free true one other h k = h
choice_free false one other h k = k

goes_free : (s : PlainSession) (to : Option PlainStop) → (cursor_goes s to).fetches ≡ 0
goes_free s None = refl
goes_free s (Some stop) = refl

pub moved_free : (s : PlainSession) (move : Forest → PlainStop → Option PlainStop) → (cursor_moved s move).fetches ≡ 0
moved_free s move =
    choice_free (length s.typed == 0) (cursor_goes s (move s.tree.items s.stop)) (refusal_outcome s why.NotHere)
    (goes_free s (move s.tree.items s.stop)) refl

pub typed_free : (s : PlainSession) (byte : ℕ) → (char_typed s byte).fetches ≡ 0
typed_free s byte = choice_free (nat_lt (length s.typed) LINE_LIMIT) _ (refusal_outcome s why.PhraseFull) refl refl

pub erased_free : (s : PlainSession) → (last_erased s).fetches ≡ 0
erased_free s = choice_free (length s.typed == 0) (refusal_outcome s why.NotHere) _ refl refl

text_free : (s : PlainSession) (phrase : Option PlainPhrase) → (text_typed s phrase).fetches ≡ 0
text_free s None = refl
text_free s (Some phrase) = choice_free (nat_lt LINE_LIMIT (length (Canon phrase))) (refusal_outcome s why.PhraseFull) _ refl refl

pub phrase_free : (s : PlainSession) → (phrase_typed s).fetches ≡ 0
phrase_free s =
    choice_free (length s.typed == 0) (text_typed s (cursor_phrase s.tree s.stop)) (refusal_outcome s why.NotHere)
    (text_free s (cursor_phrase s.tree s.stop)) refl

copy_free : (s : PlainSession) (name : List ℕ) (fragment : Option PlainFragment) → (copy_outcome s name fragment).fetches ≡ 0
copy_free s name None = refl
copy_free s name (Some fragment) = refl

pub copied_free : (s : PlainSession) (name : List ℕ) → (copied_to_clip s name).fetches ≡ 0
copied_free s name =
    let copied = copy_outcome s name (fragment_there s.tree s.stop s.stop.part) in
    choice_free (takes_at s.tree s.stop)
    (if is_full name (slots_there s.tree s.stop) s.clips then refusal_outcome s (why.Clip ClipRefusal.Full) else copied)
    (refusal_outcome s why.NotHere)
    (choice_free (is_full name (slots_there s.tree s.stop) s.clips) (refusal_outcome s (why.Clip ClipRefusal.Full)) copied refl
    (copy_free s name (fragment_there s.tree s.stop s.stop.part))) refl

back_to_free : (s : PlainSession) (earlier : List PlainConfiguration) → (back_to s earlier).fetches ≡ 0
back_to_free s [] = refl
back_to_free s (c ∷ earlier) = refl

pub back_free : (s : PlainSession) (steps : ℕ) (run : Option PlainRun) → (back_outcome s steps run).fetches ≡ 0
back_free s steps None = refl
back_free s steps (Some run) = back_to_free s (from_back steps run.earlier)

-- ---- what the files do

-- nothing is asked of them
pub nothing_files : (reply : Reply) (files : PlainFiles) (result : Result Answer OutOfMemory) → reply ≡ Reply.NotAsked
    → FilesDo Request.Nothing reply files files result
nothing_files reply files result is = subst (λ (r : Reply). FilesDo Request.Nothing r files files result) (sym is) (by result)
  where
    by : (result : Result Answer OutOfMemory) → FilesDo Request.Nothing Reply.NotAsked files files result
    by (Ok answer) = record { can = refl; stored = refl; faults = refl; wants = refl }
    by (Err error) = record { can = refl; stored = refl; faults = refl; wants = refl }

-- a run is to go on
resume_files : (kept : Kept) (c : PlainConfiguration) (tree : PlainTree) (reply : Reply) (files : PlainFiles) (result : Result Answer OutOfMemory)
    → CanReply None (Request.Resume kept c tree) reply → FilesDo (Request.Resume kept c tree) reply files files result
resume_files kept c tree (Reply.Resumes refusal) files (Ok answer) can = record { can = can; stored = refl; faults = refl; wants = refl }
resume_files kept c tree (Reply.Resumes refusal) files (Err error) can = record { can = can; stored = refl; faults = refl; wants = refl }
resume_files kept c tree Reply.NotAsked files result can = absurd can
resume_files kept c tree (Reply.Read standing) files result can = absurd can
resume_files kept c tree Reply.Saved files result can = absurd can
resume_files kept c tree (Reply.Loaded loaded) files result can = absurd can
resume_files kept c tree (Reply.Refused refusal) files result can = absurd can

pub run_files : (tree : PlainTree) (run : Option PlainRun) (reply : Reply) (files : PlainFiles) (result : Result Answer OutOfMemory)
    → CanReply None (run_request tree run) reply → FilesDo (run_request tree run) reply files files result
run_files tree None reply files result can = nothing_files reply files result can
run_files tree (Some run) reply files result can = by (is_ended run.reason) can
  where
    request : Bool → Request
    request ended = if ended then Request.Nothing else Request.Resume run.kept run.configuration tree

    by : (ended : Bool) → CanReply None (if ended then Request.Nothing else Request.Resume run.kept run.configuration tree) reply
        → FilesDo (if ended then Request.Nothing else Request.Resume run.kept run.configuration tree) reply files files result
    by true can = nothing_files reply files result can
    by false can = resume_files run.kept run.configuration tree reply files result can

-- ---- keys that take no memory

pub unasked_key : {W : Type 0} (outcome : KeyOutcome) (before now : Session W) (files : PlainFiles) (counts : PlainCounts) (answer : Answer)
    → outcome.fetches ≡ 0 → HasOutcome outcome before now answer
    → DoesByReply false Request.Nothing (λ reply. outcome) before now files files counts counts (Ok answer)
unasked_key outcome before now files counts answer none has =
    record {
      reply = Reply.NotAsked;
      files = nothing_files Reply.NotAsked files (Ok answer) refl;
      does = record { session = has.session; screens = has.screens; met = (has.after, has.answered) };
      counts = counted_free outcome counts (Ok answer) none;
    }

-- ---- the typed line

-- a command line reads so
pub by_reading : (s : PlainSession) (reading : PlainReading) → reading ≡ command_of s.typed
    → (P : Bool → Request → (Reply → KeyOutcome) → Type 0)
    → P (reading_takes_memory s reading) (reading_request s reading) (reading_outcome s reading)
    → P (command_line_takes_memory s) (command_line_request s) (command_line_outcome s)
by_reading s reading is P h = subst (λ (r : PlainReading). P (reading_takes_memory s r) (reading_request s r) (reading_outcome s r)) is h

-- the line is empty
pub empty_line : (s : PlainSession) → (length s.typed == 0) ≡ true → (P : Bool → Request → (Reply → KeyOutcome) → Type 0)
    → P false Request.Nothing (λ reply. cursor_moved s stop_right) → P (line_takes_memory s) (line_request s) (line_entered s)
empty_line s empty P h =
    subst
    (λ (e : Bool). P (if e then false else (if begins_with_point s.typed then command_line_takes_memory s else is_some (category_at s.tree s.stop)))
    (if e then Request.Nothing else (if begins_with_point s.typed then command_line_request s else text_request s (category_at s.tree s.stop)))
    (λ reply. if e then cursor_moved s stop_right
    else (if begins_with_point s.typed then command_line_outcome s reply else text_entered s (category_at s.tree s.stop) reply)))
    (sym empty) h

-- ---- commands that ask something

-- a session in which a run stands that isn't over
with_run : PlainSession → PlainSession
with_run s = record s { run = Some run }
  where
    configuration : PlainConfiguration
    configuration = record { frames = []; taken = 0; output = [] }

    run : PlainRun
    run = record { configuration = configuration; reason = RunReason.Paused; kept = kept_of s.tree.items configuration; earlier = [] }

-- a command that asks nothing in any session is none of these
pub asks_never : (s : PlainSession) (command : Command) → ((x : PlainSession) → command_request x (plain_command command) ≡ Request.Nothing)
    → ((name : Bor (List ℕ)) × (command ≡ Command.Save name)) ⊎ (((name : Bor (List ℕ)) × (command ≡ Command.Load name))
    ⊎ (((steps : ℕ) × (command ≡ Command.Step steps)) ⊎ (command ≡ Command.Resume)))
    → ⊥
unfolding with_run
asks_never s command unasked (inl save) =
    let none : command_request s (plain_command (Command.Save save.0)) ≡ Request.Nothing =
    subst (λ (k : Command). command_request s (plain_command k) ≡ Request.Nothing) save.1 (unasked s) in
    absurd (cc)
asks_never s command unasked (inr (inl load)) =
    let none : command_request s (plain_command (Command.Load load.0)) ≡ Request.Nothing =
    subst (λ (k : Command). command_request s (plain_command k) ≡ Request.Nothing) load.1 (unasked s) in
    absurd (cc)
asks_never s command unasked (inr (inr (inl step))) =
    let none : command_request (with_run s) (plain_command (Command.Step step.0)) ≡ Request.Nothing =
    subst (λ (k : Command). command_request (with_run s) (plain_command k) ≡ Request.Nothing) step.1 (unasked (with_run s)) in
    absurd (cc)
asks_never s command unasked (inr (inr (inr resume))) =
    let none : command_request (with_run s) (plain_command Command.Resume) ≡ Request.Nothing =
    subst (λ (k : Command). command_request (with_run s) (plain_command k) ≡ Request.Nothing) resume (unasked (with_run s)) in
    absurd (cc)
