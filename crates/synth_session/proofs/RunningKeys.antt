-- Each key in turn: what holds of the keys in which a run goes on, and of those in which none does, holds of every key.
-- So after a key in which the run goes on a run stands, no more steps were made than are asked for, and nothing is
-- fetched in any other key.
use Rattle.std.proofs.Common.{arith, ◌≡◌, ℕ, ◌+◌, ◌-◌, Bool, true, false, if◌then◌else◌, List, [], ◌∷◌, ◌++◌, length, take, Option, Some, None, Ok, Err, refl}
use Rattle.std.specs.Prelude.{◌==◌, nat_lt}
use Rattle.plcs_grammar.specs.Canon.{Canon}
use Rattle.plcs_grammar.specs.OverLimit.{OverLimit}
use Rattle.plcs_grammar.specs.PlainPhrase.{PlainPhrase}
use Rattle.plcs_grammar.specs.declared.category.Category.{Category}
use Rattle.phrase_parser.specs.Standing.{Standing}
use Rattle.phrase_parser.specs.declared.fault.PhraseFault.TheVariants as fault
use Rattle.session_words.specs.CommandLine.{begins_with_point, command_of}
use Rattle.session_words.specs.PlainCommand.{PlainCommand, PlainReading}
use Rattle.session_words.specs.declared.command.CommandFault.TheVariants as line
use Rattle.template_tree.specs.declared.side.Side.{Side}
use Rattle.template_tree.specs.Edits.Elision.{with_toggled_at}
use Rattle.template_tree.specs.Programs.Limit.{longest_phrase}
use Rattle.template_tree.specs.Programs.PlainTree.{Forest}
use Rattle.template_tree.specs.Positions.Stop.{PlainStop}
use Rattle.cursor_moves.specs.Move.{stop_down, stop_left, stop_right, stop_up}
use Rattle.clip_store.specs.ClipLimit.{is_full}
use Rattle.clip_store.specs.PlainClips.{clip_named}
use Rattle.clip_store.specs.PlainFragment.{PlainFragment}
use Rattle.session_edit.specs.Edited.{Edited, edited}
use Rattle.session_edit.specs.Here.{category_at, takes_at}
use Rattle.session_edit.specs.PlainEdit.{PlainEdit}
use Rattle.file_store.specs.declared.refusal.FileRefusal.{FileRefusal}
use Rattle.file_store.specs.Limit.{longest_input}
use Rattle.plcs_store.specs.declared.refusal.ResumeRefusal.{ResumeRefusal}
use Rattle.plcs_store.specs.Configuration.{PlainConfiguration}
use Rattle.plcs_machine.specs.Enter.{Enter as begin}
use Rattle.plcs_machine.specs.Fetched.{fetches_of}
use Rattle.synth_session.specs.declared.key.Key.{Key}
use Rattle.synth_session.specs.declared.key.Key.TheVariants.{Char, Enter, Erase, Clear, Tab, Up, Down, Left, Right, Other}
use Rattle.synth_session.specs.declared.answer.Answer.{Answer}
use Rattle.synth_session.specs.declared.answer.ClipRefusal.{ClipRefusal}
use Rattle.edit_undo.specs.EarlierTree.{EarlierTree}
use Rattle.synth_session.specs.UndoCommand.{undone_to}
use Rattle.synth_session.specs.declared.answer.Refusal.{Refusal}
use Rattle.synth_session.specs.declared.answer.Refusal.TheVariants as why
use Rattle.synth_session.specs.declared.typed_line.TheConstants.{LINE_LIMIT}
use Rattle.synth_session.specs.CodeCommand.{code_outcome}
use Rattle.synth_session.specs.PlainRun.{PlainRun, is_ended}
use Rattle.synth_session.specs.PlainSession.{PlainSession}
use Rattle.synth_session.specs.ProgramCode.{code_at, code_of}
use Rattle.synth_session.specs.Tick.{IsRunning}
use Rattle.synth_session.specs.RunCommands.{asked_outcome, back_outcome, back_to, begun_outcome, begun_run, from_back, going_outcome, input_outcome, most_steps, resume_outcome, resumed_run, resumption_outcome, running_outcome, step_outcome, with_more_input}
use Rattle.synth_session.specs.KeyOutcome.{KeyOutcome, acceptance_outcome, line_acceptance_outcome, refusal_outcome}
use Rattle.synth_session.specs.TypedLine.{cursor_phrase, text_typed}
use Rattle.synth_session.specs.CursorKeys.{cursor_goes, cursor_moved}
use Rattle.synth_session.specs.FileCommands.{load_outcome, save_outcome}
use Rattle.synth_session.specs.KeyReply.{Reply, Request}
use Rattle.synth_session.specs.KeyRequest.{command_line_request, command_request, line_request, reading_request, request, run_request, text_request}
use Rattle.synth_session.specs.ClipCommands.{copy_outcome, cut_outcome, fragment_inserted, fragment_there, slots_there}
use Rattle.synth_session.specs.EditCommands.{edit_outcome, edit_refusal, edited_by}
use Rattle.synth_session.specs.ElideCommand.{comment_toggled, is_at_comment}
use Rattle.synth_session.specs.EnteredLine.{command_line_outcome, command_outcome, line_entered, read_entered, reading_outcome, standing_entered, text_entered}
use Rattle.synth_session.specs.Press.{RunningKeysHaveRuns, StillKeysFetchNothing, key_outcome, press, without_code_display}

-- an outcome of a key in which no run goes on: nothing is fetched in it
pub record IsStill (outcome : KeyOutcome) : Type 0 where
  pub other : outcome.answer ≡ Answer.Running → ⊥
  pub free : outcome.fetches ≡ 0

-- ---- keys in which no run goes on

-- a refusal, a key that is done, and one that ends the session
refused_still : (s : PlainSession) (reason : Refusal) → IsStill (refusal_outcome s reason)
refused_still s reason = record { other = λ is. absurd (cc); free = refl }

taken_still : (outcome : KeyOutcome) → outcome.answer ≡ Answer.Done → outcome.fetches ≡ 0 → IsStill outcome
taken_still outcome taken free = record { other = λ is. absurd (cc); free = free }

ended_still : (outcome : KeyOutcome) → outcome.answer ≡ Answer.Quit → outcome.fetches ≡ 0 → IsStill outcome
ended_still outcome ended free = record { other = λ is. absurd (cc); free = free }

-- of two outcomes either
either_still : (test : Bool) (one other : KeyOutcome) → IsStill one → IsStill other → IsStill (if test then one else other)
either_still true one other h k = h
either_still false one other h k = k

-- a cursor that goes, or is at the edge
goes_still : (s : PlainSession) (to : Option PlainStop) → IsStill (cursor_goes s to)
goes_still s None = refused_still s why.AtEdge
goes_still s (Some stop) = taken_still _ refl refl

-- a move, where nothing is typed
moves_still : (s : PlainSession) (move : Forest → PlainStop → Option PlainStop) → IsStill (cursor_moved s move)
moves_still s move =
    either_still (length s.typed == 0) (cursor_goes s (move s.tree.items s.stop)) (refusal_outcome s why.NotHere)
    (goes_still s (move s.tree.items s.stop)) (refused_still s why.NotHere)

-- a phrase's text that is typed, or too long
typed_still : (s : PlainSession) (phrase : Option PlainPhrase) → IsStill (text_typed s phrase)
typed_still s None = refused_still s why.NotHere
typed_still s (Some phrase) =
    either_still (nat_lt LINE_LIMIT (length (Canon phrase))) (refusal_outcome s why.PhraseFull) (acceptance_outcome (record s { typed = Canon phrase }))
    (refused_still s why.PhraseFull) (taken_still _ refl refl)

-- an edit that is made or refused
edit_still : (s : PlainSession) (edited : Edited) → IsStill (edit_outcome s edited)
edit_still s (Edited.became tree stop taken what slot) = taken_still _ refl refl
edit_still s (Edited.refused fault) = refused_still s (edit_refusal fault)

-- an edit
edited_still : (s : PlainSession) (edit : PlainEdit) → IsStill (edited_by s edit)
unfolding edited_by
edited_still s edit = edit_still s (edited s.tree s.stop edit)

-- a copy into a clip
copied_still : (s : PlainSession) (name : List ℕ) (fragment : Option PlainFragment) → IsStill (copy_outcome s name fragment)
copied_still s name None = refused_still s why.NotHere
copied_still s name (Some fragment) = taken_still _ refl refl

-- a cut into a clip that is made or refused
cut_still : (s : PlainSession) (name : List ℕ) (edited : Edited) (fragment : Option PlainFragment) → IsStill (cut_outcome s name edited fragment)
cut_still s name (Edited.refused fault) fragment = refused_still s (edit_refusal fault)
cut_still s name (Edited.became tree stop taken what slot) None = refused_still s why.NotHere
cut_still s name (Edited.became tree stop taken what slot) (Some fragment) = taken_still _ refl refl

-- what can be taken out, where the clips have room
clips_still : (s : PlainSession) (name : List ℕ) (outcome : KeyOutcome) → IsStill outcome
    → IsStill
    (if takes_at s.tree s.stop
    then (if is_full name (slots_there s.tree s.stop) s.clips then refusal_outcome s (why.Clip ClipRefusal.Full) else outcome)
    else refusal_outcome s why.NotHere)
clips_still s name outcome still =
    either_still (takes_at s.tree s.stop)
    (if is_full name (slots_there s.tree s.stop) s.clips then refusal_outcome s (why.Clip ClipRefusal.Full) else outcome) (refusal_outcome s why.NotHere)
    (either_still (is_full name (slots_there s.tree s.stop) s.clips) (refusal_outcome s (why.Clip ClipRefusal.Full)) outcome
    (refused_still s (why.Clip ClipRefusal.Full)) still)
    (refused_still s why.NotHere)

-- a clip inserted
inserted_still : (s : PlainSession) (fragment : Option PlainFragment) → IsStill (fragment_inserted s fragment)
inserted_still s None = refused_still s (why.Clip ClipRefusal.NoClip)
inserted_still s (Some fragment) = edited_still s (PlainEdit.insert fragment)

-- a comment turned
turned_still : (s : PlainSession) → IsStill (comment_toggled s)
turned_still s =
    either_still (is_at_comment s.tree s.stop) (line_acceptance_outcome (record s { tree = with_toggled_at s.stop.path s.tree })) (refusal_outcome s why.NotHere)
    (taken_still _ refl refl) (refused_still s why.NotHere)

-- an edit taken back
undone_still : (s : PlainSession) (earlier : List EarlierTree) → IsStill (undone_to s earlier)
undone_still s [] = refused_still s why.NothingToUndo
undone_still s (latest ∷ others) = taken_still _ refl refl

-- a program saved, or refused
save_still : (s : PlainSession) (reply : Reply) → IsStill (save_outcome s reply)
save_still s Reply.NotAsked = taken_still _ refl refl
save_still s (Reply.Read standing) = taken_still _ refl refl
save_still s (Reply.Resumes refusal) = taken_still _ refl refl
save_still s Reply.Saved = taken_still _ refl refl
save_still s (Reply.Loaded tree) = taken_still _ refl refl
save_still s (Reply.Refused refusal) = refused_still s (why.File refusal)

-- a program loaded, or refused
load_still : (s : PlainSession) (reply : Reply) → IsStill (load_outcome s reply)
load_still s Reply.NotAsked = taken_still _ refl refl
load_still s (Reply.Read standing) = taken_still _ refl refl
load_still s (Reply.Resumes refusal) = taken_still _ refl refl
load_still s Reply.Saved = taken_still _ refl refl
load_still s (Reply.Loaded tree) = taken_still _ refl refl
load_still s (Reply.Refused refusal) = refused_still s (why.File refusal)

-- a run that goes back
back_to_still : (s : PlainSession) (from : List PlainConfiguration) → IsStill (back_to s from)
back_to_still s [] = refused_still s why.NoHistory
back_to_still s (c ∷ earlier) = taken_still _ refl refl

back_still : (s : PlainSession) (steps : ℕ) (run : Option PlainRun) → IsStill (back_outcome s steps run)
back_still s steps None = refused_still s why.NoRun
back_still s steps (Some run) = back_to_still s (from_back steps run.earlier)

-- more input
input_still : (s : PlainSession) (text : List ℕ) → IsStill (input_outcome s text)
input_still s text =
    either_still (nat_lt longest_input (length s.input + (length text + 1))) (refusal_outcome s (why.File FileRefusal.TooLong))
    (line_acceptance_outcome (with_more_input s (text ++ 10 ∷ [])))
    (refused_still s (why.File FileRefusal.TooLong)) (taken_still _ refl refl)

-- code that is shown
code_still : (s : PlainSession) (from : ℕ) → IsStill (code_outcome s from)
code_still s from =
    either_still (nat_lt from (length (code_at s.tree s.stop))) (line_acceptance_outcome (record s { code_from = Some from }))
    (refusal_outcome s why.WrongArgument) (taken_still _ refl refl) (refused_still s why.WrongArgument)

-- phrase text that is this
standing_still : (s : PlainSession) (standing : Standing) → IsStill (standing_entered s standing)
standing_still s (Standing.phrase phrase) =
    either_still (nat_lt longest_phrase (length (Canon phrase))) (refusal_outcome s why.PhraseFull) (edited_by s (PlainEdit.enter phrase))
    (refused_still s why.PhraseFull) (edited_still s (PlainEdit.enter phrase))
standing_still s (Standing.over (OverLimit.number_too_large place)) = refused_still s (why.Phrase (fault.NumberTooLarge place))
standing_still s (Standing.over (OverLimit.too_deep place)) = refused_still s (why.Phrase (fault.TooDeep place))
standing_still s (Standing.wrong_at place) = refused_still s (why.Phrase (fault.Syntax place))

-- phrase text, by what it is read as
read_still : (s : PlainSession) (reply : Reply) → IsStill (read_entered s reply)
read_still s Reply.NotAsked = taken_still _ refl refl
read_still s (Reply.Read standing) = standing_still s standing
read_still s (Reply.Resumes refusal) = taken_still _ refl refl
read_still s Reply.Saved = taken_still _ refl refl
read_still s (Reply.Loaded tree) = taken_still _ refl refl
read_still s (Reply.Refused refusal) = taken_still _ refl refl

-- phrase text of a category
text_still : (s : PlainSession) (category : Option Category) (reply : Reply) → IsStill (text_entered s category reply)
text_still s None reply = refused_still s why.NotHere
text_still s (Some category) reply = read_still s reply

-- ---- each key

-- what holds of each key in which no run goes on, of each that begins a run, and of each by which the run that stands
-- is to go on, holds of every key, with what it asks
module _ (s : PlainSession) (reply : Reply) (P : Request → KeyOutcome → Type 0)
    (still : (asked : Request) (outcome : KeyOutcome) → IsStill outcome → P asked outcome)
    (begins : (steps : ℕ) → P Request.Nothing (begun_outcome s steps))
    (goes_on : (steps : ℕ) (run : PlainRun) → s.run ≡ Some run → P (run_request s.tree (Some run)) (going_outcome s steps run reply)) where
  either : (test : Bool) (one other : Request) (outcome rest : KeyOutcome) → P one outcome → P other rest
      → P (if test then one else other) (if test then outcome else rest)
  either true one other outcome rest h k = h
  either false one other outcome rest h k = k

  -- the run that stands, if one does
  step_has : (steps : ℕ) (run : Option PlainRun) → s.run ≡ run → P (run_request s.tree run) (step_outcome s steps run reply)
  step_has steps None is = begins steps
  step_has steps (Some run) is = goes_on steps run is

  resume_has : (run : Option PlainRun) → s.run ≡ run → P (run_request s.tree run) (resume_outcome s run reply)
  resume_has None is = still Request.Nothing (refusal_outcome s why.NoRun) (refused_still s why.NoRun)
  resume_has (Some run) is = goes_on (most_steps s.trace) run is

  -- a command
  command_has : (command : PlainCommand) → P (command_request s command) (command_outcome s command reply)
  command_has (PlainCommand.template template) = still _ _ (edited_still s (PlainEdit.fill template))
  command_has PlainCommand.float = still _ _ (refused_still s why.FloatNotThere)
  command_has PlainCommand.before = still _ _ (edited_still s (PlainEdit.beside Side.Before))
  command_has PlainCommand.after = still _ _ (edited_still s (PlainEdit.beside Side.After))
  command_has PlainCommand.del = still _ _ (edited_still s PlainEdit.delete)
  command_has (PlainCommand.cut name) =
      still _ _
      (clips_still s name (cut_outcome s name (edited s.tree s.stop PlainEdit.take) (fragment_there s.tree s.stop s.stop.part))
      (cut_still s name (edited s.tree s.stop PlainEdit.take) (fragment_there s.tree s.stop s.stop.part)))
  command_has (PlainCommand.copy name) =
      still _ _
      (clips_still s name (copy_outcome s name (fragment_there s.tree s.stop s.stop.part))
      (copied_still s name (fragment_there s.tree s.stop s.stop.part)))
  command_has (PlainCommand.insert name) = still _ _ (inserted_still s (clip_named name s.clips))
  command_has PlainCommand.elide = still _ _ (turned_still s)
  command_has PlainCommand.undo = still _ _ (undone_still s s.earlier)
  command_has PlainCommand.top = still _ _ (taken_still _ refl refl)
  command_has PlainCommand.bottom = still _ _ (taken_still _ refl refl)
  command_has PlainCommand.run = begins (most_steps s.trace)
  command_has (PlainCommand.step n) = step_has n s.run refl
  command_has PlainCommand.resume = resume_has s.run refl
  command_has (PlainCommand.back n) = still _ _ (back_still s n s.run)
  command_has PlainCommand.trace = still _ _ (taken_still _ refl refl)
  command_has (PlainCommand.input text) = still _ _ (input_still s text)
  command_has (PlainCommand.save file) = still _ _ (save_still s reply)
  command_has (PlainCommand.load file) = still _ _ (load_still s reply)
  command_has (PlainCommand.code n) = still _ _ (code_still s n)
  command_has PlainCommand.quit = still _ _ (ended_still _ refl refl)

  -- a command line
  reading_has : (reading : PlainReading) → P (reading_request s reading) (reading_outcome s reading reply)
  reading_has (Ok command) = command_has command
  reading_has (Err line.UnknownCommand) = still _ _ (refused_still s why.UnknownCommand)
  reading_has (Err line.WrongArgument) = still _ _ (refused_still s why.WrongArgument)

  -- the typed line
  line_has : P (line_request s) (line_entered s reply)
  line_has =
      either (length s.typed == 0) Request.Nothing
      (if begins_with_point s.typed then command_line_request s else text_request s (category_at s.tree s.stop))
      (cursor_moved s stop_right)
      (if begins_with_point s.typed then command_line_outcome s reply else text_entered s (category_at s.tree s.stop) reply)
      (still _ _ (moves_still s stop_right))
      (either (begins_with_point s.typed) (command_line_request s) (text_request s (category_at s.tree s.stop))
      (command_line_outcome s reply) (text_entered s (category_at s.tree s.stop) reply)
      (reading_has (command_of s.typed)) (still _ _ (text_still s (category_at s.tree s.stop) reply)))

  -- a key
  pub key_has : (key : Key) → P (request s key) (key_outcome s key reply)
  key_has (Char byte) =
      still _ _
      (either_still (nat_lt (length s.typed) LINE_LIMIT) (acceptance_outcome (record s { typed = s.typed ++ byte ∷ [] })) (refusal_outcome s why.PhraseFull)
      (taken_still _ refl refl) (refused_still s why.PhraseFull))
  key_has Enter = line_has
  key_has Erase =
      still _ _
      (either_still (length s.typed == 0) (refusal_outcome s why.NotHere) (acceptance_outcome (record s { typed = take (length s.typed - 1) s.typed }))
      (refused_still s why.NotHere) (taken_still _ refl refl))
  key_has Clear = still _ _ (taken_still _ refl refl)
  key_has Tab =
      still _ _
      (either_still (length s.typed == 0) (text_typed s (cursor_phrase s.tree s.stop)) (refusal_outcome s why.NotHere)
      (typed_still s (cursor_phrase s.tree s.stop)) (refused_still s why.NotHere))
  key_has Up = still _ _ (moves_still s stop_up)
  key_has Down = still _ _ (moves_still s stop_down)
  key_has Left = still _ _ (moves_still s stop_left)
  key_has Right = still _ _ (moves_still s stop_right)
  key_has Other = still _ _ (refused_still s why.UnknownCommand)

-- ---- runs that stand

-- where this is the outcome of a key in which the run goes on, it does, and else no instruction is fetched in the key
record Runs (outcome : KeyOutcome) : Type 0 where
  pub runs : outcome.answer ≡ Answer.Running → IsRunning outcome.after
  pub still : (outcome.answer ≡ Answer.Running → ⊥) → outcome.fetches ≡ 0

still_runs : (outcome : KeyOutcome) → IsStill outcome → Runs outcome
still_runs outcome still = record { runs = λ is. absurd (still.other is); still = λ other. still.free }

-- a run that goes on, of which no step is made yet
running_runs : (s : PlainSession) (steps fetches : ℕ) (run : PlainRun) → Runs (running_outcome s steps fetches run)
running_runs s steps fetches run = record {
  runs = λ is. record { stands = refl; within = omega arith };
  still = λ other. absurd (other refl);
}

either_is : (test : Bool) (one other : KeyOutcome) → Runs one → Runs other → Runs (if test then one else other)
either_is true one other h k = h
either_is false one other h k = k

-- a run that is to go on, by whether it may
resumption_runs : (s : PlainSession) (steps : ℕ) (run : PlainRun) (refusal : Option ResumeRefusal) → Runs (resumption_outcome s steps run refusal)
resumption_runs s steps run None = running_runs s steps 0 (resumed_run s.tree run)
resumption_runs s steps run (Some refusal) = still_runs _ (refused_still s (why.Resume refusal))

asked_runs : (s : PlainSession) (steps : ℕ) (run : PlainRun) (reply : Reply) → Runs (asked_outcome s steps run reply)
asked_runs s steps run Reply.NotAsked = still_runs _ (taken_still _ refl refl)
asked_runs s steps run (Reply.Read standing) = still_runs _ (taken_still _ refl refl)
asked_runs s steps run (Reply.Resumes refusal) = resumption_runs s steps run refusal
asked_runs s steps run Reply.Saved = still_runs _ (taken_still _ refl refl)
asked_runs s steps run (Reply.Loaded tree) = still_runs _ (taken_still _ refl refl)
asked_runs s steps run (Reply.Refused refusal) = still_runs _ (taken_still _ refl refl)

going_runs : (s : PlainSession) (steps : ℕ) (run : PlainRun) (reply : Reply) → Runs (going_outcome s steps run reply)
going_runs s steps run reply =
    either_is (is_ended run.reason) (refusal_outcome s why.RunEnded) (asked_outcome s steps run reply)
    (still_runs _ (refused_still s why.RunEnded)) (asked_runs s steps run reply)

key_runs : (s : PlainSession) (key : Key) (reply : Reply) → Runs (key_outcome s key reply)
key_runs s key reply =
    key_has s reply (λ asked outcome. Runs outcome) (λ asked outcome. still_runs outcome)
    (λ steps. running_runs s steps (fetches_of (begin (code_of s.tree))) (begun_run s.tree)) (λ steps run is. going_runs s steps run reply) key

-- the laws
pub running_keys_have_runs : RunningKeysHaveRuns
unfolding press
running_keys_have_runs s key reply = (key_runs (without_code_display s) key reply).runs

pub still_keys_fetch_nothing : StillKeysFetchNothing
unfolding press
still_keys_fetch_nothing s key reply = (key_runs (without_code_display s) key reply).still
