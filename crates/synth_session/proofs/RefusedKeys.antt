-- A refused key changes the message alone, and counts nothing: each outcome of a key is either a refusal, which is so
-- by its definition, or its answer is none.
use Rattle.std.proofs.Common.{◌≡◌, ℕ, ◌+◌, ◌-◌, Bool, true, false, if◌then◌else◌, List, [], ◌∷◌, ◌++◌, length, take, Option, Some, None, Ok, Err, refl}
use Rattle.std.specs.Prelude.{◌==◌, nat_lt}
use Rattle.plcs_grammar.specs.Canon.{Canon}
use Rattle.plcs_grammar.specs.OverLimit.{OverLimit}
use Rattle.plcs_grammar.specs.PlainPhrase.{PlainPhrase}
use Rattle.plcs_grammar.specs.declared.category.Category.{Category}
use Rattle.phrase_parser.specs.Standing.{Standing}
use Rattle.phrase_parser.specs.declared.fault.PhraseFault.TheVariants as fault
use Rattle.session_words.specs.CommandLine.{begins_with_point, command_of}
use Rattle.session_words.specs.PlainCommand.{PlainCommand, PlainReading}
use Rattle.session_words.specs.declared.command.CommandFault.TheVariants as line
use Rattle.template_tree.specs.declared.side.Side.{Side}
use Rattle.template_tree.specs.Edits.Elision.{with_toggled_at}
use Rattle.template_tree.specs.Programs.Limit.{longest_phrase}
use Rattle.template_tree.specs.Programs.PlainTree.{Forest}
use Rattle.template_tree.specs.Positions.Stop.{PlainStop}
use Rattle.cursor_moves.specs.Move.{stop_down, stop_left, stop_right, stop_up}
use Rattle.clip_store.specs.ClipLimit.{is_full}
use Rattle.clip_store.specs.PlainClips.{clip_named}
use Rattle.clip_store.specs.PlainFragment.{PlainFragment}
use Rattle.session_edit.specs.Edited.{Edited, edited}
use Rattle.session_edit.specs.Here.{category_at, takes_at}
use Rattle.session_edit.specs.PlainEdit.{PlainEdit}
use Rattle.file_store.specs.declared.refusal.FileRefusal.{FileRefusal}
use Rattle.file_store.specs.Limit.{longest_input}
use Rattle.plcs_store.specs.declared.refusal.ResumeRefusal.{ResumeRefusal}
use Rattle.plcs_store.specs.Configuration.{PlainConfiguration}
use Rattle.synth_session.specs.declared.key.Key.{Key}
use Rattle.synth_session.specs.declared.key.Key.TheVariants.{Char, Enter, Erase, Clear, Tab, Up, Down, Left, Right, Other}
use Rattle.synth_session.specs.declared.answer.Answer.{Answer}
use Rattle.synth_session.specs.declared.answer.ClipRefusal.{ClipRefusal}
use Rattle.edit_undo.specs.EarlierTree.{EarlierTree}
use Rattle.synth_session.specs.UndoCommand.{undone_to}
use Rattle.synth_session.specs.declared.answer.Refusal.{Refusal}
use Rattle.synth_session.specs.declared.answer.Refusal.TheVariants as why
use Rattle.synth_session.specs.declared.typed_line.TheConstants.{LINE_LIMIT}
use Rattle.synth_session.specs.CodeCommand.{code_outcome}
use Rattle.synth_session.specs.PlainRun.{PlainRun, is_ended}
use Rattle.synth_session.specs.PlainSession.{PlainSession}
use Rattle.synth_session.specs.ProgramCode.{code_at}
use Rattle.synth_session.specs.RunCommands.{asked_outcome, back_outcome, back_to, from_back, going_outcome, input_outcome, most_steps, resume_outcome, resumption_outcome, step_outcome, with_more_input}
use Rattle.synth_session.specs.RefusalText.{refusal_text}
use Rattle.synth_session.specs.KeyOutcome.{KeyOutcome, acceptance_outcome, line_acceptance_outcome, refusal_outcome}
use Rattle.synth_session.specs.TypedLine.{cursor_phrase, text_typed}
use Rattle.synth_session.specs.CursorKeys.{cursor_goes, cursor_moved}
use Rattle.synth_session.specs.FileCommands.{load_outcome, save_outcome}
use Rattle.synth_session.specs.KeyReply.{Reply}
use Rattle.synth_session.specs.ClipCommands.{copy_outcome, cut_outcome, fragment_inserted, fragment_there, slots_there}
use Rattle.synth_session.specs.EditCommands.{edit_outcome, edit_refusal, edited_by}
use Rattle.synth_session.specs.ElideCommand.{comment_toggled, is_at_comment}
use Rattle.synth_session.specs.EnteredLine.{command_line_outcome, command_outcome, line_entered, read_entered, reading_outcome, standing_entered, text_entered}
use Rattle.synth_session.specs.Press.{CostsNothing, RefusedKeysChangeTheMessage, RefusedKeysCostNothing, key_outcome, press, without_code_display}

-- where this is the outcome of a refused key, the message alone changes, and nothing is counted
record Alone (s : PlainSession) (outcome : KeyOutcome) : Type 0 where
  pub alone : (reason : Refusal) → outcome.answer ≡ Answer.Refused reason → outcome.after ≡ record s { message = refusal_text reason }
  pub costless : (reason : Refusal) → outcome.answer ≡ Answer.Refused reason → CostsNothing outcome

-- a refusal does
refused_alone : (s : PlainSession) (reason : Refusal) → Alone s (refusal_outcome s reason)
refused_alone s reason = record { alone = λ other is. cc; costless = λ other is. record { checks = refl; emits = refl; fetches = refl } }

-- a key that isn't refused says nothing of that
taken_alone : (s : PlainSession) (outcome : KeyOutcome) → outcome.answer ≡ Answer.Done → Alone s outcome
taken_alone s outcome taken = record { alone = λ reason is. absurd (cc); costless = λ reason is. absurd (cc) }

ended_alone : (s : PlainSession) (outcome : KeyOutcome) → outcome.answer ≡ Answer.Quit → Alone s outcome
ended_alone s outcome ended = record { alone = λ reason is. absurd (cc); costless = λ reason is. absurd (cc) }

running_alone : (s : PlainSession) (outcome : KeyOutcome) → outcome.answer ≡ Answer.Running → Alone s outcome
running_alone s outcome running = record { alone = λ reason is. absurd (cc); costless = λ reason is. absurd (cc) }

-- of two outcomes either
either_alone : (s : PlainSession) (test : Bool) (one other : KeyOutcome) → Alone s one → Alone s other → Alone s (if test then one else other)
either_alone s true one other h k = h
either_alone s false one other h k = k

-- a cursor that goes, or is at the edge
goes_alone : (s : PlainSession) (to : Option PlainStop) → Alone s (cursor_goes s to)
goes_alone s None = refused_alone s why.AtEdge
goes_alone s (Some stop) = taken_alone s _ refl

-- a move, where nothing is typed
moves_alone : (s : PlainSession) (move : Forest → PlainStop → Option PlainStop) → Alone s (cursor_moved s move)
moves_alone s move =
    either_alone s (length s.typed == 0) (cursor_goes s (move s.tree.items s.stop)) (refusal_outcome s why.NotHere)
    (goes_alone s (move s.tree.items s.stop)) (refused_alone s why.NotHere)

-- a phrase's text that is typed, or too long
typed_alone : (s : PlainSession) (phrase : Option PlainPhrase) → Alone s (text_typed s phrase)
typed_alone s None = refused_alone s why.NotHere
typed_alone s (Some phrase) =
    either_alone s (nat_lt LINE_LIMIT (length (Canon phrase))) (refusal_outcome s why.PhraseFull) (acceptance_outcome (record s { typed = Canon phrase }))
    (refused_alone s why.PhraseFull) (taken_alone s _ refl)

-- an edit that is made or refused
edit_alone : (s : PlainSession) (edited : Edited) → Alone s (edit_outcome s edited)
edit_alone s (Edited.became tree stop taken what slot) = taken_alone s _ refl
edit_alone s (Edited.refused fault) = refused_alone s (edit_refusal fault)

-- an edit
edited_alone : (s : PlainSession) (edit : PlainEdit) → Alone s (edited_by s edit)
unfolding edited_by
edited_alone s edit = edit_alone s (edited s.tree s.stop edit)

-- a copy into a clip
copied_alone : (s : PlainSession) (name : List ℕ) (fragment : Option PlainFragment) → Alone s (copy_outcome s name fragment)
copied_alone s name None = refused_alone s why.NotHere
copied_alone s name (Some fragment) = taken_alone s _ refl

-- a cut into a clip that is made or refused
cut_alone : (s : PlainSession) (name : List ℕ) (edited : Edited) (fragment : Option PlainFragment) → Alone s (cut_outcome s name edited fragment)
cut_alone s name (Edited.refused fault) fragment = refused_alone s (edit_refusal fault)
cut_alone s name (Edited.became tree stop taken what slot) None = refused_alone s why.NotHere
cut_alone s name (Edited.became tree stop taken what slot) (Some fragment) = taken_alone s _ refl

-- what can be taken out, where the clips have room
clips_alone : (s : PlainSession) (name : List ℕ) (outcome : KeyOutcome) → Alone s outcome
    → Alone s
    (if takes_at s.tree s.stop
    then (if is_full name (slots_there s.tree s.stop) s.clips then refusal_outcome s (why.Clip ClipRefusal.Full) else outcome)
    else refusal_outcome s why.NotHere)
clips_alone s name outcome alone =
    either_alone s (takes_at s.tree s.stop)
    (if is_full name (slots_there s.tree s.stop) s.clips then refusal_outcome s (why.Clip ClipRefusal.Full) else outcome) (refusal_outcome s why.NotHere)
    (either_alone s (is_full name (slots_there s.tree s.stop) s.clips) (refusal_outcome s (why.Clip ClipRefusal.Full)) outcome
    (refused_alone s (why.Clip ClipRefusal.Full)) alone)
    (refused_alone s why.NotHere)

-- a clip inserted
inserted_alone : (s : PlainSession) (fragment : Option PlainFragment) → Alone s (fragment_inserted s fragment)
inserted_alone s None = refused_alone s (why.Clip ClipRefusal.NoClip)
inserted_alone s (Some fragment) = edited_alone s (PlainEdit.insert fragment)

-- a comment turned
turned_alone : (s : PlainSession) → Alone s (comment_toggled s)
turned_alone s =
    either_alone s (is_at_comment s.tree s.stop) (line_acceptance_outcome (record s { tree = with_toggled_at s.stop.path s.tree })) (refusal_outcome s why.NotHere)
    (taken_alone s _ refl) (refused_alone s why.NotHere)

-- an edit taken back
undone_alone : (s : PlainSession) (earlier : List EarlierTree) → Alone s (undone_to s earlier)
undone_alone s [] = refused_alone s why.NothingToUndo
undone_alone s (latest ∷ others) = taken_alone s _ refl

-- a program saved, or refused
save_alone : (s : PlainSession) (reply : Reply) → Alone s (save_outcome s reply)
save_alone s Reply.NotAsked = taken_alone s _ refl
save_alone s (Reply.Read standing) = taken_alone s _ refl
save_alone s (Reply.Resumes refusal) = taken_alone s _ refl
save_alone s Reply.Saved = taken_alone s _ refl
save_alone s (Reply.Loaded tree) = taken_alone s _ refl
save_alone s (Reply.Refused refusal) = refused_alone s (why.File refusal)

-- a program loaded, or refused
load_alone : (s : PlainSession) (reply : Reply) → Alone s (load_outcome s reply)
load_alone s Reply.NotAsked = taken_alone s _ refl
load_alone s (Reply.Read standing) = taken_alone s _ refl
load_alone s (Reply.Resumes refusal) = taken_alone s _ refl
load_alone s Reply.Saved = taken_alone s _ refl
load_alone s (Reply.Loaded tree) = taken_alone s _ refl
load_alone s (Reply.Refused refusal) = refused_alone s (why.File refusal)

-- a run that is to go on, by whether it may
resumption_alone : (s : PlainSession) (steps : ℕ) (run : PlainRun) (refusal : Option ResumeRefusal) → Alone s (resumption_outcome s steps run refusal)
resumption_alone s steps run None = running_alone s _ refl
resumption_alone s steps run (Some refusal) = refused_alone s (why.Resume refusal)

asked_alone : (s : PlainSession) (steps : ℕ) (run : PlainRun) (reply : Reply) → Alone s (asked_outcome s steps run reply)
asked_alone s steps run Reply.NotAsked = taken_alone s _ refl
asked_alone s steps run (Reply.Read standing) = taken_alone s _ refl
asked_alone s steps run (Reply.Resumes refusal) = resumption_alone s steps run refusal
asked_alone s steps run Reply.Saved = taken_alone s _ refl
asked_alone s steps run (Reply.Loaded tree) = taken_alone s _ refl
asked_alone s steps run (Reply.Refused refusal) = taken_alone s _ refl

going_alone : (s : PlainSession) (steps : ℕ) (run : PlainRun) (reply : Reply) → Alone s (going_outcome s steps run reply)
going_alone s steps run reply =
    either_alone s (is_ended run.reason) (refusal_outcome s why.RunEnded) (asked_outcome s steps run reply)
    (refused_alone s why.RunEnded) (asked_alone s steps run reply)

step_alone : (s : PlainSession) (steps : ℕ) (run : Option PlainRun) (reply : Reply) → Alone s (step_outcome s steps run reply)
step_alone s steps None reply = running_alone s _ refl
step_alone s steps (Some run) reply = going_alone s steps run reply

resume_alone : (s : PlainSession) (run : Option PlainRun) (reply : Reply) → Alone s (resume_outcome s run reply)
resume_alone s None reply = refused_alone s why.NoRun
resume_alone s (Some run) reply = going_alone s (most_steps s.trace) run reply

-- a run that goes back
back_to_alone : (s : PlainSession) (from : List PlainConfiguration) → Alone s (back_to s from)
back_to_alone s [] = refused_alone s why.NoHistory
back_to_alone s (c ∷ earlier) = taken_alone s _ refl

back_alone : (s : PlainSession) (steps : ℕ) (run : Option PlainRun) → Alone s (back_outcome s steps run)
back_alone s steps None = refused_alone s why.NoRun
back_alone s steps (Some run) = back_to_alone s (from_back steps run.earlier)

-- more input
input_alone : (s : PlainSession) (text : List ℕ) → Alone s (input_outcome s text)
input_alone s text =
    either_alone s (nat_lt longest_input (length s.input + (length text + 1))) (refusal_outcome s (why.File FileRefusal.TooLong))
    (line_acceptance_outcome (with_more_input s (text ++ 10 ∷ [])))
    (refused_alone s (why.File FileRefusal.TooLong)) (taken_alone s _ refl)

-- code that is shown
code_alone : (s : PlainSession) (from : ℕ) → Alone s (code_outcome s from)
code_alone s from =
    either_alone s (nat_lt from (length (code_at s.tree s.stop))) (line_acceptance_outcome (record s { code_from = Some from }))
    (refusal_outcome s why.WrongArgument) (taken_alone s _ refl) (refused_alone s why.WrongArgument)

-- a command
command_alone : (s : PlainSession) (command : PlainCommand) (reply : Reply) → Alone s (command_outcome s command reply)
command_alone s (PlainCommand.template template) reply = edited_alone s (PlainEdit.fill template)
command_alone s PlainCommand.float reply = refused_alone s why.FloatNotThere
command_alone s PlainCommand.before reply = edited_alone s (PlainEdit.beside Side.Before)
command_alone s PlainCommand.after reply = edited_alone s (PlainEdit.beside Side.After)
command_alone s PlainCommand.del reply = edited_alone s PlainEdit.delete
command_alone s (PlainCommand.cut name) reply =
    clips_alone s name (cut_outcome s name (edited s.tree s.stop PlainEdit.take) (fragment_there s.tree s.stop s.stop.part))
    (cut_alone s name (edited s.tree s.stop PlainEdit.take) (fragment_there s.tree s.stop s.stop.part))
command_alone s (PlainCommand.copy name) reply =
    clips_alone s name (copy_outcome s name (fragment_there s.tree s.stop s.stop.part))
    (copied_alone s name (fragment_there s.tree s.stop s.stop.part))
command_alone s (PlainCommand.insert name) reply = inserted_alone s (clip_named name s.clips)
command_alone s PlainCommand.elide reply = turned_alone s
command_alone s PlainCommand.undo reply = undone_alone s s.earlier
command_alone s PlainCommand.top reply = taken_alone s _ refl
command_alone s PlainCommand.bottom reply = taken_alone s _ refl
command_alone s PlainCommand.run reply = running_alone s _ refl
command_alone s (PlainCommand.step n) reply = step_alone s n s.run reply
command_alone s PlainCommand.resume reply = resume_alone s s.run reply
command_alone s (PlainCommand.back n) reply = back_alone s n s.run
command_alone s PlainCommand.trace reply = taken_alone s _ refl
command_alone s (PlainCommand.input text) reply = input_alone s text
command_alone s (PlainCommand.save file) reply = save_alone s reply
command_alone s (PlainCommand.load file) reply = load_alone s reply
command_alone s (PlainCommand.code n) reply = code_alone s n
command_alone s PlainCommand.quit reply = ended_alone s _ refl

-- a command line
reading_alone : (s : PlainSession) (reading : PlainReading) (reply : Reply) → Alone s (reading_outcome s reading reply)
reading_alone s (Ok command) reply = command_alone s command reply
reading_alone s (Err line.UnknownCommand) reply = refused_alone s why.UnknownCommand
reading_alone s (Err line.WrongArgument) reply = refused_alone s why.WrongArgument

command_line_alone : (s : PlainSession) (reply : Reply) → Alone s (command_line_outcome s reply)
command_line_alone s reply = reading_alone s (command_of s.typed) reply

-- phrase text that is this
standing_alone : (s : PlainSession) (standing : Standing) → Alone s (standing_entered s standing)
standing_alone s (Standing.phrase phrase) =
    either_alone s (nat_lt longest_phrase (length (Canon phrase))) (refusal_outcome s why.PhraseFull) (edited_by s (PlainEdit.enter phrase))
    (refused_alone s why.PhraseFull) (edited_alone s (PlainEdit.enter phrase))
standing_alone s (Standing.over (OverLimit.number_too_large place)) = refused_alone s (why.Phrase (fault.NumberTooLarge place))
standing_alone s (Standing.over (OverLimit.too_deep place)) = refused_alone s (why.Phrase (fault.TooDeep place))
standing_alone s (Standing.wrong_at place) = refused_alone s (why.Phrase (fault.Syntax place))

-- phrase text, by what it is read as
read_alone : (s : PlainSession) (reply : Reply) → Alone s (read_entered s reply)
read_alone s Reply.NotAsked = taken_alone s _ refl
read_alone s (Reply.Read standing) = standing_alone s standing
read_alone s (Reply.Resumes refusal) = taken_alone s _ refl
read_alone s Reply.Saved = taken_alone s _ refl
read_alone s (Reply.Loaded tree) = taken_alone s _ refl
read_alone s (Reply.Refused refusal) = taken_alone s _ refl

-- phrase text of a category
text_alone : (s : PlainSession) (category : Option Category) (reply : Reply) → Alone s (text_entered s category reply)
text_alone s None reply = refused_alone s why.NotHere
text_alone s (Some category) reply = read_alone s reply

-- the typed line
line_alone : (s : PlainSession) (reply : Reply) → Alone s (line_entered s reply)
line_alone s reply =
    either_alone s (length s.typed == 0) (cursor_moved s stop_right)
    (if begins_with_point s.typed then command_line_outcome s reply else text_entered s (category_at s.tree s.stop) reply)
    (moves_alone s stop_right)
    (either_alone s (begins_with_point s.typed) (command_line_outcome s reply) (text_entered s (category_at s.tree s.stop) reply)
    (command_line_alone s reply) (text_alone s (category_at s.tree s.stop) reply))

-- each key
key_alone : (s : PlainSession) (key : Key) (reply : Reply) → Alone s (key_outcome s key reply)
key_alone s (Char byte) reply =
    either_alone s (nat_lt (length s.typed) LINE_LIMIT) (acceptance_outcome (record s { typed = s.typed ++ byte ∷ [] })) (refusal_outcome s why.PhraseFull)
    (taken_alone s _ refl) (refused_alone s why.PhraseFull)
key_alone s Enter reply = line_alone s reply
key_alone s Erase reply =
    either_alone s (length s.typed == 0) (refusal_outcome s why.NotHere) (acceptance_outcome (record s { typed = take (length s.typed - 1) s.typed }))
    (refused_alone s why.NotHere) (taken_alone s _ refl)
key_alone s Clear reply = taken_alone s _ refl
key_alone s Tab reply =
    either_alone s (length s.typed == 0) (text_typed s (cursor_phrase s.tree s.stop)) (refusal_outcome s why.NotHere)
    (typed_alone s (cursor_phrase s.tree s.stop)) (refused_alone s why.NotHere)
key_alone s Up reply = moves_alone s stop_up
key_alone s Down reply = moves_alone s stop_down
key_alone s Left reply = moves_alone s stop_left
key_alone s Right reply = moves_alone s stop_right
key_alone s Other reply = refused_alone s why.UnknownCommand

-- the laws
pub refused_keys_change_the_message : RefusedKeysChangeTheMessage
unfolding press
refused_keys_change_the_message s key reply = (key_alone (without_code_display s) key reply).alone

pub refused_keys_cost_nothing : RefusedKeysCostNothing
unfolding press
refused_keys_cost_nothing s key reply = (key_alone (without_code_display s) key reply).costless
