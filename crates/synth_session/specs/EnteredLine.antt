-- What Enter does with the typed line, which is a command or phrase text.
use Rattle.std.specs.Prelude.{◌==◌, nat_lt, if◌then◌else◌, length, Option, Some, None, Ok, Err}
use Rattle.plcs_grammar.specs.Canon.{Canon}
use Rattle.plcs_grammar.specs.OverLimit.{OverLimit}
use Rattle.plcs_grammar.specs.declared.category.Category.{Category}
use Rattle.phrase_parser.specs.Standing.{Standing}
use Rattle.phrase_parser.specs.declared.fault.PhraseFault.TheVariants as fault
use Rattle.session_words.specs.CommandLine.{begins_with_point, command_of}
use Rattle.session_words.specs.PlainCommand.{PlainCommand, PlainReading}
use Rattle.session_words.specs.declared.command.CommandFault.TheVariants as line
use Rattle.template_tree.specs.declared.side.Side.{Side}
use Rattle.template_tree.specs.Programs.Limit.{longest_phrase}
use Rattle.cursor_moves.specs.Move.{first_stop, last_stop, stop_right}
use Rattle.session_edit.specs.Here.{category_at}
use Rattle.session_edit.specs.PlainEdit.{PlainEdit}
use Rattle.synth_session.specs.declared.answer.Answer.{Answer}
use Rattle.synth_session.specs.declared.answer.Refusal.TheVariants as why
use Rattle.synth_session.specs.CursorKeys.{cursor_moved}
use Rattle.synth_session.specs.ClipCommands.{clip_inserted, copied_to_clip, cut_to_clip}
use Rattle.synth_session.specs.CodeCommand.{code_outcome}
use Rattle.synth_session.specs.EditCommands.{edited_by}
use Rattle.synth_session.specs.ElideCommand.{comment_toggled}
use Rattle.synth_session.specs.FileCommands.{load_outcome, save_outcome}
use Rattle.synth_session.specs.KeyReply.{Reply}
use Rattle.synth_session.specs.KeyOutcome.{KeyOutcome, line_acceptance_outcome, no_reply_outcome, refusal_outcome}
use Rattle.synth_session.specs.PlainSession.{PlainSession}
use Rattle.synth_session.specs.RunCommands.{back_outcome, input_outcome, resume_outcome, run_outcome, step_outcome, trace_outcome}
use Rattle.synth_session.specs.UndoCommand.{undo_outcome}

-- ---- commands

-- what `.quit` does: the session ends, and nothing is shown any more
abbrev pub quit_outcome : PlainSession → KeyOutcome
quit_outcome s = record { after = s; answer = Answer.Quit; checks = 0; emits = 0; fetches = 0 }

-- what each command does; what one of files does depends on what they reply, and what one does by which a run that
-- stands is to go on depends on whether it may
abbrev pub command_outcome : PlainSession → PlainCommand → Reply → KeyOutcome
command_outcome s (PlainCommand.template template) reply = edited_by s (PlainEdit.fill template)
command_outcome s PlainCommand.float reply = refusal_outcome s why.FloatNotThere
command_outcome s PlainCommand.before reply = edited_by s (PlainEdit.beside Side.Before)
command_outcome s PlainCommand.after reply = edited_by s (PlainEdit.beside Side.After)
command_outcome s PlainCommand.del reply = edited_by s PlainEdit.delete
command_outcome s (PlainCommand.cut name) reply = cut_to_clip s name
command_outcome s (PlainCommand.copy name) reply = copied_to_clip s name
command_outcome s (PlainCommand.insert name) reply = clip_inserted s name
command_outcome s PlainCommand.elide reply = comment_toggled s
command_outcome s PlainCommand.undo reply = undo_outcome s
command_outcome s PlainCommand.top reply = line_acceptance_outcome (record s { stop = first_stop s.tree.items })
command_outcome s PlainCommand.bottom reply = line_acceptance_outcome (record s { stop = last_stop s.tree.items })
command_outcome s PlainCommand.run reply = run_outcome s
command_outcome s (PlainCommand.step n) reply = step_outcome s n s.run reply
command_outcome s PlainCommand.resume reply = resume_outcome s s.run reply
command_outcome s (PlainCommand.back n) reply = back_outcome s n s.run
command_outcome s PlainCommand.trace reply = trace_outcome s
command_outcome s (PlainCommand.input text) reply = input_outcome s text
command_outcome s (PlainCommand.save file) reply = save_outcome s reply
command_outcome s (PlainCommand.load file) reply = load_outcome s reply
command_outcome s (PlainCommand.code n) reply = code_outcome s n
command_outcome s PlainCommand.quit reply = quit_outcome s

-- what a command line does that reads as this command, or as none for this reason
abbrev pub reading_outcome : PlainSession → PlainReading → Reply → KeyOutcome
reading_outcome s (Ok command) reply = command_outcome s command reply
reading_outcome s (Err line.UnknownCommand) reply = refusal_outcome s why.UnknownCommand
reading_outcome s (Err line.WrongArgument) reply = refusal_outcome s why.WrongArgument

-- what a command line does
abbrev pub command_line_outcome : PlainSession → Reply → KeyOutcome
command_line_outcome s reply = reading_outcome s (command_of s.typed) reply

-- ---- phrase text

-- what comes of entering phrase text that is this: a phrase is entered where its canonical text isn't too long
abbrev pub standing_entered : PlainSession → Standing → KeyOutcome
standing_entered s (Standing.phrase phrase) =
    if nat_lt longest_phrase (length (Canon phrase))
    then refusal_outcome s why.PhraseFull
    else edited_by s (PlainEdit.enter phrase)
standing_entered s (Standing.over (OverLimit.number_too_large place)) =
    refusal_outcome s (why.Phrase (fault.NumberTooLarge place))
standing_entered s (Standing.over (OverLimit.too_deep place)) = refusal_outcome s (why.Phrase (fault.TooDeep place))
standing_entered s (Standing.wrong_at place) = refusal_outcome s (why.Phrase (fault.Syntax place))

-- what comes of entering the typed line as phrase text, where this is replied to what it asks
abbrev pub read_entered : PlainSession → Reply → KeyOutcome
read_entered s (Reply.Read standing) = standing_entered s standing
read_entered s reply = no_reply_outcome s

-- what comes of the typed line as phrase text of a category, where the cursor wants one
abbrev pub text_entered : PlainSession → Option Category → Reply → KeyOutcome
text_entered s None reply = refusal_outcome s why.NotHere
text_entered s (Some category) reply = read_entered s reply

-- ---- the line

-- what Enter does: on an empty line it moves the cursor right, a line with a point first is a command, and any other is
-- phrase text
abbrev pub line_entered : PlainSession → Reply → KeyOutcome
line_entered s reply =
    if length s.typed == 0
    then cursor_moved s stop_right
    else
    (if begins_with_point s.typed then command_line_outcome s reply
    else text_entered s (category_at s.tree s.stop) reply)
