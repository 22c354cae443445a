-- Which key asks what.
use Rattle.std.specs.Prelude.{◌==◌, if◌then◌else◌, length, Option, Some, None, Ok, Err}
use Rattle.plcs_grammar.specs.declared.category.Category.{Category}
use Rattle.session_words.specs.CommandLine.{begins_with_point, command_of}
use Rattle.session_words.specs.PlainCommand.{PlainCommand, PlainReading}
use Rattle.template_tree.specs.Listings.Listing.{Listing}
use Rattle.template_tree.specs.Programs.PlainTree.{PlainTree}
use Rattle.session_edit.specs.Here.{category_at}
use Rattle.synth_session.specs.declared.key.Key.{Key}
use Rattle.synth_session.specs.declared.key.Key.TheVariants.{Enter}
use Rattle.synth_session.specs.KeyReply.{Request}
use Rattle.synth_session.specs.PlainRun.{PlainRun, is_ended}
use Rattle.synth_session.specs.PlainSession.{PlainSession}

-- what a run that stands asks that is to go on: whether it may, unless it is over
abbrev pub run_request : PlainTree → Option PlainRun → Request
run_request tree None = Request.Nothing
run_request tree (Some run) =
    if is_ended run.reason then Request.Nothing else Request.Resume run.kept run.configuration tree

-- what a command asks: `.step` and `.resume` ask whether the run that stands may go on, `.save` asks the files to save
-- the listing of the program, and `.load` to load one
abbrev pub command_request : PlainSession → PlainCommand → Request
command_request s (PlainCommand.template template) = Request.Nothing
command_request s PlainCommand.float = Request.Nothing
command_request s PlainCommand.before = Request.Nothing
command_request s PlainCommand.after = Request.Nothing
command_request s PlainCommand.del = Request.Nothing
command_request s (PlainCommand.cut name) = Request.Nothing
command_request s (PlainCommand.copy name) = Request.Nothing
command_request s (PlainCommand.insert name) = Request.Nothing
command_request s PlainCommand.elide = Request.Nothing
command_request s PlainCommand.undo = Request.Nothing
command_request s PlainCommand.top = Request.Nothing
command_request s PlainCommand.bottom = Request.Nothing
command_request s PlainCommand.run = Request.Nothing
command_request s (PlainCommand.step n) = run_request s.tree s.run
command_request s PlainCommand.resume = run_request s.tree s.run
command_request s (PlainCommand.back n) = Request.Nothing
command_request s PlainCommand.trace = Request.Nothing
command_request s (PlainCommand.input text) = Request.Nothing
command_request s (PlainCommand.save name) = Request.Save name (Listing s.tree.items)
command_request s (PlainCommand.load name) = Request.Load name
command_request s (PlainCommand.code n) = Request.Nothing
command_request s PlainCommand.quit = Request.Nothing

-- what a command line asks that reads as this command, or as none
abbrev pub reading_request : PlainSession → PlainReading → Request
reading_request s (Ok command) = command_request s command
reading_request s (Err fault) = Request.Nothing

-- what a command line asks
abbrev pub command_line_request : PlainSession → Request
command_line_request s = reading_request s (command_of s.typed)

-- what phrase text of a category asks, where the cursor wants one: what it is
abbrev pub text_request : PlainSession → Option Category → Request
text_request s None = Request.Nothing
text_request s (Some category) = Request.Read category s.typed

-- what the key Enter asks, by the typed line
abbrev pub line_request : PlainSession → Request
line_request s =
    if length s.typed == 0
    then Request.Nothing
    else (if begins_with_point s.typed then command_line_request s else text_request s (category_at s.tree s.stop))

-- what each key asks: Enter may ask something, and no other key does
abbrev pub request : PlainSession → Key → Request
request s Enter = line_request s
request s _ = Request.Nothing
