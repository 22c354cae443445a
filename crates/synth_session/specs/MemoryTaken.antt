-- Which keys take memory, their own or that of the files.
use Rattle.std.specs.Prelude.{Bool, true, false, ◌==◌, if◌then◌else◌, length, is_none, is_some, Ok, Err}
use Rattle.session_edit.specs.Here.{category_at}
use Rattle.session_words.specs.CommandLine.{begins_with_point, command_of}
use Rattle.session_words.specs.PlainCommand.{PlainCommand, PlainReading}
use Rattle.synth_session.specs.declared.key.Key.{Key}
use Rattle.synth_session.specs.declared.key.Key.TheVariants.{Enter}
use Rattle.synth_session.specs.PlainSession.{PlainSession}

-- whether a command takes memory in a session: those that edit the program, the one that undoes an edit, those of
-- clips, those that begin a run, more input, and those of files do; saving takes none of its own, but the files may
-- want some
abbrev pub command_takes_memory : PlainSession → PlainCommand → Bool
command_takes_memory s (PlainCommand.template template) = true
command_takes_memory s PlainCommand.float = false
command_takes_memory s PlainCommand.before = true
command_takes_memory s PlainCommand.after = true
command_takes_memory s PlainCommand.del = true
command_takes_memory s (PlainCommand.cut name) = true
command_takes_memory s (PlainCommand.copy name) = true
command_takes_memory s (PlainCommand.insert name) = true
command_takes_memory s PlainCommand.elide = false
command_takes_memory s PlainCommand.undo = true
command_takes_memory s PlainCommand.top = false
command_takes_memory s PlainCommand.bottom = false
command_takes_memory s PlainCommand.run = true
command_takes_memory s (PlainCommand.step n) = is_none s.run
command_takes_memory s PlainCommand.resume = false
command_takes_memory s (PlainCommand.back n) = false
command_takes_memory s PlainCommand.trace = false
command_takes_memory s (PlainCommand.input text) = true
command_takes_memory s (PlainCommand.save file) = true
command_takes_memory s (PlainCommand.load file) = true
command_takes_memory s (PlainCommand.code n) = false
command_takes_memory s PlainCommand.quit = false

-- whether a command line takes memory that reads as this command, or as none
abbrev pub reading_takes_memory : PlainSession → PlainReading → Bool
reading_takes_memory s (Ok command) = command_takes_memory s command
reading_takes_memory s (Err fault) = false

-- whether a command line takes memory
abbrev pub command_line_takes_memory : PlainSession → Bool
command_line_takes_memory s = reading_takes_memory s (command_of s.typed)

-- whether the typed line takes memory where it is entered: phrase text does where it is wanted
abbrev pub line_takes_memory : PlainSession → Bool
line_takes_memory s =
    if length s.typed == 0
    then false
    else (if begins_with_point s.typed then command_line_takes_memory s else is_some (category_at s.tree s.stop))

-- whether a key takes memory: Enter may
abbrev pub key_takes_memory : PlainSession → Key → Bool
key_takes_memory s Enter = line_takes_memory s
key_takes_memory s _ = false
