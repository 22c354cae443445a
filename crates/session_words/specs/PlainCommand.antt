-- Commands as plain data: the bytes stand in place of each name, text and file name.
use Rattle.std.specs.Prelude.{ℕ, List, Result, Ok, Err}
use Rattle.plcs_grammar.specs.declared.template.Template.{Template}
use Rattle.session_words.specs.declared.command.Command.{Command}
use Rattle.session_words.specs.declared.command.Command.TheVariants as asked
use Rattle.session_words.specs.declared.command.CommandFault.{CommandFault}

-- a command as plain data, which is what a command line asks for
pub data PlainCommand : Type 0 where
  template : Template → PlainCommand
  float : PlainCommand
  before : PlainCommand
  after : PlainCommand
  del : PlainCommand
  cut : List ℕ → PlainCommand
  copy : List ℕ → PlainCommand
  insert : List ℕ → PlainCommand
  elide : PlainCommand
  undo : PlainCommand
  top : PlainCommand
  bottom : PlainCommand
  run : PlainCommand
  step : ℕ → PlainCommand
  resume : PlainCommand
  back : ℕ → PlainCommand
  trace : PlainCommand
  input : List ℕ → PlainCommand
  save : List ℕ → PlainCommand
  load : List ℕ → PlainCommand
  code : ℕ → PlainCommand
  quit : PlainCommand

-- the plain form of a command
abbrev pub plain_command : Command → PlainCommand
plain_command (asked.Template t) = PlainCommand.template t
plain_command asked.Float = PlainCommand.float
plain_command asked.Before = PlainCommand.before
plain_command asked.After = PlainCommand.after
plain_command asked.Del = PlainCommand.del
plain_command (asked.Cut name) = PlainCommand.cut name
plain_command (asked.Copy name) = PlainCommand.copy name
plain_command (asked.Insert name) = PlainCommand.insert name
plain_command asked.Elide = PlainCommand.elide
plain_command asked.Undo = PlainCommand.undo
plain_command asked.Top = PlainCommand.top
plain_command asked.Bottom = PlainCommand.bottom
plain_command asked.Run = PlainCommand.run
plain_command (asked.Step n) = PlainCommand.step n
plain_command asked.Resume = PlainCommand.resume
plain_command (asked.Back n) = PlainCommand.back n
plain_command asked.Trace = PlainCommand.trace
plain_command (asked.Input text) = PlainCommand.input text.now
plain_command (asked.Save file) = PlainCommand.save file.now
plain_command (asked.Load file) = PlainCommand.load file.now
plain_command (asked.Code n) = PlainCommand.code n
plain_command asked.Quit = PlainCommand.quit

-- as plain data, what a line is read as: a command, or why there is none
abbrev pub PlainReading : Type 0
PlainReading = Result PlainCommand CommandFault

-- the plain form of what a line is read as: of a command, or of why there is none
abbrev pub plain_reading : Result Command CommandFault → PlainReading
plain_reading (Ok command) = Ok (plain_command command)
plain_reading (Err fault) = Err fault
