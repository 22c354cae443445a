-- The plain form of what the code says that each command takes.
use Rattle.std.specs.Prelude.{ℕ, List}
use Rattle.session_words.specs.declared.argument_rule.ArgumentRule.{ArgumentRule}
use Rattle.session_words.specs.declared.argument_rule.ArgumentRule.TheVariants as rule
use Rattle.session_words.specs.declared.argument_rule.Alone.{Alone}
use Rattle.session_words.specs.declared.argument_rule.Alone.TheVariants as alone
use Rattle.session_words.specs.declared.argument_rule.Named.{Named}
use Rattle.session_words.specs.declared.argument_rule.Named.TheVariants as named
use Rattle.session_words.specs.declared.argument_rule.Numbered.{Numbered}
use Rattle.session_words.specs.declared.argument_rule.Numbered.TheVariants as numbered
use Rattle.session_words.specs.declared.argument_rule.Texted.{Texted}
use Rattle.session_words.specs.declared.argument_rule.Texted.TheVariants as texted
use Rattle.session_words.specs.declared.argument_rule.Filed.{Filed}
use Rattle.session_words.specs.declared.argument_rule.Filed.TheVariants as filed
use Rattle.session_words.specs.PlainCommand.{PlainCommand}
use Rattle.session_words.specs.Argument.{PlainArgumentRule}

-- the plain form of what the code says of a command without an argument
abbrev pub alone_command : Alone → PlainCommand
alone_command (alone.Template t) = PlainCommand.template t
alone_command alone.Float = PlainCommand.float
alone_command alone.Before = PlainCommand.before
alone_command alone.After = PlainCommand.after
alone_command alone.Del = PlainCommand.del
alone_command alone.Elide = PlainCommand.elide
alone_command alone.Undo = PlainCommand.undo
alone_command alone.Top = PlainCommand.top
alone_command alone.Bottom = PlainCommand.bottom
alone_command alone.Run = PlainCommand.run
alone_command alone.Resume = PlainCommand.resume
alone_command alone.Trace = PlainCommand.trace
alone_command alone.Quit = PlainCommand.quit

-- the plain form of what the code says of a command that takes the name of a clip
abbrev pub named_command : Named → List ℕ → PlainCommand
named_command named.Cut name = PlainCommand.cut name
named_command named.Copy name = PlainCommand.copy name
named_command named.Insert name = PlainCommand.insert name

-- the plain form of what the code says of a command that takes a number
abbrev pub numbered_command : Numbered → ℕ → PlainCommand
numbered_command numbered.Step n = PlainCommand.step n
numbered_command numbered.Back n = PlainCommand.back n
numbered_command numbered.Code n = PlainCommand.code n

-- the plain form of what the code says of a command that takes a text
abbrev pub texted_command : Texted → List ℕ → PlainCommand
texted_command texted.Input text = PlainCommand.input text

-- the plain form of what the code says of a command that takes a file name
abbrev pub filed_command : Filed → List ℕ → PlainCommand
filed_command filed.Save name = PlainCommand.save name
filed_command filed.Load name = PlainCommand.load name

-- the plain form of what the code says that a command takes, with the command that it makes of it
abbrev pub plain_argument_rule : ArgumentRule → PlainArgumentRule
plain_argument_rule (rule.Nothing a) = PlainArgumentRule.nothing (alone_command a)
plain_argument_rule (rule.Name n) = PlainArgumentRule.name (named_command n)
plain_argument_rule (rule.Number range n) =
    PlainArgumentRule.number range.least range.most range.otherwise (numbered_command n)
plain_argument_rule (rule.Text t) = PlainArgumentRule.text (texted_command t)
plain_argument_rule (rule.File f) = PlainArgumentRule.file (filed_command f)
