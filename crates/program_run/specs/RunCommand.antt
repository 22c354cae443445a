-- The command that runs a saved program, as clap knows it.
use Rattle.std.specs.Prelude.{Some, true, codes}
use Rattle.clap.specs.Words.{App, Rule, new_app, new_rule, with_rule}
use Rattle.clap.specs.Simple.{on_top}

-- the command's option for the number of steps, by clap's rules: its value is the next word, or stands behind `=`
abbrev pub steps_option : Rule
steps_option = record (new_rule (codes "steps")) { long = Some (codes "steps") }

-- the command without its arguments: it has neither help nor version, and its first word is the first of all words
abbrev pub unflagged_command : App
unflagged_command =
    on_top (λ shape. record shape { no_binary_name = true; disable_help_flag = true; disable_version_flag = true })
    (new_app (codes "plcs_run"))

-- the command with its arguments, each once at most: the option, and two words that stand by themselves, the
-- program's file before the input's
abbrev pub run_command : App
run_command =
    with_rule
    (with_rule (with_rule unflagged_command steps_option) (new_rule (codes "program")))
    (new_rule (codes "input"))
