-- The command as clap knows it.
use Rattle.std.specs.Prelude.{Some, true, codes, List}
use Rattle.clap.specs.Words.{App, Row, Rule, Text, first_of, first_value, new_app, new_rule, with_rule}
use Rattle.clap.specs.Simple.{on_top}
use Rattle.clap.specs.declared.parser.matches.Found.{Found}
use Rattle.synth_top.specs.Given.{PlainGiven}

-- clap's rule for an option of a name, with a value
abbrev pub option_rule : Text → Rule
option_rule name = record (new_rule name) { long = Some name }

-- a command of clap with neither help nor version, whose first word is the first of its words
abbrev pub bare_app : App
bare_app =
    on_top
    (λ shape. record shape { no_binary_name = true; disable_help_flag = true; disable_version_flag = true })
    (new_app (codes "synth"))

-- the command as clap knows it: five options, and a word that stands by itself
abbrev pub synth_app : App
synth_app =
    with_rule
    (with_rule
    (with_rule
    (with_rule
    (with_rule
    (with_rule bare_app (option_rule (codes "rows")))
    (option_rule (codes "cols")))
    (option_rule (codes "keys")))
    (option_rule (codes "input")))
    (option_rule (codes "make")))
    (new_rule (codes "program"))

-- what clap's matches give
abbrev pub given_of_matches : Found → PlainGiven
given_of_matches found = record {
  rows = first_value found (codes "rows");
  cols = first_value found (codes "cols");
  keys = first_value found (codes "keys");
  input = first_value found (codes "input");
  make = first_value found (codes "make");
  program = first_value found (codes "program");
}

-- what the rows of clap's matches give
abbrev pub given_of_rows : List Row → PlainGiven
given_of_rows rows = record {
  rows = first_of (codes "rows") rows;
  cols = first_of (codes "cols") rows;
  keys = first_of (codes "keys") rows;
  input = first_of (codes "input") rows;
  make = first_of (codes "make") rows;
  program = first_of (codes "program") rows;
}
