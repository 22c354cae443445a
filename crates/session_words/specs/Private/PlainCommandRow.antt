-- What a row of the code's table stands for.
use Rattle.session_words.specs.declared.command_table.CommandRow.{CommandRow}
use Rattle.session_words.specs.CommandTable.{PlainCommandRow, command_row}
use Rattle.session_words.specs.Private.PlainArgumentRule.{plain_argument_rule}

-- what a row of the code's table of commands stands for: the row of the definitions with the same word
abbrev pub plain_command_row : CommandRow → PlainCommandRow
plain_command_row r = command_row r.word.now (plain_argument_rule r.rule)
