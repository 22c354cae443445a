-- Which command a line is.
use Rattle.std.specs.Prelude.{ℕ, Bool, true, ◌==◌, List, [], ◌∷◌, take, drop, Option, None, Some, Err, if◌then◌else◌}
use Rattle.std.specs.List.{prefix_len}
use Rattle.plcs_base.specs.Byte.{is_blank, is_letter}
use Rattle.plcs_grammar.specs.TrimmedText.{trimmed}
use Rattle.plcs_grammar.specs.Token.{begins_with}
use Rattle.session_words.specs.declared.command.CommandFault.TheVariants.{UnknownCommand}
use Rattle.session_words.specs.PlainCommand.{PlainReading}
use Rattle.session_words.specs.Argument.{PlainArgumentRule, command_with}
use Rattle.session_words.specs.CommandTable.{argument_rule_of}

-- whether the first byte of a line is the point with which command lines begin
abbrev pub begins_with_point : List ℕ → Bool
begins_with_point line = begins_with (λ byte. byte == 46) line

-- how many letters stand behind the point of a command line
abbrev pub word_length : List ℕ → ℕ
word_length line = prefix_len is_letter (drop 1 line)

-- the word of a command line: the letters behind its point
abbrev pub word_of : List ℕ → List ℕ
word_of line = take (word_length line) (drop 1 line)

-- what stands behind the word of a command line
abbrev pub behind_word : List ℕ → List ℕ
behind_word line = drop (word_length line) (drop 1 line)

-- whether a command's word ends before these bytes: there are none, or they begin with a blank
abbrev pub is_word_end : List ℕ → Bool
is_word_end [] = true
is_word_end (byte ∷ rest) = is_blank byte

-- the word of a line, if it has the form of a command line
abbrev pub command_word : List ℕ → Option (List ℕ)
command_word line = if is_word_end (behind_word line) then Some (word_of line) else None

-- the argument of a command line, without blanks at its ends; where nothing is left, there is none
abbrev pub argument_of : List ℕ → List ℕ
argument_of line = trimmed (behind_word line)

-- which command a line is whose word has this row in the table of commands, or none, and behind which this argument
-- stands
abbrev pub command_by : Option PlainArgumentRule → List ℕ → PlainReading
command_by (Some rule) argument = command_with rule argument
command_by None argument = Err UnknownCommand

-- the command that the line is, or why it is none
unfoldable pub command_of : List ℕ → PlainReading
command_of line =
    if is_word_end (behind_word line) then command_by (argument_rule_of (word_of line)) (argument_of line)
    else Err UnknownCommand
