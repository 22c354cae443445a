-- The argument of a command: what may stand behind its word, and the command that it makes.
use Rattle.std.specs.Prelude.{ℕ, Bool, ◌&&◌, not, nat_le, List, [], ◌∷◌, length, codes, Option, None, Some, Ok, Err, if◌then◌else◌}
use Rattle.std.specs.List.{list_all}
use Rattle.plcs_base.specs.Byte.{is_blank, is_digit, is_printable}
use Rattle.plcs_base.specs.Name.{is_name}
use Rattle.plcs_grammar.specs.Token.{numeral_value}
use Rattle.session_words.specs.declared.command.CommandFault.TheVariants.{WrongArgument}
use Rattle.session_words.specs.declared.limit.TheConstants.{LONGEST_FILE_NAME}
use Rattle.session_words.specs.PlainCommand.{PlainCommand, PlainReading}

-- what a command takes behind its word, and the command that it makes of it; no bytes are no argument
pub data PlainArgumentRule : Type 0 where
  -- no argument
  nothing : PlainCommand → PlainArgumentRule
  -- a name, and where it is left out, that of the clip
  name : (List ℕ → PlainCommand) → PlainArgumentRule
  -- a number from the least to the most, and where it is left out, another
  number : (least most otherwise : ℕ) → (ℕ → PlainCommand) → PlainArgumentRule
  -- a text
  text : (List ℕ → PlainCommand) → PlainArgumentRule
  -- the name of a file
  file : (List ℕ → PlainCommand) → PlainArgumentRule

-- the name of the clip that is meant where no argument names one
abbrev pub default_clip : List ℕ
default_clip = codes "clip"

-- the clip's name that the argument is, if it is one; no argument is the name of the clip that is then meant
abbrev pub name_in : List ℕ → Option (List ℕ)
name_in [] = Some default_clip
name_in (byte ∷ rest) = if is_name (byte ∷ rest) then Some (byte ∷ rest) else None

-- whether an argument is digits, of which there is one or more
abbrev pub is_numeral : List ℕ → Bool
is_numeral bytes = nat_le 1 (length bytes) && list_all is_digit bytes

-- the number that the argument is, if it is one and lies from the least to the most; it may have any
-- count of digits and leading zeros
unfoldable pub number_between : ℕ → ℕ → List ℕ → Option ℕ
number_between least most argument =
    if is_numeral argument && (nat_le least (numeral_value argument) && nat_le (numeral_value argument) most)
    then Some (numeral_value argument) else None

-- the number of a range that the argument is, if it is one; no argument is the one that is meant where none is given
abbrev pub number_in : ℕ → ℕ → ℕ → List ℕ → Option ℕ
number_in least most otherwise [] = Some otherwise
number_in least most otherwise (byte ∷ rest) = number_between least most (byte ∷ rest)

-- the text that the argument is, which is any bytes
abbrev pub text_in : List ℕ → Option (List ℕ)
text_in [] = None
text_in (byte ∷ rest) = Some (byte ∷ rest)

-- whether the byte may stand in an argument that is a file name: it is printable and no blank
abbrev pub is_file_byte : ℕ → Bool
is_file_byte byte = is_printable byte && not (is_blank byte)

-- how many bytes the argument of a command may have that is a file name
abbrev pub longest_file_name : ℕ
longest_file_name = LONGEST_FILE_NAME

-- whether an argument is a file name
abbrev pub is_file_name : List ℕ → Bool
is_file_name bytes =
    nat_le 1 (length bytes) && (nat_le (length bytes) longest_file_name && list_all is_file_byte bytes)

-- the file name that the argument is, if it is one
abbrev pub file_name_in : List ℕ → Option (List ℕ)
file_name_in argument = if is_file_name argument then Some argument else None

-- the command that is made of what the argument was read as, if it is what the command takes
abbrev pub command_from : {X : Type 0} → (X → PlainCommand) → Option X → PlainReading
command_from make (Some x) = Ok (make x)
command_from make None = Err WrongArgument

-- the command that the argument makes, by what is taken behind the word
abbrev pub command_with : PlainArgumentRule → List ℕ → PlainReading
command_with (PlainArgumentRule.nothing command) [] = Ok command
command_with (PlainArgumentRule.nothing command) (byte ∷ rest) = Err WrongArgument
command_with (PlainArgumentRule.name make) argument = command_from make (name_in argument)
command_with (PlainArgumentRule.number least most otherwise make) argument =
    command_from make (number_in least most otherwise argument)
command_with (PlainArgumentRule.text make) argument = command_from make (text_in argument)
command_with (PlainArgumentRule.file make) argument = command_from make (file_name_in argument)
