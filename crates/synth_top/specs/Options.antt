-- The options of a whole run that edits.
use Rattle.std.specs.Prelude.{ℕ, Bool, true, ◌&&◌, nat_le, List, Option, None, Some, option_and_then, if◌then◌else◌}
use Rattle.std.specs.Option.{option_map_or}
use Rattle.screen_window.specs.declared.limit.TheConstants.{FEWEST_ROWS, MOST_ROWS, FEWEST_COLS, MOST_COLS}
use Rattle.session_words.specs.Argument.{is_file_name}
use Rattle.synth_session.specs.PlainScreenSize.{PlainScreenSize}
use Rattle.synth_top.specs.declared.options.TheConstants.{FEWEST_KEYS, MOST_KEYS, USUAL_ROWS, USUAL_COLS}
use Rattle.synth_top.specs.Given.{PlainGiven}
use Rattle.synth_top.specs.Number.{number_in_digits}

-- the options, as the words ask for them: the size of the screen, how many bytes of keys are taken at most, and
-- the names of the files with the program and with its input, if there are any
pub record PlainOptions : Type 0 where
  pub size : PlainScreenSize
  pub key_limit : ℕ
  pub program : Option (List ℕ)
  pub input : Option (List ℕ)

-- what an option of a whole run is by its word: a number in its range, `least` or more and `most` or less
abbrev pub count_between : ℕ → ℕ → List ℕ → Option ℕ
count_between least most word =
    option_and_then (λ n. if nat_le least n then Some n else None) (number_in_digits most word)

-- the number that the words of an option ask for, in its range: the one that they give, or else the usual one
abbrev pub count_given : ℕ → ℕ → (usual : ℕ) → Option (List ℕ) → Option ℕ
count_given least most usual None = Some usual
count_given least most usual (Some word) = count_between least most word

-- whether the words of an option name no file, or one by a name that a file may have
abbrev pub is_name_given : Option (List ℕ) → Bool
is_name_given name = option_map_or is_file_name name true

-- the options of a whole run that edits, by what words give: each number in its range, and each name of a file one that
-- a file may have
abbrev pub options_with : PlainGiven → Option PlainOptions
options_with given =
    option_and_then (λ rows.
    option_and_then (λ cols.
    option_and_then (λ keys.
    if is_name_given given.program && is_name_given given.input
    then Some
    (record {
      size = record { rows = rows; cols = cols };
      key_limit = keys;
      program = given.program;
      input = given.input;
    })
    else None)
    (count_given FEWEST_KEYS MOST_KEYS MOST_KEYS given.keys))
    (count_given FEWEST_COLS MOST_COLS USUAL_COLS given.cols))
    (count_given FEWEST_ROWS MOST_ROWS USUAL_ROWS given.rows)
