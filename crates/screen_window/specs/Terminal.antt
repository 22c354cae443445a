-- What a plain terminal makes of bytes.
use Rattle.std.specs.Prelude.{ℕ, ◌+◌, ◌-◌, ◌*◌, min, Bool, true, false, ◌==◌, List, [], ◌++◌, take, replicate, slice_index_or, slice_set, fold, if◌then◌else◌}
use Rattle.plcs_base.specs.Byte.{is_digit, is_printable}
use Rattle.screen_window.specs.declared.sequence.Sequence.{Sequence}
use Rattle.screen_window.specs.declared.sequence.Sequence.TheVariants.{Absent, Escape, Behind}
use Rattle.screen_window.specs.declared.sequence.Gathered.{Gathered}
use Rattle.screen_window.specs.declared.sequence.Gathered.TheVariants.{Nothing, Digit, Number, Row, Position, Other}
use Rattle.unparse_layout.specs.LaidLine.{screen_cell}
use Rattle.screen_window.specs.ScreenCell.{blank}
use Rattle.screen_window.specs.PlainGrid.{blank_lines}
use Rattle.screen_window.specs.PlainTerminal.{PlainTerminal}

-- ---- digits and `;` behind `ESC [`

-- a number in a control sequence of the terminal with one more digit; one past 9999, which is past any screen, counts
-- as 9999
abbrev pub longer : ℕ → ℕ → ℕ
longer value digit = min (value * 10 + digit) 9999

-- what a terminal gathered of a sequence, and then a digit of this value
abbrev pub with_digit : Gathered → ℕ → Gathered
with_digit Nothing digit = Digit digit
with_digit (Digit value) digit = Number (longer value digit)
with_digit (Number value) digit = Number (longer value digit)
with_digit (Row row) digit = Position row digit
with_digit (Position row col) digit = Position row (longer col digit)
with_digit Other digit = Other

-- what a terminal gathered of a sequence, and then a `;`
abbrev pub with_separator : Gathered → Gathered
with_separator Nothing = Other
with_separator (Digit value) = Row value
with_separator (Number value) = Row value
with_separator (Row row) = Other
with_separator (Position row col) = Other
with_separator Other = Other

-- ---- what a byte does to cells, cursor and image

-- the same terminal with this taken of a sequence
abbrev pub with_sequence : PlainTerminal → Sequence → PlainTerminal
with_sequence z sequence = record z { sequence = sequence }

-- where a terminal's cursor is moved: of so many rows or columns, how many are before the one of this number, which
-- counts from 1; a number outside is cut to the nearest
abbrev pub nearest : ℕ → ℕ → ℕ
nearest count number = min (number - 1) (count - 1)

-- the terminal with its cursor moved to a row and a column, which count from 1
abbrev pub with_cursor_at : PlainTerminal → ℕ → ℕ → PlainTerminal
with_cursor_at z row col = record z { above = nearest z.rows row; before = nearest z.cols col }

-- the cells of the terminal's row in which its cursor is
abbrev pub cursor_line : PlainTerminal → List ℕ
cursor_line z = slice_index_or z.lines z.above []

-- the terminal with another row where the cursor is
abbrev pub with_line : PlainTerminal → List ℕ → PlainTerminal
with_line z line = record z { lines = slice_set z.lines z.above line }

-- the terminal after a printable byte: the cell at the cursor is set in the current image, and the cursor moves right,
-- but at the last column
abbrev pub typed : PlainTerminal → ℕ → PlainTerminal
typed z byte = record (with_line z (slice_set (cursor_line z) z.before (screen_cell z.negative byte)))
    { before = min (z.before + 1) (z.cols - 1) }

-- the terminal with blanks from the cursor to the row's end
abbrev pub tail_blanked : PlainTerminal → PlainTerminal
tail_blanked z = with_line z (take z.before (cursor_line z) ++ replicate (z.cols - z.before) blank)

-- the terminal with blanks everywhere
abbrev pub cleared : PlainTerminal → PlainTerminal
cleared z = record z { lines = blank_lines z.rows z.cols }

-- the terminal with the image set
abbrev pub with_image : PlainTerminal → Bool → PlainTerminal
with_image z negative = record z { negative = negative }

-- ---- what ends a sequence

-- what a terminal makes of one digit and then the byte that ends the sequence: `2J`, `7m` and `0m`
abbrev pub ended_after_digit : PlainTerminal → ℕ → ℕ → PlainTerminal
ended_after_digit z digit byte =
    if byte == 74 then (if digit == 2 then cleared z else z)
    else (if byte == 109 then (if digit == 7 then with_image z true else (if digit == 0 then with_image z false else z))
    else z)

-- what a terminal makes of what it gathered and then the byte that ends the sequence: `K`, a position and `H`, or what
-- stands behind one digit; any other does nothing
abbrev pub ended : PlainTerminal → Gathered → ℕ → PlainTerminal
ended z Nothing byte = if byte == 75 then tail_blanked z else z
ended z (Digit digit) byte = ended_after_digit z digit byte
ended z (Number value) byte = z
ended z (Row row) byte = z
ended z (Position row col) byte = if byte == 72 then with_cursor_at z row col else z
ended z Other byte = z

-- ---- bytes

-- what a terminal makes of one byte, by what was taken of a sequence
abbrev pub terminal_after_in : Sequence → PlainTerminal → ℕ → PlainTerminal
terminal_after_in Absent z byte =
    if byte == 27 then with_sequence z Escape else (if is_printable byte then typed z byte else z)
terminal_after_in Escape z byte = with_sequence z (if byte == 91 then Behind Nothing else Absent)
terminal_after_in (Behind gathered) z byte =
    if is_digit byte then with_sequence z (Behind (with_digit gathered (byte - 48)))
    else (if byte == 59 then with_sequence z (Behind (with_separator gathered))
    else with_sequence (ended z gathered byte) Absent)

-- what a terminal makes of one byte
abbrev pub terminal_after : PlainTerminal → ℕ → PlainTerminal
terminal_after z byte = terminal_after_in z.sequence z byte

-- the terminal after some bytes
unfoldable pub Term : PlainTerminal → List ℕ → PlainTerminal
Term z bytes = fold terminal_after z bytes
