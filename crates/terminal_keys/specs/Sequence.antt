-- The sequences that a terminal's bytes are made of, and what passes of each to the editor.
use Rattle.std.specs.Prelude.{ℕ, ◌-◌, Bool, true, not, ◌&&◌, ◌||◌, ◌==◌, nat_lt, nat_le, bytes_eq, List, [], ◌∷◌, ◌++◌, length, flat_map, slice_index, if◌then◌else◌}
use Rattle.plcs_base.specs.Byte.{is_printable}
use Rattle.terminal_keys.specs.declared.sequence.TheConstants.{LONGEST}

-- ---- where a sequence ends

-- how many bytes a letter beyond ASCII has behind the one with which it begins; a byte with which none begins has none
abbrev pub trailing_bytes : ℕ → ℕ
trailing_bytes first =
    if nat_lt first 192 then 0
    else (if nat_lt first 224 then 1
    else (if nat_lt first 240 then 2
    else (if nat_lt first 248 then 3
    else 0)))

-- whether a byte stands behind the first of a letter beyond ASCII
abbrev pub is_trailing : ℕ → Bool
is_trailing byte = nat_le 128 byte && nat_lt byte 192

-- whether a byte ends the sequence of a key: none of those before it does
abbrev pub is_final : ℕ → Bool
is_final byte = nat_le 64 byte && nat_le byte 126

-- whether ESC stands first in a sequence
abbrev pub is_escape : List ℕ → Bool
is_escape sequence = slice_index sequence 0 == 27

-- whether a sequence begins as that of a function key of the Linux console: ESC, `[` and `[`
abbrev pub is_console_key : List ℕ → Bool
is_console_key sequence = slice_index sequence 1 == 91 && slice_index sequence 2 == 91

-- whether a sequence begins as a mouse's: ESC, `[` and `M`, behind which three bytes tell the button and the place
abbrev pub is_mouse : List ℕ → Bool
is_mouse sequence = slice_index sequence 1 == 91 && slice_index sequence 2 == 77

-- whether a sequence that ESC begins has its last byte: that of the console has four, a mouse's six, and any other ends
-- with the first byte behind `[` or `O` that can end it
abbrev pub is_whole_escape : List ℕ → Bool
is_whole_escape sequence =
    if is_console_key sequence then nat_le 4 (length sequence)
    else (if is_mouse sequence then nat_le 6 (length sequence)
    else nat_le 3 (length sequence) && is_final (slice_index sequence (length sequence - 1)))

-- whether a sequence has its last byte: a letter beyond ASCII has all of its bytes, and every other byte that isn't ESC
-- is a sequence by itself. The longest are cut off
unfoldable pub is_whole : List ℕ → Bool
is_whole sequence = nat_le LONGEST (length sequence) ||
    (if is_escape sequence then is_whole_escape sequence
    else nat_lt (trailing_bytes (slice_index sequence 0)) (length sequence))

-- whether a byte can stand in a sequence behind those before it: any at its beginning, `[` or `O` behind ESC, and
-- behind these what is printed; a mouse may send bytes beyond ASCII
unfoldable pub can_follow : List ℕ → ℕ → Bool
can_follow begun byte =
    if nat_le (length begun) 0 then true
    else (if not (is_escape begun) then is_trailing byte
    else (if nat_le (length begun) 1 then byte == 91 || byte == 79
    else (if is_mouse begun then nat_le 32 byte
    else is_printable byte)))

-- whether a byte belongs to the sequence that the bytes before it have begun
abbrev pub belongs : List ℕ → ℕ → Bool
belongs begun byte = not (is_whole begun) && can_follow begun byte

-- the sequence that some bytes have begun, if there is a byte
abbrev pub begun_alone : List ℕ → List (List ℕ)
begun_alone [] = []
begun_alone (first ∷ rest) = (first ∷ rest) ∷ []

-- the sequences of bytes, the first of which has begun with the bytes before these: each byte that belongs to the
-- sequence before it goes on with it, and every other one begins the next. The last may lack bytes
unfoldable pub sequences : (begun bytes : List ℕ) → List (List ℕ)
sequences begun [] = begun_alone begun
sequences begun (byte ∷ rest) =
    if belongs begun byte then sequences (begun ++ byte ∷ []) rest
    else begun ∷ sequences (byte ∷ []) rest

-- ---- what passes

-- the bytes of an arrow, by its letter
abbrev pub arrow : ℕ → List ℕ
arrow letter = 27 ∷ 91 ∷ letter ∷ []

-- the arrow Up
abbrev pub up : List ℕ
up = arrow 65

-- the arrow Down
abbrev pub down : List ℕ
down = arrow 66

-- the arrow Right
abbrev pub right : List ℕ
right = arrow 67

-- the arrow Left
abbrev pub left : List ℕ
left = arrow 68

-- ESC, `[`, the page key's number and `~`: the bytes of PageUp and PageDown
abbrev pub page_key : ℕ → List ℕ
page_key number = 27 ∷ 91 ∷ number ∷ 126 ∷ []

-- five arrows, one behind the other
abbrev pub five_times : List ℕ → List ℕ
five_times arrow = arrow ++ (arrow ++ (arrow ++ (arrow ++ arrow)))

-- whether a sequence is an arrow's
abbrev pub is_arrow : List ℕ → Bool
is_arrow sequence =
    bytes_eq sequence up || (bytes_eq sequence down || (bytes_eq sequence right || bytes_eq sequence left))

-- what passes of a sequence that has its last byte: an ASCII byte and an arrow as they are, ten arrows of a page key,
-- and nothing of every other one
unfoldable pub passed_of_whole : List ℕ → List ℕ
passed_of_whole sequence =
    if length sequence == 1 then (if nat_lt (slice_index sequence 0) 128 then sequence else [])
    else (if is_arrow sequence then sequence
    else (if bytes_eq sequence (page_key 53) then five_times up ++ five_times up
    else (if bytes_eq sequence (page_key 54) then five_times down ++ five_times down
    else [])))

-- what passes of a sequence: nothing where it lacks bytes
abbrev pub passed_of_sequence : List ℕ → List ℕ
passed_of_sequence sequence = if is_whole sequence then passed_of_whole sequence else []

-- what is rung of a sequence: a bell where nothing passes
abbrev pub bell : List ℕ → List ℕ
bell sequence = if nat_le (length (passed_of_sequence sequence)) 0 then 7 ∷ [] else []

-- what all sequences of bytes give, in their order, where one gives this
abbrev pub of_sequences : (List ℕ → List ℕ) → (begun bytes : List ℕ) → List ℕ
of_sequences given begun bytes = flat_map given (sequences begun bytes)

-- what passes to the editor of all sequences that a terminal's bytes are made of
abbrev pub passed_of : List ℕ → List ℕ
passed_of bytes = of_sequences passed_of_sequence [] bytes

-- the bells of all sequences that a terminal's bytes are made of: one for each of which nothing passes to the editor
abbrev pub bells_of : List ℕ → List ℕ
bells_of bytes = of_sequences bell [] bytes
