-- Bytes of a text in lines: those that end a line, and those that may stand in it.
use Rattle.std.specs.Prelude.{ℕ, Bool, ◌&&◌, ◌||◌, ◌==◌, nat_le}

-- whether the byte ends a line of a text
abbrev pub is_line_end : ℕ → Bool
is_line_end byte = byte == 10

-- whether a text in lines may have the byte: a line end, or one that is printed, from 32 to 126
abbrev pub is_text_byte : ℕ → Bool
is_text_byte byte = is_line_end byte || (nat_le 32 byte && nat_le byte 126)
