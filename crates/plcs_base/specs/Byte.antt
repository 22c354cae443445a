-- Classes of bytes.
use Rattle.std.specs.Prelude.{ℕ, Bool, ◌&&◌, ◌||◌, ◌==◌, nat_le}

-- whether the byte is a letter: `a` to `z` or `A` to `Z`
abbrev pub is_letter : ℕ → Bool
is_letter byte = (nat_le 97 byte && nat_le byte 122) || (nat_le 65 byte && nat_le byte 90)

-- whether the byte is a digit: `0` to `9`
abbrev pub is_digit : ℕ → Bool
is_digit byte = nat_le 48 byte && nat_le byte 57

-- whether the byte is a letter, a digit or `_`: the class of bytes that may follow in a name
abbrev pub is_name_byte : ℕ → Bool
is_name_byte byte = is_letter byte || (is_digit byte || (byte == 95))

-- whether the byte is a blank
abbrev pub is_blank : ℕ → Bool
is_blank byte = byte == 32

-- whether a phrase may have the byte: the blank, and what is seen
abbrev pub is_printable : ℕ → Bool
is_printable byte = nat_le 32 byte && nat_le byte 126
