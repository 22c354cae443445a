-- Cells of a screen: a byte in default image, or in negative image, as `screen_cell` of the lines says.
use Rattle.std.specs.Prelude.{ℕ, ◌-◌, Bool, nat_le, ◌||◌}
use Rattle.plcs_base.specs.Byte.{is_printable}

-- the cell of a blank in default image
abbrev pub blank : ℕ
blank = 32

-- whether a cell is in negative image
abbrev pub is_negative : ℕ → Bool
is_negative cell = nat_le 256 cell

-- whether a number is a cell: a printable byte in one of the two images
abbrev pub is_screen_cell : ℕ → Bool
is_screen_cell cell = is_printable cell || is_printable (cell - 256)
