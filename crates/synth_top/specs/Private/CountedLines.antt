-- Line ends of a listing that are counted one after the other.
use Rattle.std.specs.Prelude.{ℕ, ◌+◌, ◌==◌, min, if◌then◌else◌}

-- the count of line ends after one more byte of a listing; at the greatest number of a u32 it stays
abbrev pub counted_after : (count byte : ℕ) → ℕ
counted_after count byte = if byte == 10 then min (count + 1) 4294967295 else count
