-- The buckets of a cache of lines, and what is held in them.
use Rattle.std.specs.Prelude.{◌≡◌, ℕ, ◌+◌, ◌%◌, ◌==◌, nat_lt, Bool, false, if◌then◌else◌, All, List, Option, Some, None, slice_index_or}
use Rattle.unparse_layout.specs.LaidLine.{PlainLine}
use Rattle.screen_window.specs.declared.line_cache.TheConstants.{MOST_LINES}
use Rattle.screen_window.specs.HeldLines.{PlainHeldLine}

-- nothing is held in the buckets
abbrev pub AreEmpty : List (Option PlainHeldLine) → Type 0
AreEmpty buckets = All (λ bucket. bucket ≡ None) buckets

-- the number of the bucket in which the line of the number is held, where both count from 0
abbrev pub bucket_of : ℕ → ℕ
bucket_of number = number % MOST_LINES

-- what is held in the bucket of the number
abbrev pub held_at : List (Option PlainHeldLine) → ℕ → Option PlainHeldLine
held_at buckets number = slice_index_or buckets (bucket_of number) None

-- whether what is held in a bucket is the line of the number
abbrev pub has_number : ℕ → Option PlainHeldLine → Bool
has_number number None = false
has_number number (Some held) = held.number == number

-- whether the line of the number is held
abbrev pub is_held : List (Option PlainHeldLine) → ℕ → Bool
is_held buckets number = has_number number (held_at buckets number)

-- the line that is held in a bucket, if one is
abbrev pub line_in : Option PlainHeldLine → Option PlainLine
line_in None = None
line_in (Some held) = held.line

-- the line that is held in the bucket of the number, if one is
abbrev pub held_line : List (Option PlainHeldLine) → ℕ → Option PlainLine
held_line buckets number = line_in (held_at buckets number)

-- the line that is held of a row of the window, which begins with the line of the number `top` and has so many rows
abbrev pub held_row : List (Option PlainHeldLine) → (top window row : ℕ) → Option PlainLine
held_row buckets top window row = if nat_lt row window then held_line buckets (top + row) else None
