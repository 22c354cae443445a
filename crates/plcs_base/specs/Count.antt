-- Counts that are raised by one, once or many times, and stop at the greatest number that a u64 holds.
use Rattle.std.specs.Prelude.{ℕ, ◌+◌, ◌-◌, ◌^◌, ◌≤◌, min, max}

-- the count after one more; at its last value it stays
abbrev pub raised : ℕ → ℕ
raised count = max count (min (count + 1) (2 ^ 64 - 1))

-- a count was raised by one or more between two moments, or was at its greatest number already
abbrev pub Rose : ℕ → ℕ → Type 0
Rose before now = raised before ≤ now

-- a count was raised by so much between two moments, or is at its greatest number
abbrev pub RoseBy : ℕ → ℕ → ℕ → Type 0
RoseBy much before now = min (before + much) (2 ^ 64 - 1) ≤ now

-- the count once it was raised so many times; at its last value it stays
abbrev pub raised_by : ℕ → ℕ → ℕ
raised_by much count = max count (min (count + much) (2 ^ 64 - 1))
