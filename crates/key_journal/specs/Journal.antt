-- What a journal of keys is seen as.
use Rattle.std.specs.Prelude.{ℕ, List, [], ◌++◌, ◌∷◌, Option, Some, None, Bool, drop, min, ◌+◌, ◌-◌, ◌^◌}
use Rattle.key_journal.specs.Disk.{DiskState}
use Rattle.key_journal.specs.Recovered.{recovered}

-- what a journal is seen as: the source of new keys, the disk, how many keys were given, whether the
-- last answer was the end, and how many reads there were
pub record PlainJournalKeys (S D : Type 0) : Type 0 where
  pub inner : S
  pub disk : D
  pub given : ℕ
  pub ended : Bool
  pub reads : ℕ

-- what a journal has left to give: the recovered keys that weren't given yet, and then the bytes that
-- are left of the source, where both are told
abbrev pub left_of_both : Option (List ℕ) → List DiskState → ℕ → Option (List ℕ)
left_of_both None past given = None
left_of_both (Some left) [] given = None
left_of_both (Some left) (state ∷ past) given = Some (drop given (recovered state.bytes) ++ left)

-- a journal's count of faults: the sum of those of its source and its disk, which stops at the greatest
-- number that a u64 holds
abbrev pub both_counts : ℕ → ℕ → ℕ
both_counts one other = min (one + other) (2 ^ 64 - 1)
