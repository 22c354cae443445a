-- Which keys are recovered from a journal's bytes: each key stands behind its gate, which is 1 where
-- it is open.
use Rattle.std.specs.Prelude.{ℕ, ◌==◌, List, [], ◌∷◌, if◌then◌else◌}
use Rattle.key_journal.specs.Disk.{DiskState, disk_bytes}

-- the keys that are recovered from bytes: those behind the gates, up to the first gate that isn't open
-- or has no key behind it
abbrev pub recovered : List ℕ → List ℕ
recovered [] = []
recovered (gate ∷ []) = []
recovered (gate ∷ key ∷ rest) = if gate == 1 then key ∷ recovered rest else []

-- the keys that are recovered from what a disk reads as
abbrev pub kept_keys : List DiskState → List ℕ
kept_keys past = recovered (disk_bytes past)
