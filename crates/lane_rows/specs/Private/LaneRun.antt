-- Runs of lanes: how many elements from a place on pass a test, of the 32 that one vector has.
use Rattle.std.specs.Prelude.{◌≡◌, ℕ, ◌+◌, ◌<◌, ◌≤◌, if◌then◌else◌, ◌==◌, Bool, true, false, List, slice_index}
use Rattle.std.specs.Int.{w64, trailing_zeros}

-- the first lane that is set in a mask, or 32
abbrev pub first_set : ℕ → ℕ
first_set mask = if mask == 0 then 32 else trailing_zeros w64 mask

-- the elements from a place up to another pass the test of the lanes
abbrev pub PassBetween : (ℕ → Bool) → List ℕ → ℕ → ℕ → Type 0
PassBetween test xs at end = (k : ℕ) → at ≤ k → k < end → test (slice_index xs k) ≡ true

-- so many lanes from a place on pass the test, one after the other, and then one of the 32 fails it, if there is one
abbrev pub IsRunIn : (ℕ → Bool) → List ℕ → ℕ → ℕ → Type 0
IsRunIn test xs at run =
    (run ≤ 32) × PassBetween test xs at (at + run) × (run < 32 → test (slice_index xs (at + run)) ≡ false)
