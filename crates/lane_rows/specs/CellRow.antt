-- Rows of cells: where two of them differ, and where the last cell stands that isn't a blank.
use Rattle.std.specs.Prelude.{◌≡◌, ◌≢◌, ℕ, ◌<◌, List, Option, Some, None, length, slice_index}

-- the least place at which two rows of cells of one length differ, or none where they don't
abbrev pub IsFirstDifference : List ℕ → List ℕ → Option ℕ → Type 0
IsFirstDifference a b None = (k : ℕ) → k < length a → slice_index a k ≡ slice_index b k
IsFirstDifference a b (Some i) =
    (i < length a) × (slice_index a i ≢ slice_index b i) × ((k : ℕ) → k < i → slice_index a k ≡ slice_index b k)

-- the greatest place at which two rows of cells of one length differ, or none where they don't
abbrev pub IsLastDifference : List ℕ → List ℕ → Option ℕ → Type 0
IsLastDifference a b None = (k : ℕ) → k < length a → slice_index a k ≡ slice_index b k
IsLastDifference a b (Some i) =
    (i < length a)
    × (slice_index a i ≢ slice_index b i)
    × ((k : ℕ) → i < k → k < length a → slice_index a k ≡ slice_index b k)

-- the greatest place of a cell in the row that isn't 32, the blank in default image, or none where all are
abbrev pub IsLastNonblank : List ℕ → Option ℕ → Type 0
IsLastNonblank a None = (k : ℕ) → k < length a → slice_index a k ≡ 32
IsLastNonblank a (Some i) =
    (i < length a) × (slice_index a i ≢ 32) × ((k : ℕ) → i < k → k < length a → slice_index a k ≡ 32)
