-- What a read does to the bytes left, where they are told.
use Rattle.std.specs.Prelude.{◌≡◌, ℕ, ◌≤◌, ◌↔◌, List, [], length, take, Option, Some, None, Result, IfOk, OnErr}
use Rattle.std.specs.Io.KnownBytes.{Consumes, IsAtEnd}

-- a read gives 0 bytes exactly where no byte was left
abbrev pub IsZeroAtEnd : Option (List ℕ) → ℕ → Type 0
IsZeroAtEnd None count = Unit {0}
IsZeroAtEnd (Some left) count = (count ≡ 0) ↔ (left ≡ [])

-- what a failed read may lose: the bytes left are those before, perhaps without some first ones, at
-- most so many
abbrev pub LosesAtMost : Option (List ℕ) → Option (List ℕ) → ℕ → Type 0
LosesAtMost before now most = (lost : List ℕ) × (length lost ≤ most) × Consumes before now lost

-- a read answered the count of bytes that it moved from those left into the front of the buffer,
-- none only at the end; where it isn't Ok it lost at most as many as the buffer holds
pub record GivesBytes {E : Type 0} (before now : Option (List ℕ)) (buf : List ℕ)
    (result : Result ℕ E) : Type 0 where
  pub count : IfOk result (λ n. n ≤ length buf)
  pub given : IfOk result (λ n. Consumes before now (take n buf))
  pub ended : IfOk result (λ n. n ≡ 0 → IsAtEnd now)
  pub exact_end : IfOk result (λ n. IsZeroAtEnd before n)
  pub lost : OnErr result (LosesAtMost before now (length buf))
