-- What a write does to the bytes taken, where they are told.
use Rattle.std.specs.Prelude.{ℕ, ◌<◌, ◌≤◌, List, Option, length, take, Result, IfOk, OnErr}
use Rattle.std.specs.Io.KnownBytes.{Appends}

-- a write took a prefix of the piece: the bytes taken are those before, and then this prefix
abbrev pub AppendsFront : Option (List ℕ) → Option (List ℕ) → List ℕ → Type 0
AppendsFront before now piece = (count : ℕ) × Appends before now (take count piece)

-- a write answered the count of bytes that it took from the front of the piece, at least one; where
-- it isn't Ok it took a prefix of the piece, perhaps none of it
pub record TakesBytes {E : Type 0} (before now : Option (List ℕ)) (piece : List ℕ)
    (result : Result ℕ E) : Type 0 where
  pub some : IfOk result (λ n. 0 < n)
  pub count : IfOk result (λ n. n ≤ length piece)
  pub accepted : IfOk result (λ n. Appends before now (take n piece))
  pub front : OnErr result (AppendsFront before now piece)
