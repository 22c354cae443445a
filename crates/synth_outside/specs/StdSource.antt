-- What a source over a reader is seen as.
use Rattle.std.specs.Prelude.{ℕ}

-- what a source over a reader is seen as: the reader, how many reads were made so far, and how many
-- failed
pub record PlainStdSource (R : Type 0) : Type 0 where
  pub inner : R
  pub reads : ℕ
  pub faults : ℕ
