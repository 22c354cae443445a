-- What a sink over a writer is seen as.
use Rattle.std.specs.Prelude.{ℕ}

-- what a sink over a writer is seen as: the writer, and how many writes failed
pub record PlainStdSink (W : Type 0) : Type 0 where
  pub inner : W
  pub faults : ℕ
