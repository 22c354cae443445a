-- What a source in memory is seen as.
use Rattle.std.specs.Prelude.{ℕ, List}
use Rattle.synth_outside.specs.Calls.{PlainCalls}

-- what a source in memory is seen as: the bytes that are left to read, and the calls
pub record PlainMemSource : Type 0 where
  pub left : List ℕ
  pub calls : PlainCalls
