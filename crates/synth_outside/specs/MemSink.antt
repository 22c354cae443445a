-- What a sink in memory is seen as.
use Rattle.std.specs.Prelude.{ℕ, List}
use Rattle.synth_outside.specs.Calls.{PlainCalls}

-- what a sink in memory is seen as: the bytes that it took, the calls, and the wants of memory
pub record PlainMemSink : Type 0 where
  pub taken : List ℕ
  pub calls : PlainCalls
  pub wants : ℕ
