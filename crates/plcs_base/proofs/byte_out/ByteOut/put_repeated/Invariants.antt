use Rattle.std.specs.Prelude.{replicate}
use Rattle.plcs_base.specs.Put.{PutsAll}
use Rattle.plcs_base.proofs.byte_out.ByteOut.put_repeated.Given as goal

abbrev pub invariant-times : goal.invariant-times
invariant-times g l = PutsAll g.Self.ByteOut.puts l.fn.self (replicate l.counter l.byte) l.self
