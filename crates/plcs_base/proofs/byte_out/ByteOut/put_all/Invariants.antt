use Rattle.std.proofs.Common.{take}
use Rattle.plcs_base.specs.Put.{PutsAll}
use Rattle.plcs_base.proofs.byte_out.ByteOut.put_all.Given as goal

abbrev pub invariant-loop-byte : goal.invariant-loop-byte
invariant-loop-byte g l = PutsAll g.Self.ByteOut.puts l.fn.self (take l.byte-index l.bytes) l.self
