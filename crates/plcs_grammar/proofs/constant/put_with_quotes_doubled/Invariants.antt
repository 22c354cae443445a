use Rattle.std.proofs.Common.{take}
use Rattle.plcs_base.specs.Put.{PutsAll}
use Rattle.plcs_grammar.specs.Token.{with_quotes_doubled}
use Rattle.plcs_grammar.proofs.constant.put_with_quotes_doubled.Given as goal

abbrev pub invariant-loop-byte : goal.invariant-loop-byte
invariant-loop-byte g l = PutsAll g.O.ByteOut.puts l.fn.out (with_quotes_doubled (take l.byte-index l.bytes)) l.out
