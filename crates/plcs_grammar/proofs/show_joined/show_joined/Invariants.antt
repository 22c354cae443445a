use Rattle.std.proofs.Common.{take}
use Rattle.plcs_base.specs.Put.{PutsAll}
use Rattle.plcs_grammar.specs.Canon.{joined}
use Rattle.plcs_grammar.proofs.show_joined.show_joined.Given as goal

abbrev pub invariant-loop-i : goal.invariant-loop-i
invariant-loop-i g l = PutsAll g.O.ByteOut.puts l.fn.out (joined g.T.Shown.shown (take l.i l.items)) l.out
