use Rattle.decl_table.specs.Private.UsesView.{IsSettling}
use Rattle.decl_table.proofs.uses.Uses.settle.Given as goal

abbrev pub invariant-loop-k : goal.invariant-loop-k
invariant-loop-k l = IsSettling l.k l.fn.self.uses l.self.uses
