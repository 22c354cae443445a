use Rattle.std.proofs.Common.{take, map}
use Rattle.plcs_grammar.specs.PlainPhrase.{plain_var_ref}
use Rattle.plcs_code.specs.ExprCode.{items_instrs}
use Rattle.plcs_code.specs.Private.LaysAll.{LaysAll}
use Rattle.plcs_code.proofs.lay_phrase.lay_items.Given as goal

abbrev pub invariant-loop-k : goal.invariant-loop-k
invariant-loop-k g l =
    LaysAll g.O.InstrOut.lays l.fn.out (g.W.Work.counts l.fn.work) (items_instrs l.slot.0 0 (map plain_var_ref (take l.k l.targets))) l.out (g.W.Work.counts l.work)
