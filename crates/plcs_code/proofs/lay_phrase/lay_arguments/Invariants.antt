use Rattle.std.proofs.Common.{take}
use Rattle.plcs_grammar.specs.PlainPhrase.{plain_exprs}
use Rattle.plcs_code.specs.ExprCode.{arguments_instrs}
use Rattle.plcs_code.specs.Private.LaysAll.{LaysAll}
use Rattle.plcs_code.proofs.lay_phrase.lay_arguments.Given as goal

abbrev pub invariant-loop-argument : goal.invariant-loop-argument
invariant-loop-argument g l =
    LaysAll g.O.InstrOut.lays l.fn.out (g.W.Work.counts l.fn.work) (arguments_instrs (plain_exprs (take l.argument-index l.arguments))) l.out (g.W.Work.counts l.work)
