use Rattle.std.proofs.Common.{sym}
use Rattle.plcs_code.specs.Private.LaysAll.{lays_nothing}
use Rattle.plcs_code.proofs.LaidLists.{arguments_next}
use Rattle.plcs_code.proofs.Laying.{lays_append, lays_same}
use Rattle.plcs_code.proofs.lay_phrase.lay_arguments.Goals as goal

pub loop-argument-init : goal.loop-argument-init
loop-argument-init g c = lays_nothing

pub loop-argument-preserved : goal.loop-argument-preserved
loop-argument-preserved g c =
    lays_same
    (sym (arguments_next c.args.arguments.now c.loop-argument.argument-index c.argument-item.result c.loop-argument-test.true c.argument-item.is))
    (lays_append c.loop-argument.invariant c.lay_argument.ensures)
