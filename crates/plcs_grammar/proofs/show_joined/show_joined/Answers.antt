use Rattle.std.proofs.Common.{◌<◌, length, sym, arith}
use Rattle.plcs_base.specs.Put.{puts_nothing}
use Rattle.plcs_base.specs.Putting.{puts_same, puts_three}
use Rattle.plcs_grammar.proofs.JoinedTexts.{joined_next}
use Rattle.plcs_grammar.proofs.show_joined.show_joined.Goals as goal

pub loop-i-init : goal.loop-i-init
loop-i-init g c = puts_nothing

pub loop-i-preserved : goal.loop-i-preserved
loop-i-preserved g c =
    let inside : c.loop-i.i < length c.args.items.now = omega arith in
    let step = joined_next g.T.Shown.shown c.args.items.now c.loop-i.i c.index-items-i.result inside c.index-items-i.is in
    puts_same (sym step) (puts_three c.loop-i.invariant c.put_separator.ensures c.show.ensures)
