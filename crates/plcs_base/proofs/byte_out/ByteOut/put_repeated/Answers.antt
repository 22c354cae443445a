use Rattle.std.proofs.lemmas.List.{replicate-append-replicate}
use Rattle.plcs_base.specs.Put.{puts_nothing}
use Rattle.plcs_base.specs.Putting.{puts_behind, puts_same}
use Rattle.plcs_base.proofs.byte_out.ByteOut.put_repeated.Goals as goal

pub times-init : goal.times-init
times-init g c = puts_nothing

pub times-preserved : goal.times-preserved
times-preserved g c =
    puts_same (replicate-append-replicate c.times.counter 1 c.args.byte) (puts_behind c.times.invariant c.put.ensures)
