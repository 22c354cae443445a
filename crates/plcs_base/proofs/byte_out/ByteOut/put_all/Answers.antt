use Rattle.std.proofs.Common.{◌<◌, length, sym, arith}
use Rattle.std.proofs.lemmas.List.{take_more}
use Rattle.plcs_base.specs.Put.{puts_nothing}
use Rattle.plcs_base.specs.Putting.{puts_behind, puts_same}
use Rattle.plcs_base.proofs.byte_out.ByteOut.put_all.Goals as goal

pub loop-byte-init : goal.loop-byte-init
loop-byte-init g c = puts_nothing

pub loop-byte-preserved : goal.loop-byte-preserved
loop-byte-preserved g c =
    let inside : c.loop-byte.byte-index < length c.args.bytes.now = omega arith in
    puts_same (sym (take_more c.args.bytes.now c.loop-byte.byte-index 0 inside)) (puts_behind c.loop-byte.invariant c.put.ensures)
