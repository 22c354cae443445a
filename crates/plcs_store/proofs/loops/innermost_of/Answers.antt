use Rattle.std.specs.Prelude.{◌≡◌, ◌-◌, ◌==◌, true, false, pos, slice_index_or}
use Rattle.std.proofs.Common.{sym, ◌∙◌, arith}
use Rattle.plcs_store.specs.declared.kept_loop.KeptLoop.{KeptLoop}
use Rattle.plcs_store.proofs.LoopsOfSlots.{last_is_it, last_is_other}
use Rattle.plcs_store.proofs.loops.innermost_of.Goals as goal

abbrev no_loop : KeptLoop
no_loop = record { slot = record { 0 = 0 }; limit = pos 0; step = pos 0 }

pub returns-then-eq : goal.returns-then-eq
returns-then-eq c =
    let loops = c.args.loops.now in
    let n = c.loop-outside.outside in
    let is : ((slice_index_or loops (n - 1) no_loop).slot.0 == c.args.slot.0) ≡ true = sym c.eq.ensures ∙ c.if-eq.true in
    sym (last_is_it c.args.slot.0 loops n no_loop (omega (arith, c.loop-outside-test.true)) c.loop-outside.invariant.0 is)
    ∙ c.loop-outside.invariant.1

pub loop-outside-preserved : goal.loop-outside-preserved
loop-outside-preserved c =
    let loops = c.args.loops.now in
    let n = c.loop-outside.outside in
    let is : ((slice_index_or loops (n - 1) no_loop).slot.0 == c.args.slot.0) ≡ false = sym c.eq.ensures ∙ c.if-eq.false in (
      omega (arith, c.loop-outside.invariant.0),
      sym (last_is_other c.args.slot.0 loops n no_loop (omega (arith, c.loop-outside-test.true)) c.loop-outside.invariant.0 is)
          ∙ c.loop-outside.invariant.1,
    )
