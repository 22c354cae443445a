use Rattle.std.specs.Prelude.{◌≡◌, Some, slice_get}
use Rattle.std.proofs.Common.{arith, ap, sym, ◌∙◌}
use Rattle.std.proofs.lemmas.Option.{slice_get_past}
use Rattle.template_tree.specs.Positions.Place.{place_at}
use Rattle.plcs_code.specs.PlainInstr.{plain_instr}
use Rattle.code_patch.proofs.StepNumbers.{left_first, left_here, left_next, left_none}
use Rattle.code_patch.proofs.located.number_of.Goals as goal

pub loop-k-init : goal.loop-k-init
loop-k-init g c = record {
  left = left_first (place_at c.args.place.slot.0 c.args.place.point.0) c.args.block.now;
  within = omega arith;
}

pub returns-then-is_step-clause-number : goal.returns-then-is_step-clause-number
returns-then-is_step-clause-number g c =
    let place = place_at c.args.place.slot.0 c.args.place.point.0 in
    let instr = plain_instr c.instr.result.now in
    let there : slice_get c.args.block.now c.loop-k.k ≡ Some instr = sym c.get.ensures ∙ ap Some (sym c.instr.ensures) in
    left_here place c.args.block.now c.loop-k.k instr there c.loop-k.invariant.left (sym c.is_step.ensures ∙ c.if-is_step.true)

pub loop-k-preserved : goal.loop-k-preserved
loop-k-preserved g c =
    let place = place_at c.args.place.slot.0 c.args.place.point.0 in
    let instr = plain_instr c.instr.result.now in
    let there : slice_get c.args.block.now c.loop-k.k ≡ Some instr = sym c.get.ensures ∙ ap Some (sym c.instr.ensures) in
    record {
      left = left_next place c.args.block.now c.loop-k.k instr there c.loop-k.invariant.left (sym c.is_step.ensures ∙ c.if-is_step.false);
      within = omega (arith, c.loop-k-test.true, c.length.ensures.length);
    }

pub returns-clause-number : goal.returns-clause-number
returns-clause-number g c =
    let place = place_at c.args.place.slot.0 c.args.place.point.0 in
    left_none place c.args.block.now c.loop-k.k
    (slice_get_past c.args.block.now c.loop-k.k (omega (arith, c.loop-k-test.false, c.length.ensures.length))) c.loop-k.invariant.left
