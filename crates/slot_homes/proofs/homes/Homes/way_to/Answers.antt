use Rattle.std.specs.Prelude.{◌≡◌, ◌∷◌, ◌+◌, ◌-◌, Some, length}
use Rattle.std.proofs.Common.{◌∙◌, ap, arith}
use Rattle.slot_homes.specs.Said.{longest_way, step_to, way_said}
use Rattle.slot_homes.proofs.SaidWays.{left_first, left_long, left_next, left_none, left_whole}
use Rattle.slot_homes.proofs.homes.Homes.way_to.Goals as goal

pub loop-taken-init : goal.loop-taken-init
loop-taken-init c = record {
  left = left_first c.args.self.now c.args.slot.0 c.new-way.result.items c.new-way.ensures;
  many = ap length c.new-way.ensures;
}

pub returns-in_default : goal.returns-in_default
returns-in_default c =
    left_none c.args.self.now c.args.slot.0 c.loop-taken.taken c.loop-taken.at.0 c.loop-taken.way.items c.loop-taken-test.true
    c.loop-taken.invariant.left c.in_default.ensures

pub returns-in_default-parent : goal.returns-in_default-parent
returns-in_default-parent c =
    let longer : c.insert.new.self.items ≡ step_to c.loop-taken.at.0 c.in-Some.home.number ∷ c.loop-taken.way.items = c.insert.ensures.items in
    ap (λ steps. Some steps) longer
    ∙ left_whole c.args.self.now c.args.slot.0 c.loop-taken.taken c.loop-taken.at.0 c.loop-taken.way.items c.in-Some.home c.loop-taken-test.true
    c.loop-taken.invariant.left c.in-Some.ensures c.in_default-parent.is

pub loop-taken-preserved : goal.loop-taken-preserved
loop-taken-preserved c =
    let longer : c.insert.new.self.items ≡ step_to c.loop-taken.at.0 c.in-Some.home.number ∷ c.loop-taken.way.items = c.insert.ensures.items in
    record {
      left =
          ap (λ steps. way_said c.args.self.now (longest_way - (c.loop-taken.taken + 1)) c.in-Some-parent.parent.0 steps) longer
          ∙ left_next c.args.self.now c.args.slot.0 c.loop-taken.taken c.loop-taken.at.0 c.loop-taken.way.items c.in-Some.home c.in-Some-parent.parent
          c.loop-taken-test.true c.loop-taken.invariant.left c.in-Some.ensures c.in-Some-parent.is;
      many = ap length longer ∙ omega (arith, c.loop-taken.invariant.many);
    }

pub returns : goal.returns
returns c =
    left_long c.args.self.now c.args.slot.0 c.loop-taken.taken c.loop-taken.at.0 c.loop-taken.way.items (omega (arith, c.loop-taken-test.false))
    c.loop-taken.invariant.left
