use Rattle.std.specs.Prelude.{◌≡◌, sum}
use Rattle.std.proofs.Common.{arith, ap, ◌∙◌}
use Rattle.unparse_layout.specs.Private.Height.{heights}
use Rattle.unparse_layout.proofs.Opened.{numbers_length, numbers_sum, sum_with_last}
use Rattle.unparse_layout.proofs.node_layout.NodeLayout.push.Goals as goal

pub reserve-requires : goal.reserve-requires
reserve-requires c =
    let many = numbers_length c.self.inside c.args.self.now c.self.view_is c.self.invariant in
    record { few = omega (arith, many, c.requires.few) }

pub insert-requires-clause-fits : goal.insert-requires-clause-fits
insert-requires-clause-fits c =
    let all = sum_with_last c.reserve.new.self.numbers c.len.result c.height-height.result in
    let same : sum c.reserve.new.self.numbers ≡ heights c.args.self.now.inner =
    ap sum c.reserve.ensures.same ∙ numbers_sum c.self.inside c.args.self.now c.self.view_is c.self.invariant in
    omega (arith, all, same, c.requires.fits, c.height-height.ensures)
