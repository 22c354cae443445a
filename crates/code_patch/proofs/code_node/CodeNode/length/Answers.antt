use Rattle.std.specs.Prelude.{length}
use Rattle.std.proofs.Common.{arith, ap}
use Rattle.code_patch.proofs.Opened.{between_is, numbers_sum, short_is}
use Rattle.code_patch.proofs.code_node.CodeNode.length.Goals as goal

pub returns-clause-length : goal.returns-clause-length
returns-clause-length g c =
    let between = ap length (between_is c.self.inside c.args.self.now c.self.view_is c.self.invariant) in
    let inside = numbers_sum c.self.inside c.args.self.now c.self.view_is c.self.invariant in
    omega (arith, c.length_before-before.ensures, c.length_behind-behind.ensures, c.length.ensures.length, between, c.total.ensures.total, inside)

pub returns-clause-short : goal.returns-clause-short
returns-clause-short g c = short_is c.self.inside c.args.self.now c.self.view_is c.self.invariant
