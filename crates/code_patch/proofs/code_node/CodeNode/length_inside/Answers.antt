use Rattle.std.proofs.Common.{arith, ◌∙◌}
use Rattle.code_patch.proofs.Opened.{numbers_sum, short_is}
use Rattle.code_patch.proofs.code_node.CodeNode.length_inside.Goals as goal

pub returns-clause-sum : goal.returns-clause-sum
returns-clause-sum g c = c.total.ensures.total ∙ numbers_sum c.self.inside c.args.self.now c.self.view_is c.self.invariant

pub returns-clause-short : goal.returns-clause-short
returns-clause-short g c = omega (arith, short_is c.self.inside c.args.self.now c.self.view_is c.self.invariant)
