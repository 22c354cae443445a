use Rattle.std.proofs.Common.{◌∙◌}
use Rattle.unparse_layout.proofs.Opened.{numbers_sum}
use Rattle.unparse_layout.proofs.node_layout.NodeLayout.lines_inside.Goals as goal

pub returns : goal.returns
returns c = c.total.ensures.total ∙ numbers_sum c.self.inside c.args.self.now c.self.view_is c.self.invariant
