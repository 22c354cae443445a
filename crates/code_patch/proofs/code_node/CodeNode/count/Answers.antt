use Rattle.std.proofs.Common.{sym, ◌∙◌}
use Rattle.code_patch.proofs.Opened.{many_are}
use Rattle.code_patch.proofs.code_node.CodeNode.count.Goals as goal

pub returns : goal.returns
returns g c = c.len.ensures ∙ sym (many_are c.self.inside c.args.self.now c.self.view_is c.self.invariant)
