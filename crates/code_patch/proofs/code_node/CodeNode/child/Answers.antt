use Rattle.std.proofs.Common.{sym, ◌∙◌}
use Rattle.code_patch.proofs.Opened.{found_again}
use Rattle.code_patch.proofs.code_node.CodeNode.child.Goals as goal

pub returns : goal.returns
returns g c = c.get.ensures ∙ sym (found_again c.self.inside c.args.self.now c.self.view_is c.self.invariant c.args.k)
