use Rattle.std.proofs.Common.{ℕ, List, sum, take, ap, ◌∙◌}
use Rattle.code_patch.proofs.Opened.{numbers_are}
use Rattle.code_patch.proofs.code_node.CodeNode.length_to.Goals as goal

pub returns : goal.returns
returns g c =
    c.before-2.ensures ∙ ap (λ (ns : List ℕ). sum (take c.args.k ns)) (numbers_are c.self.inside c.args.self.now c.self.view_is c.self.invariant)
