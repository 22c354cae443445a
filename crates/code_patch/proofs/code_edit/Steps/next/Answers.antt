use Rattle.std.proofs.Common.{◌≡◌, arith, length, rules, vec_len}
use Rattle.code_patch.proofs.MadeSteps.{step_popped}
use Rattle.code_patch.proofs.code_edit.Steps.next.Goals as goal

pub returns : goal.returns
returns g c =
    let same : length c.self.inside.list.items ≡ vec_len c.self.inside.list = search rules in
    step_popped c.pop.result c.self.inside.list.items c.pop.new.self.items c.args.self.now c.self.view_is c.pop.ensures.items
    (λ there. c.pop.ensures.variant.1 (omega (arith, there, same)))
