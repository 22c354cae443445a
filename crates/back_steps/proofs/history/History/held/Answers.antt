use Rattle.std.specs.Prelude.{length}
use Rattle.std.proofs.Common.{ap, sym, ◌∙◌}
use Rattle.back_steps.proofs.Histories.{as_many_before}
use Rattle.back_steps.proofs.history.History.held.Goals as goal

pub returns-clause-earlier : goal.returns-clause-earlier
returns-clause-earlier c = λ d. as_many_before c.args.self.now d ∙ sym (c.len.ensures.len ∙ ap length c.self.view_is)
