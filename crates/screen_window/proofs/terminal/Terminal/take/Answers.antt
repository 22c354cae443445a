use Rattle.std.proofs.Common.{ap, ◌∙◌}
use Rattle.screen_window.proofs.TerminalSizes.{term_size}
use Rattle.screen_window.proofs.terminal.Terminal.take.Goals as goal

-- no byte changes the size
pub returns-clause-rows : goal.returns-clause-rows
returns-clause-rows c = ap (λ z. z.rows) c.loop-byte.invariant ∙ (term_size c.args.self.now _).rows

pub returns-clause-cols : goal.returns-clause-cols
returns-clause-cols c = ap (λ z. z.cols) c.loop-byte.invariant ∙ (term_size c.args.self.now _).cols
