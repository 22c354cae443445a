use Rattle.screen_window.proofs.WritesInTurn.{writes_both, writes_first}
use Rattle.screen_window.proofs.painting.writes_in_turn.Goals as goal

pub returns : goal.returns
returns c = record {
  both = λ first second result a b c p q s u v w one other. writes_both first second tt result a b c p q s u v w one other;
  cut = λ first second fault a b p q u v one. writes_first first second fault a b p q u v one;
}
