use Rattle.std.proofs.Common.{length, ◌-◌}
use Rattle.phrase_parser.proofs.Tokens.CutSoFar.{CutSoFar}
use Rattle.phrase_parser.proofs.lexer.tokens.Given as goal

abbrev pub invariant-loop-start : goal.invariant-loop-start
invariant-loop-start l = CutSoFar l.text l.placed.items l.start

abbrev pub decreases-loop-start : goal.decreases-loop-start
decreases-loop-start l = length l.text - l.start
