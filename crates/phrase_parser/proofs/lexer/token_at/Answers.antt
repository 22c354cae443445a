use Rattle.std.proofs.Common.{sym, length, arith}
use Rattle.std.specs.List.{between}
use Rattle.phrase_parser.proofs.Tokens.CutSoFar.{front_within}
use Rattle.phrase_parser.proofs.lexer.token_at.Goals as goal

pub overflow_add-end : goal.overflow_add-end
overflow_add-end c =
    let rest = between c.args.start (length c.args.text.now) c.args.text.now in
    let found = front_within rest c.in-Some.front (sym c.in-Some.ensures) in
    omega (arith, found.1)
