-- Where a step of the builder is refused, the whole phrase is.
use Rattle.std.proofs.Common.{map}
use Rattle.std.proofs.lemmas.Result.{err_from_is_err_and}
use Rattle.phrase_parser.specs.declared.token.TokenKind.TheVariants.{Name}
use Rattle.phrase_parser.specs.Private.Machine.{start_state}
use Rattle.phrase_parser.specs.Private.TokenIn.{token_in}
use Rattle.phrase_parser.specs.Private.Views.{state_of}
use Rattle.phrase_parser.proofs.Frames.FailedSteps.{fails_behind, fails_at}
use Rattle.phrase_parser.proofs.builder.build.Goals as goal

pub returns-in_err-state : goal.returns-in_err-state
returns-in_err-state c =
    let p = err_from_is_err_and c.from_residual.result c.from_residual.ensures.1 in
    rw (p.1, p.2)
    (fails_behind _ (map (token_in c.args.text.now) c.args.tokens.now) (start_state c.args.category) c.in_err-state.ensures)

pub returns-in-Err : goal.returns-in-Err
returns-in-Err c =
    fails_at c.in-Err.fault (token_in c.args.text.now) c.args.tokens.now c.loop-token.token-index
    (record { kind = Name; start = 0; end = 0 }) (state_of c.loop-token.state) (start_state c.args.category)
    c.loop-token-test.true c.loop-token.invariant c.in-Err.ensures
