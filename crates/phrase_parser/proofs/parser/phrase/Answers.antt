use Rattle.std.proofs.Common.{length, sym, ap, subst, arith, All}
use Rattle.phrase_parser.specs.Private.TokenIn.{LiesIn}
use Rattle.phrase_parser.specs.Answers.{FaultSays}
use Rattle.phrase_parser.proofs.Findings.CheckAnswers.{tokens_lie, tokens_few, told_known, built_reads, not_refused}
use Rattle.phrase_parser.proofs.parser.phrase.Goals as goal

pub check-requires-clause-within : goal.check-requires-clause-within
check-requires-clause-within c =
    subst (λ z. All (LiesIn c.args.text.now) z) (sym c.as_slice-placed.ensures.value)
    (tokens_lie c.in_ok-tokens.tokens.placed.items c.in_ok-tokens.tokens.stop c.args.text.now c.in_ok-tokens.ensures)

pub check-requires-clause-few : goal.check-requires-clause-few
check-requires-clause-few c =
    let few = tokens_few c.in_ok-tokens.tokens.placed.items c.in_ok-tokens.tokens.stop c.args.text.now c.in_ok-tokens.ensures in
    omega (arith, few, c.requires.short, ap length c.as_slice-placed.ensures.value)

pub build-requires : goal.build-requires
build-requires c =
    let read = told_known c.args.category c.args.text.now c.in_ok-tokens.tokens.stop c.as_slice-placed.ensures.value
    c.requires.first c.in_ok-tokens.ensures c.in_ok-check.ensures c.in-Fine.is in
    read.placed

pub returns-in-Ok : goal.returns-in-Ok
returns-in-Ok c =
    let read = told_known c.args.category c.args.text.now c.in_ok-tokens.tokens.stop c.as_slice-placed.ensures.value
    c.requires.first c.in_ok-tokens.ensures c.in_ok-check.ensures c.in-Fine.is in
    built_reads c.args.category c.args.text.now _ c.in-Ok.phrase read c.in-Ok.ensures

pub unreachable-requires : goal.unreachable-requires
unreachable-requires c =
    let read = told_known c.args.category c.args.text.now c.in_ok-tokens.tokens.stop c.as_slice-placed.ensures.value
    c.requires.first c.in_ok-tokens.ensures c.in_ok-check.ensures c.in-Fine.is in
    not_refused c.args.category c.args.text.now _ read (rw c.in-Err-Refused.field-0-is at c.in-Err-Refused.ensures)

pub overflow_cast-result : goal.overflow_cast-result
overflow_cast-result c =
    let wrong = told_known c.args.category c.args.text.now c.in_ok-tokens.tokens.stop c.as_slice-placed.ensures.value
    c.requires.first c.in_ok-tokens.ensures c.in_ok-check.ensures c.in-SyntaxAt.is in
    omega (arith, wrong.0, c.requires.short)

pub returns-in-SyntaxAt : goal.returns-in-SyntaxAt
returns-in-SyntaxAt c =
    let wrong = told_known c.args.category c.args.text.now c.in_ok-tokens.tokens.stop c.as_slice-placed.ensures.value
    c.requires.first c.in_ok-tokens.ensures c.in_ok-check.ensures c.in-SyntaxAt.is in
    wrong.1

pub over_fault-requires : goal.over_fault-requires
over_fault-requires c =
    let over = told_known c.args.category c.args.text.now c.in_ok-tokens.tokens.stop c.as_slice-placed.ensures.value
    c.requires.first c.in_ok-tokens.ensures c.in_ok-check.ensures c.in-Over.is in
    omega (arith, over.0, c.requires.short)

pub returns : goal.returns
returns c =
    let over = told_known c.args.category c.args.text.now c.in_ok-tokens.tokens.stop c.as_slice-placed.ensures.value
    c.requires.first c.in_ok-tokens.ensures c.in_ok-check.ensures c.in-Over.is in
    subst (FaultSays c.args.category c.args.text.now) (sym c.over_fault.ensures) over.1
