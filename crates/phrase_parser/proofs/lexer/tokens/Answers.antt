use Rattle.std.proofs.Common.{◌∷◌, [], List, sym, subst, refl, ◌∙◌, arith}
use Rattle.std.proofs.lemmas.Slice.{pushed}
use Rattle.phrase_parser.specs.declared.token.Placed.{Placed}
use Rattle.phrase_parser.proofs.Tokens.CutSoFar.{CutSoFar, nothing_cut, token_within, one_more_cut, all_cut, cut_stops}
use Rattle.phrase_parser.proofs.lexer.tokens.Goals as goal

pub loop-start-init : goal.loop-start-init
loop-start-init c =
    subst (λ (l : List Placed). CutSoFar c.args.text.now l c.behind_blanks-start.result) (sym c.in_ok-placed.ensures.items)
    (nothing_cut c.args.text.now c.behind_blanks-start.result c.behind_blanks-start.ensures)

pub returns-in_default : goal.returns-in_default
returns-in_default c =
    cut_stops c.args.text.now c.loop-start.placed.items c.loop-start.start c.loop-start.invariant (omega arith)
    (sym c.token_at.ensures ∙ c.in_default.is)

pub behind_blanks-start-requires-in-loop-start : goal.behind_blanks-start-requires-in-loop-start
behind_blanks-start-requires-in-loop-start c =
    (token_within c.args.text.now c.loop-start.start c.in-Some.token (omega arith) (sym c.in-Some.ensures)).1

pub loop-start-smaller : goal.loop-start-smaller
loop-start-smaller c =
    let found = token_within c.args.text.now c.loop-start.start c.in-Some.token (omega arith) (sym c.in-Some.ensures) in
    omega (arith, found.0, c.behind_blanks-start-in-loop-start.ensures)

pub loop-start-preserved : goal.loop-start-preserved
loop-start-preserved c =
    let list = pushed (c.in-Some.token ∷ []) refl c.in_ok-push.was c.push.ensures.items in
    subst (λ (l : List Placed). CutSoFar c.args.text.now l c.behind_blanks-start-in-loop-start.result) (sym list)
    (one_more_cut c.args.text.now c.loop-start.placed.items c.loop-start.start c.in-Some.token c.behind_blanks-start-in-loop-start.result
    c.loop-start.invariant (sym c.in-Some.ensures) c.behind_blanks-start-in-loop-start.ensures)

pub returns : goal.returns
returns c = all_cut c.args.text.now c.loop-start.placed.items c.loop-start.start c.loop-start.invariant (omega arith)
