use Rattle.std.proofs.Common.{◌∙◌, sym, ap, length}
use Rattle.phrase_parser.specs.declared.token.TokenKind.TheVariants.{Name}
use Rattle.phrase_parser.specs.Private.Shapes.{shape_of, shape_if}
use Rattle.phrase_parser.specs.Private.FindingViews.{over_if}
use Rattle.phrase_parser.proofs.Findings.FindingsGoOn.{or_as, go_on}
use Rattle.phrase_parser.proofs.Findings.ShapeLevels.{still_within}
use Rattle.phrase_parser.proofs.check.check.Goals as goal

pub loop-token-preserved : goal.loop-token-preserved
loop-token-preserved c =
    let shape = shape_of c.loop-token.shape in
    let class = c.class_at-class.result in
    let n = sym c.in_ok-behind.ensures ∙ ap shape_if c.in-Some.is in
    record {
      found =
          go_on c.args.text.now c.args.stop (length c.args.text.now) c.args.tokens.now c.loop-token.token-index
          (record { kind = Name; start = 0; end = 0 }) shape (shape_of c.in-Some.behind) class c.level_of-level.result
          (over_if c.loop-token.over) (over_if c.seen_over.result) (over_if c.or-over.result) c.loop-token-test.true c.class_at-class.ensures
          n c.level_of-level.ensures c.seen_over.ensures (ap over_if c.or-over.ensures ∙ or_as c.loop-token.over c.seen_over.result)
          ∙ c.loop-token.invariant.found;
      within = still_within c.loop-token.token-index shape (shape_of c.in-Some.behind) class n c.loop-token.invariant.within;
    }
