use Rattle.std.proofs.Common.{◌≡◌, drop, map, length, None}
use Rattle.phrase_parser.specs.Private.Findings.{findings}
use Rattle.phrase_parser.specs.Private.Shapes.{shape_of, seen_in, Within}
use Rattle.phrase_parser.specs.Private.FindingViews.{over_if}
use Rattle.phrase_parser.proofs.check.check.Given as goal

abbrev pub invariant-loop-token : goal.invariant-loop-token
invariant-loop-token l =
    record {
      found :
          findings (map (seen_in l.text) (drop l.token-index l.tokens)) l.stop (length l.text) (shape_of l.shape) (over_if l.over)
          ≡ findings (map (seen_in l.text) l.tokens) l.stop (length l.text) (shape_of l.fn.first) None;
      within : Within l.token-index (shape_of l.shape);
    }
