use Rattle.std.proofs.Common.{length, map}
use Rattle.plcs_grammar.specs.Template.{plain_segment}
use Rattle.template_tree.specs.Listings.Line.{segments_text}
use Rattle.template_tree.specs.Programs.PlainPhrasePlace.{plain_phrase_place}
use Rattle.template_tree.specs.Private.NodeLines.{LacksRest}
use Rattle.template_tree.proofs.listing.put_segments.Given as goal

abbrev pub decreases-loop-segment : goal.decreases-loop-segment
decreases-loop-segment g l = length l.rest

abbrev pub invariant-loop-segment : goal.invariant-loop-segment
invariant-loop-segment g l =
    LacksRest g.O.ByteOut.puts l.fn.out (segments_text (map plain_segment l.fn.segments) (map plain_phrase_place l.fn.parts)) l.out
    (segments_text (map plain_segment l.rest) (map plain_phrase_place l.left))
