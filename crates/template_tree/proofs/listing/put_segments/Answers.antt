use Rattle.std.proofs.Common.{ap, sym, map}
use Rattle.plcs_base.specs.Put.{puts_nothing}
use Rattle.plcs_base.specs.Putting.{puts_same}
use Rattle.plcs_grammar.specs.Template.{plain_segment}
use Rattle.template_tree.specs.Listings.Line.{segments_text}
use Rattle.template_tree.specs.Programs.PlainPhrasePlace.{plain_phrase_place}
use Rattle.template_tree.proofs.Listings.PutLines.{nothing_left, put_next_segment}
use Rattle.template_tree.proofs.listing.put_segments.Goals as goal

pub loop-segment-preserved : goal.loop-segment-preserved
loop-segment-preserved g c =
    put_next_segment _ c.loop-segment.rest.now c.in-Some.later.now c.in-Some.segment.now (map plain_phrase_place c.loop-segment.left.now)
    (map plain_phrase_place c.put_segment-left.result.now) c.in-Some.ensures.cases.0 c.put_segment-left.ensures.left c.loop-segment.invariant
    c.put_segment-left.ensures.text

pub returns : goal.returns
returns g c =
    let end = nothing_left c.loop-segment.rest.now c.in_default.ensures.cases in
    c.loop-segment.invariant _
    (puts_same (sym (ap (λ n. segments_text (map plain_segment n) (map plain_phrase_place c.loop-segment.left.now)) end)) puts_nothing)
