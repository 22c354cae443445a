use Rattle.std.proofs.Common.{◌+◌, ◌&&◌, not, Some, List, ℕ, length, take, sym, ap, ◌∙◌}
use Rattle.phrase_parser.proofs.Lines.DividedTexts.{begins_here}
use Rattle.phrase_parser.proofs.Lines.CutLines.{uncut_more, cut_found, rest_from}
use Rattle.phrase_parser.proofs.line_parts.cut_at.Goals as goal

pub returns-then-ends_part : goal.returns-then-ends_part
returns-then-ends_part c =
    cut_found c.args.divider.now c.args.text.now c.loop-place.inside c.loop-place.place c.loop-place.invariant c.loop-place-test.true
    (ap (λ (x : List ℕ). not c.loop-place.inside && begins_here c.args.divider.now x) (sym (rest_from c.args.text.now c.loop-place.place))
    ∙ sym c.ends_part.ensures ∙ c.if-ends_part.true)
    ∙ ap (λ (back : List ℕ). Some (take c.loop-place.place c.args.text.now, back))
    (sym (rest_from c.args.text.now (c.loop-place.place + length c.args.divider.now)))

pub loop-place-preserved : goal.loop-place-preserved
loop-place-preserved c =
    uncut_more c.args.divider.now c.args.text.now c.loop-place.inside c.loop-place.place c.is_quoted_behind-inside.result
    c.loop-place.invariant c.loop-place-test.true
    (ap (λ (x : List ℕ). not c.loop-place.inside && begins_here c.args.divider.now x) (sym (rest_from c.args.text.now c.loop-place.place))
    ∙ sym c.ends_part.ensures ∙ c.if-ends_part.false)
    c.is_quoted_behind-inside.ensures
