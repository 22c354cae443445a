use Rattle.std.specs.Prelude.{◌≡◌, Some, slice_get}
use Rattle.std.proofs.Common.{arith, sym, ◌∙◌}
use Rattle.std.proofs.lemmas.Option.{slice_get_within}
use Rattle.template_tree.specs.Programs.PlainPhrasePlace.{plain_phrase_place}
use Rattle.resume_rule.proofs.ComparedLists.{alike_ends, alike_next, told_apart}
use Rattle.resume_rule.proofs.equal_copy.has_parts.Goals as goal

pub loop-part-init : goal.loop-part-init
loop-part-init c = record { alike = λ k few. absurd (omega (arith, few)); within = omega arith }

pub overflow_add-part : goal.overflow_add-part
overflow_add-part c =
    let within = slice_get_within c.args.node.now.label.parts c.loop-part.part _ (sym c.in-Some.ensures) in
    omega (arith, within, c.requires)

pub loop-part-smaller : goal.loop-part-smaller
loop-part-smaller c =
    let within = slice_get_within c.args.node.now.label.parts c.loop-part.part _ (sym c.in-Some.ensures) in
    omega (arith, within)

pub loop-part-preserved : goal.loop-part-preserved
loop-part-preserved c =
    let parts = c.args.node.now.label.parts in
    let there : slice_get parts c.loop-part.part ≡ Some (plain_phrase_place c.in-Some.place.now) = sym c.in-Some.ensures in
    let within = slice_get_within parts c.loop-part.part _ there in
    record {
      alike =
          alike_next c.loop-part.part parts c.args.kept.now c.loop-part.invariant.alike
          (there ∙ sym (c.is_copied.ensures.0 c.if-not-is_copied.false));
      within = omega (arith, within);
    }

pub returns-then-not-is_copied : goal.returns-then-not-is_copied
returns-then-not-is_copied c =
    told_apart c.loop-part.part c.args.node.now.label.parts c.args.kept.now (plain_phrase_place c.in-Some.place.now) (sym c.in-Some.ensures)
    c.is_copied.ensures c.if-not-is_copied.true

pub returns : goal.returns
returns c =
    alike_ends c.loop-part.part c.args.node.now.label.parts c.args.kept.now c.loop-part.invariant.alike (sym c.in_default.ensures)
    c.is_last_part.ensures
