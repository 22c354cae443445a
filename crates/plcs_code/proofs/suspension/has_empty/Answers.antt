use Rattle.std.specs.Prelude.{◌≡◌, ◌||◌, ◌+◌, true, false, Some, drop, is_none, slice_get}
use Rattle.std.proofs.Common.{arith, ap, sym, ◌∙◌}
use Rattle.std.proofs.lemmas.Option.{slice_get_within}
use Rattle.template_tree.specs.Programs.PlainPhrasePlace.{plain_phrase_place}
use Rattle.plcs_code.specs.Pieces.{has_empty}
use Rattle.plcs_code.proofs.ReadParts.{empty_next, left_none}
use Rattle.plcs_code.proofs.suspension.has_empty.Goals as goal

pub returns-then-is_empty : goal.returns-then-is_empty
returns-then-is_empty c =
    let parts = c.args.node.now.label.parts in
    let there : slice_get parts c.loop-part.part ≡ Some (plain_phrase_place c.in-Some.place.now) = sym c.in-Some.ensures in
    let is : is_none (plain_phrase_place c.in-Some.place.now) ≡ true = sym c.is_empty.ensures ∙ c.if-is_empty.true in
    sym
    (sym c.loop-part.invariant.left
    ∙ empty_next parts c.loop-part.part _ there
    ∙ ap (λ b. b || has_empty (drop (c.loop-part.part + 1) parts)) is)

pub overflow_add-part : goal.overflow_add-part
overflow_add-part c =
    let within = slice_get_within c.args.node.now.label.parts c.loop-part.part _ (sym c.in-Some.ensures) in
    omega (arith, within, c.requires)

pub loop-part-smaller : goal.loop-part-smaller
loop-part-smaller c =
    let within = slice_get_within c.args.node.now.label.parts c.loop-part.part _ (sym c.in-Some.ensures) in
    omega (arith, within)

pub loop-part-preserved : goal.loop-part-preserved
loop-part-preserved c =
    let parts = c.args.node.now.label.parts in
    let there : slice_get parts c.loop-part.part ≡ Some (plain_phrase_place c.in-Some.place.now) = sym c.in-Some.ensures in
    let within = slice_get_within parts c.loop-part.part _ there in
    let is : is_none (plain_phrase_place c.in-Some.place.now) ≡ false = sym c.is_empty.ensures ∙ c.if-is_empty.false in
    record {
      left =
          sym (empty_next parts c.loop-part.part _ there ∙ ap (λ b. b || has_empty (drop (c.loop-part.part + 1) parts)) is)
          ∙ c.loop-part.invariant.left;
      within = omega (arith, within);
    }

pub returns : goal.returns
returns c =
    sym (sym c.loop-part.invariant.left ∙ ap has_empty (left_none c.args.node.now.label.parts c.loop-part.part (sym c.in_default.ensures)))
