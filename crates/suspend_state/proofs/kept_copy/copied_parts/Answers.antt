use Rattle.std.specs.Prelude.{◌≡◌, ◌∷◌, [], Some, map, slice_get}
use Rattle.std.proofs.Common.{ap, sym, ◌∙◌, ◌++◌, ◌+◌, drop, arith}
use Rattle.std.proofs.lemmas.List.{map-append}
use Rattle.std.proofs.lemmas.Option.{slice_get_within}
use Rattle.template_tree.specs.Programs.PlainPhrasePlace.{plain_phrase_place}
use Rattle.suspend_state.proofs.CopiedLists.{left_less, left_none}
use Rattle.suspend_state.proofs.PartCounts.{few_parts}
use Rattle.suspend_state.proofs.kept_copy.copied_parts.Goals as goal

pub overflow_add-part : goal.overflow_add-part
overflow_add-part c =
    let within = slice_get_within c.args.node.now.label.parts c.loop-part.part _ (sym c.in-Some.ensures) in
    let few = few_parts c.args.node.now c.requires.subtree in
    omega (arith, within, few)

pub loop-part-smaller : goal.loop-part-smaller
loop-part-smaller c =
    let within = slice_get_within c.args.node.now.label.parts c.loop-part.part _ (sym c.in-Some.ensures) in
    omega (arith, within)

pub loop-part-preserved : goal.loop-part-preserved
loop-part-preserved c =
    let parts = c.args.node.now.label.parts in
    let part = c.loop-part.part in
    let place = plain_phrase_place c.in-Some.place.now in
    let there : slice_get parts part ≡ Some place = sym c.in-Some.ensures in
    let copied = map plain_phrase_place c.loop-part.places.items in
    record {
      left =
          ap (λ places. map plain_phrase_place places ++ drop (part + 1) parts) c.in_ok-push.ensures.items
          ∙ ap (λ places. places ++ drop (part + 1) parts)
          (map-append plain_phrase_place c.loop-part.places.items _ ∙ ap (λ one. copied ++ (one ∷ [])) c.in_ok-copied_part.ensures)
          ∙ left_less copied parts part place there c.loop-part.invariant.left;
      within = omega (arith, slice_get_within parts part _ there);
    }

pub returns : goal.returns
returns c =
    let parts = c.args.node.now.label.parts in
    c.from_vec.ensures
    ∙ left_none (map plain_phrase_place c.loop-part.places.items) parts c.loop-part.part (sym c.in_default.ensures) c.loop-part.invariant.left
