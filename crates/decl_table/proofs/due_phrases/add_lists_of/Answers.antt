use Rattle.std.proofs.Common.{◌≡◌, ℕ, ◌∙◌, ◌+◌, ◌++◌, List, append-nil, append_assoc, drop, refl, sym, ap, arith}
use Rattle.std.proofs.lemmas.Option.{slice_get_within}
use Rattle.plcs_base.specs.ListLeft.{left_from, none_left}
use Rattle.plcs_base.specs.declared.place.PhraseAt.{PhraseAt}
use Rattle.template_tree.specs.Checks.Mention.{phrase_at}
use Rattle.template_tree.specs.Programs.PlainPhrasePlace.{plain_phrase_place}
use Rattle.decl_table.specs.Due.{list_place, list_places}
use Rattle.decl_table.proofs.due_phrases.add_lists_of.Goals as goal

pub loop-part-init : goal.loop-part-init
loop-part-init c = record { made = refl; within = omega arith }

pub overflow_add-part : goal.overflow_add-part
overflow_add-part c =
    let within = slice_get_within c.args.node.now.label.parts c.loop-part.part (plain_phrase_place c.in-Some.place.now) (sym c.in-Some.ensures) in
    omega (arith, within, c.requires)

pub loop-part-smaller : goal.loop-part-smaller
loop-part-smaller c =
    let within = slice_get_within c.args.node.now.label.parts c.loop-part.part (plain_phrase_place c.in-Some.place.now) (sym c.in-Some.ensures) in
    omega (arith, within)

pub loop-part-preserved : goal.loop-part-preserved
loop-part-preserved c =
    let slot = c.args.node.now.label.slot in
    let parts = c.args.node.now.label.parts in
    let part = c.loop-part.part in
    let place = plain_phrase_place c.in-Some.place.now in
    let before = c.loop-part.places in
    let rest = list_places slot (part + 1) (drop (part + 1) parts) in
    let at : PhraseAt = record { slot = c.slot.result; part = part } in
    let at_is : at ≡ phrase_at slot part = ap (λ (n : ℕ). phrase_at n part) c.slot.ensures in
    let within = slice_get_within parts part place (sym c.in-Some.ensures) in
    record {
      made =
          ap (λ (places : List PhraseAt). places ++ rest) (c.in_ok-add_list.ensures ∙ ap (λ (p : PhraseAt). before ++ list_place p place) at_is)
          ∙ append_assoc before (list_place (phrase_at slot part) place) rest
          ∙ ap (λ left. before ++ list_places slot part left) (sym (left_from parts part place (sym c.in-Some.ensures)))
          ∙ c.loop-part.invariant.made;
      within = omega (arith, within);
    }

pub returns : goal.returns
returns c =
    let slot = c.args.node.now.label.slot in
    sym (append-nil c.loop-part.places)
    ∙ ap (λ left. c.loop-part.places ++ list_places slot c.loop-part.part left)
    (sym (none_left c.args.node.now.label.parts c.loop-part.part (sym c.in_default.ensures)))
    ∙ c.loop-part.invariant.made
