use Rattle.std.proofs.Common.{◌≡◌, ◌∙◌, ℕ, Option, List, slice_get, sym, ap, subst}
use Rattle.std.specs.Prelude.{◌||◌}
use Rattle.std.specs.Option.{option_flatten}
use Rattle.plcs_base.specs.declared.place.PhraseAt.{PhraseAt}
use Rattle.template_tree.specs.Checks.Mention.{phrase_at}
use Rattle.decl_table.specs.PlainDecls.{mentions_of}
use Rattle.decl_table.specs.Private.UsesView.{AddsUnderNames, is_among}
use Rattle.decl_table.proofs.AddedUses.{adds_none, of_phrase, of_place, then_ok}
use Rattle.decl_table.proofs.uses.Uses.note_part.Goals as goal

pub returns-in-None : goal.returns-in-None
returns-in-None c =
    let node = c.args.node.now in
    let place = phrase_at node.label.slot c.args.part in
    adds_none (of_place place (option_flatten (slice_get node.label.parts c.args.part))) c.args.self.now.uses
    (λ name at. ap (λ o. of_place place o name at) (sym c.in-None.ensures))

pub returns-in-Some : goal.returns-in-Some
returns-in-Some c =
    let node = c.args.node.now in
    let names = c.in-Some.names.now in
    let old = c.args.self.now.uses in
    let place = phrase_at node.label.slot c.args.part in
    let at : PhraseAt = record { slot = c.slot.result; part = c.args.part } in
    let same : at ≡ place = ap (λ (n : ℕ). let p : PhraseAt = record { slot = record { 0 = n }; part = c.args.part } in p) c.slot.ensures in
    then_ok c.note_names.result
    (λ adds name other.
    (subst (λ (l : List (List ℕ)). AddsUnderNames l place old c.note_names.new.self.uses) c.as_slice.ensures
    (subst (λ p. AddsUnderNames c.as_slice.result.now p old c.note_names.new.self.uses) same adds)) name other
    ∙ ap (λ b. is_among other (mentions_of name old) || b)
    (sym (of_phrase place names name other) ∙ ap (λ (o : Option (List (List ℕ))). of_place place o name other) c.in-Some.ensures))
    c.note_names.ensures
