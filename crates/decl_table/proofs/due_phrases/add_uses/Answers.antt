use Rattle.std.proofs.Common.{◌≤◌, ◌∙◌, ◌+◌, ◌++◌, List, append-nil, append_assoc, drop, length, sym, ap, arith}
use Rattle.std.specs.Prelude.{flat_map}
use Rattle.std.proofs.Math.ListN.{drop_of_length-le}
use Rattle.std.proofs.lemmas.List.Concat.{flat_map-cons}
use Rattle.plcs_base.specs.declared.place.PhraseAt.{PhraseAt}
use Rattle.decl_table.specs.Private.DuePlaces.{uses_now}
use Rattle.decl_table.proofs.AddedUses.{left_behind}
use Rattle.decl_table.proofs.due_phrases.add_uses.Goals as goal

pub loop-name-preserved : goal.loop-name-preserved
loop-name-preserved c =
    let names = c.args.names.now in
    let k = c.loop-name.name-index in
    let name = c.name-item.result in
    let places = uses_now c.args.before.now.uses c.args.changed.now.uses in
    let before = c.loop-name.places in
    let rest = flat_map places (drop (k + 1) names) in
    ap (λ (l : List PhraseAt). l ++ rest) c.in_ok-add_uses_of.ensures
    ∙ append_assoc before (places name) rest
    ∙ ap (λ (l : List PhraseAt). before ++ l) (sym (flat_map-cons places name (drop (k + 1) names)))
    ∙ ap (λ left. before ++ flat_map places left) (sym (left_behind names k name c.loop-name-test.true c.name-item.is))
    ∙ c.loop-name.invariant

pub returns : goal.returns
returns c =
    let names = c.args.names.now in
    let places = uses_now c.args.before.now.uses c.args.changed.now.uses in
    let past : length names ≤ c.loop-name.name-index = omega (arith, c.loop-name-test.false) in
    sym (append-nil c.loop-name.places)
    ∙ ap (λ left. c.loop-name.places ++ flat_map places left) (sym (drop_of_length-le names past))
    ∙ c.loop-name.invariant
