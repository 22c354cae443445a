use Rattle.std.proofs.Common.{◌≡◌, ◌≤◌, ◌∙◌, length, refl, sym, ap, arith}
use Rattle.plcs_base.specs.declared.place.PhraseAt.{PhraseAt}
use Rattle.type_marks.specs.Private.CheckedLists.{is_due}
use Rattle.type_marks.proofs.CheckedDue.{no_places, places_more, read_again, take_past}
use Rattle.type_marks.proofs.preparation.places.Goals as goal

pub loop-at-init : goal.loop-at-init
loop-at-init c = no_places c.args.gone.now c.new-places.result.keys c.new-places.ensures.empty

pub loop-at-preserved : goal.loop-at-preserved
loop-at-preserved c =
    places_more c.args.gone.now c.loop-at.places.keys c.insert.new.self.keys c.loop-at.at-index _ c.loop-at-test.true
    (read_again c.args.gone.now c.loop-at.at-index _ c.loop-at-test.true)
    c.loop-at.invariant (λ q. c.in_ok-insert.ensures.updates.0 q)

pub returns : goal.returns
returns c =
    λ at.
    c.loop-at.invariant at
    ∙ ap (is_due at) (take_past c.args.gone.now c.loop-at.at-index (omega (arith, c.loop-at-test.false)))
