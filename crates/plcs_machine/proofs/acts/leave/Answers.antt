-- There is a caller, where more than one frame stands; and the record has the frame that was taken off.
use Rattle.std.proofs.Common.{◌∙◌, ◌<◌, List, sym, ap, subst}
use Rattle.std.proofs.Math.Bool.{false≢true}
use Rattle.std.specs.Prelude.{Option, is_some, length}
use Rattle.template_tree.specs.Positions.Place.{PlainPlace}
use Rattle.plcs_store.specs.declared.frame.Frame.{Frame}
use Rattle.plcs_store.specs.Act.{without_newest}
use Rattle.plcs_store.specs.Configuration.{plain_configuration, top_place}
use Rattle.plcs_machine.proofs.NotedActs.{leave_noted, some_left, top_there}
use Rattle.plcs_machine.proofs.acts.leave.Goals as goal

pub unreachable-requires-in_default-place : goal.unreachable-requires-in_default-place
unreachable-requires-in_default-place c =
    let frames = c.args.state.now.frames in
    let there = top_there (without_newest frames) (some_left frames c.requires.caller) in
    let none = ap top_place (sym c.in-Some.ensures.left) ∙ sym c.in_default-place.ensures in
    false≢true (sym (ap (λ (o : Option PlainPlace). is_some o) none) ∙ there)

pub returns-clause-noted : goal.returns-clause-noted
returns-clause-noted c =
    leave_noted (plain_configuration c.args.state.now) c.in-Some-place.caller c.in-Some.frame (sym c.in-Some.ensures.newest)
    (ap top_place (sym c.in-Some.ensures.left) ∙ sym c.in-Some-place.ensures)

pub returns-clause-some : goal.returns-clause-some
returns-clause-some c =
    let frames = c.args.state.now.frames in
    subst (λ (left : List Frame). 0 < length left) (sym c.in-Some.ensures.left) (some_left frames c.requires.caller)
