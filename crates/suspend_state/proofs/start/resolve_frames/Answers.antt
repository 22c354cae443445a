use Rattle.std.specs.Prelude.{◌≡◌, None}
use Rattle.std.proofs.Common.{arith}
use Rattle.plcs_store.specs.Configuration.{plain_place}
use Rattle.suspend_state.proofs.ResolvedFrames.{other_resolved, same_resolved, start_resolved}
use Rattle.suspend_state.proofs.start.resolve_frames.Goals as goal

pub returns-then-place-ne0 : goal.returns-then-place-ne0
returns-then-place-ne0 c =
    let place = plain_place c.in-Some.place in
    same_resolved c.args.tree.now.items c.args.frames.now place c.in-Some.ensures
    (other_resolved c.args.tree.now.items place c.if-place-ne0.true)

pub returns-in_default-start_of : goal.returns-in_default-start_of
returns-in_default-start_of c =
    let place = plain_place c.in-Some.place in
    let zeroth : c.in-Some.place.point.0 ≡ 0 = omega (arith, c.if-place-ne0.false) in
    same_resolved c.args.tree.now.items c.args.frames.now place c.in-Some.ensures
    (start_resolved c.args.tree.now.items place None zeroth c.in_default-start_of.ensures)
