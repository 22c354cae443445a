use Rattle.std.specs.Prelude.{◌≡◌, true, false, Some, slice_get}
use Rattle.std.proofs.Common.{ap, sym, ◌∙◌, arith}
use Rattle.template_tree.specs.Positions.Place.{passes_in, place_at}
use Rattle.template_tree.specs.Programs.PlainTree.{nodes}
use Rattle.suspend_state.proofs.BegunNodes.{begins_inside, begins_there, has_first}
use Rattle.suspend_state.proofs.start.begin_slot.Goals as goal

pub loop-inside-smaller : goal.loop-inside-smaller
loop-inside-smaller c =
    let fewer = c.items_are_nodes.ensures.fewer c.loop-inside.inside.now.inner 0 c.in-Some.first.now (sym c.in-Some.ensures) in
    omega (arith, fewer)

pub loop-inside-preserved : goal.loop-inside-preserved
loop-inside-preserved c =
    let inside = c.loop-inside.inside.now in
    let first = c.in-Some.first.now in
    let there : slice_get (nodes inside.inner) 0 ≡ Some first = sym c.in-Some.ensures in
    let pass : passes_in inside.label.kind ≡ true = ap passes_in (sym c.kind.ensures) ∙ sym c.passes_in.ensures ∙ c.loop-inside-test.true in
    record {
      subtree = c.items_are_nodes.ensures.subtrees inside.inner 0 first there c.loop-inside.invariant.subtree.1;
      begins = λ after. c.loop-inside.invariant.begins after ∙ begins_inside inside first after c.loop-inside.invariant.subtree pass there;
    }

pub unreachable-requires : goal.unreachable-requires
unreachable-requires c =
    let inside = c.loop-inside.inside.now in
    let pass : passes_in inside.label.kind ≡ true = ap passes_in (sym c.kind.ensures) ∙ sym c.passes_in.ensures ∙ c.loop-inside-test.true in
    has_first inside c.loop-inside.invariant.subtree pass (sym c.in_default.ensures)

pub returns : goal.returns
returns c =
    let inside = c.loop-inside.inside.now in
    let stays : passes_in inside.label.kind ≡ false = ap passes_in (sym c.kind.ensures) ∙ sym c.passes_in.ensures ∙ c.loop-inside-test.false in
    λ after. c.loop-inside.invariant.begins after ∙ begins_there inside after stays ∙ ap (λ n. place_at n 0) (sym c.slot.ensures)
