use Rattle.std.specs.Prelude.{◌≡◌, slice_get, Some, false}
use Rattle.std.proofs.Common.{arith, sym, ap, ◌∙◌}
use Rattle.std.proofs.lemmas.List.{length-set}
use Rattle.template_tree.specs.contracts.node.Node.{the_view}
use Rattle.template_tree.proofs.Trees.DrawnSlots.{fewer, list_is}
use Rattle.template_tree.proofs.Edits.RevealedNodes.{step, written, all_done}
use Rattle.template_tree.proofs.build.+reveal.Goals as goal

pub reveal-requires : goal.reveal-requires
reveal-requires t c =
    let left = fewer c.loop-k.k c.loop-k.list.items (the_view c.node.inside) (the_view c.node.inside) (sym c.in-Some.ensures.found ∙ ap Some (sym c.node.view_is)) in
    omega (arith, left, c.loop-k.invariant.left)

pub loop-k-preserved : goal.loop-k-preserved
loop-k-preserved t c =
    let there : slice_get c.loop-k.list.items c.loop-k.k ≡ Some (the_view c.node.inside) = sym c.in-Some.ensures.found ∙ ap Some (sym c.node.view_is) in
    let new =
    the_view record { slot = c.node.inside.slot; kind = c.node.inside.kind; elided = false; parts = c.node.inside.parts; inner = c.reveal.new.list }
    in
    let left = fewer c.loop-k.k c.loop-k.list.items (the_view c.node.inside) new there in
    record {
      revealed =
          step c.loop-k.k c.loop-k.list.items (the_view c.node.inside) new there
          (written (the_view c.node.inside).label c.node.inside.inner c.reveal.new.list c.reveal.ensures)
          ∙ c.loop-k.invariant.revealed;
      left = omega (arith, left, c.loop-k.invariant.left);
      whole = rw (length-set c.loop-k.list.items c.loop-k.k new) c.loop-k.invariant.whole;
      room = c.loop-k.invariant.room;
    }

pub returns : goal.returns
returns t c =
    list_is c.loop-k.list _ c.args.list.now.spare
    (sym (all_done c.loop-k.k c.loop-k.list.items (omega (arith, c.loop-k-test.false, c.loop-k.invariant.whole, c.len-k-end.ensures))) ∙ c.loop-k.invariant.revealed)
    c.loop-k.invariant.room
