use Rattle.std.specs.Prelude.{◌≡◌, slice_get, Some}
use Rattle.std.proofs.Common.{arith, sym, ap, ◌∙◌}
use Rattle.std.proofs.lemmas.List.{length-set}
use Rattle.template_tree.specs.contracts.node.Node.{the_view}
use Rattle.template_tree.proofs.Trees.DrawnSlots.{step, fewer, written, list_is, all_done}
use Rattle.template_tree.proofs.build.+draw_slots.Goals as goal

pub overflow_add-next : goal.overflow_add-next
overflow_add-next t c =
    let left = fewer c.loop-k.k c.loop-k.list.items (the_view c.node.inside) (the_view c.node.inside) (sym c.in-Some.ensures.found ∙ ap Some (sym c.node.view_is)) in
    omega (arith, left, c.loop-k.invariant.so_far, c.requires.few)

pub draw_slots-next-requires : goal.draw_slots-next-requires
draw_slots-next-requires t c =
    let left = fewer c.loop-k.k c.loop-k.list.items (the_view c.node.inside) (the_view c.node.inside) (sym c.in-Some.ensures.found ∙ ap Some (sym c.node.view_is)) in (
      omega (arith, left, c.loop-k.invariant.so_far, c.loop-k.invariant.begun),
      omega (arith, left, c.loop-k.invariant.so_far, c.requires.few),
    )

pub loop-k-preserved : goal.loop-k-preserved
loop-k-preserved t c =
    let there : slice_get c.loop-k.list.items c.loop-k.k ≡ Some (the_view c.node.inside) = sym c.in-Some.ensures.found ∙ ap Some (sym c.node.view_is) in
    let new =
    the_view record { slot = record { 0 = c.loop-k.next }; kind = c.node.inside.kind; elided = c.node.inside.elided; parts = c.node.inside.parts; inner = c.draw_slots-next.new.list }
    in
    let left = fewer c.loop-k.k c.loop-k.list.items (the_view c.node.inside) new there in
    record {
      drawn =
          step c.loop-k.k c.loop-k.next c.draw_slots-next.result c.loop-k.list.items (the_view c.node.inside) new there c.draw_slots-next.ensures.next
          (written (the_view c.node.inside).label c.loop-k.next c.node.inside.inner c.draw_slots-next.new.list c.draw_slots-next.ensures.drawn)
          ∙ c.loop-k.invariant.drawn;
      so_far = omega (arith, left, c.loop-k.invariant.so_far, c.draw_slots-next.ensures.next);
      begun = omega (arith, c.loop-k.invariant.begun, c.draw_slots-next.ensures.next);
      whole = rw (length-set c.loop-k.list.items c.loop-k.k new) c.loop-k.invariant.whole;
      room = c.loop-k.invariant.room;
    }

pub returns-clause-drawn : goal.returns-clause-drawn
returns-clause-drawn t c =
    list_is c.loop-k.list _ c.args.list.now.spare
    (sym (all_done c.loop-k.k c.loop-k.next c.loop-k.list.items (omega (arith, c.loop-k-test.false, c.loop-k.invariant.whole, c.len-k-end.ensures))) ∙ c.loop-k.invariant.drawn)
    c.loop-k.invariant.room
