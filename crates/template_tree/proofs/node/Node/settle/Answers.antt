use Rattle.std.specs.Prelude.{◌≡◌, false}
use Rattle.std.proofs.Common.{arith, ap, ◌∙◌}
use Rattle.template_tree.specs.contracts.node.Node.{the_view}
use Rattle.template_tree.specs.Programs.PlainTree.{PlainNode, PlainNodes, forest, forest_nodes}
use Rattle.template_tree.specs.Edits.Edit.{whole}
use Rattle.template_tree.specs.Programs.Slots.{count, with_slots_from}
use Rattle.template_tree.proofs.Edits.RevealedNodes.{revealed}
use Rattle.template_tree.proofs.Room.RoomlessEdits.{count_whole}
use Rattle.template_tree.proofs.node.Node.settle.Goals as goal

-- the nodes inside, with nothing elided
inner_is : (c : goal.After-draw_slots) → forest c.reveal.new.list.items ≡ whole c.args.self.now.inner
inner_is c =
    revealed c.self.inside.inner c.reveal.new.list c.args.self.now.inner c.reveal.ensures (ap (λ (node : PlainNode). node.inner) c.self.view_is)

pub draw_slots-requires : goal.draw_slots-requires
draw_slots-requires c =
    let is : forest c.reveal.new.list.items ≡ whole c.args.self.now.inner =
    revealed c.self.inside.inner c.reveal.new.list c.args.self.now.inner c.reveal.ensures (ap (λ (node : PlainNode). node.inner) c.self.view_is)
    in
    record { few = omega (arith, ap count is, count_whole c.args.self.now.inner, c.requires.few) }

pub returns-clause-settled : goal.returns-clause-settled
returns-clause-settled c =
    let drawn : forest c.draw_slots.new.list.items ≡ with_slots_from c.args.first (whole c.args.self.now.inner) =
    ap (λ (list : PlainNodes). forest list.items) c.draw_slots.ensures.drawn
    ∙ (forest_nodes (with_slots_from c.args.first (forest c.reveal.new.list.items)) ∙ ap (with_slots_from c.args.first) (inner_is c))
    in
    let spare = ap (λ (list : PlainNodes). list.spare) c.draw_slots.ensures.drawn ∙ ap (λ (list : PlainNodes). list.spare) c.reveal.ensures in
    (λ i. record {
      label = record (the_view c.self.inside).label { slot = c.args.slot.0; elided = false; spare = spare i };
      inner = drawn i;
    })
    ∙ ap (λ (node : PlainNode). let new : PlainNode = record { label = record node.label { slot = c.args.slot.0; elided = false }; inner = with_slots_from c.args.first (whole c.args.self.now.inner) } in new) c.self.view_is

pub returns-clause-next : goal.returns-clause-next
returns-clause-next c = omega (arith, c.draw_slots.ensures.next, ap count (inner_is c), count_whole c.args.self.now.inner)
