-- The node that came is the given one in the slot of the old one, with the next slots inside; so the tree is that of
-- the edit. As many slots are live as before, less those of the old node, and with those of the new one.
use Rattle.std.specs.Prelude.{◌≡◌, refl, ◌+◌, ◌-◌, ◌≤◌, Some}
use Rattle.std.proofs.Common.{arith, sym, ap, ◌∙◌}
use Rattle.template_tree.specs.contracts.tree.Tree.{the_view}
use Rattle.template_tree.specs.Programs.PlainTree.{PlainNode, PlainTree}
use Rattle.template_tree.specs.Positions.Path.{node_at}
use Rattle.template_tree.specs.Programs.Slots.{count}
use Rattle.template_tree.specs.Edits.Edit.{node_in_slot}
use Rattle.template_tree.specs.Private.Exchange.{MayReplace}
use Rattle.template_tree.proofs.Edits.Procedures.{way_where}
use Rattle.template_tree.proofs.Trees.Counts.{counted_below}
use Rattle.template_tree.proofs.Puts.PutEdits.{come, exchanged_is, put_change, of_there}
use Rattle.template_tree.proofs.tree.Tree.exchange.Goals as goal

-- the old node stands at the path
there : (c : goal.After-of_node) → node_at c.args.self.now.items c.args.path.now.items ≡ Some c.replace-old.result
there c = sym c.in-Some.ensures.found ∙ ap Some (sym c.replace-old.ensures.value)

-- how many slots it has
slots_are : (c : goal.After-of_node) → c.slots.result ≡ count c.replace-old.result.inner + 1
slots_are c = c.slots.ensures

-- the new node is there
came_is : (c : goal.After-of_node) → c.replace-old.new.dest ≡ come c.args.self.now c.replace-old.result c.args.node
came_is c =
    c.replace-old.ensures.after
    ∙ (c.settle-next.ensures.settled
    ∙ λ i. node_in_slot ((ap (λ (n : PlainNode). n.label.slot) (c.there.view_is ∙ sym c.replace-old.ensures.value)) i)
    ((ap (λ (t : PlainTree). t.drawn) c.self.view_is) i) c.args.node)

few : (c : goal.After-of_node) → c.slots.result ≤ c.args.self.now.live
few c = omega (arith, slots_are c, counted_below c.args.self.now.items c.args.path.now.items c.replace-old.result (there c), c.requires.tree.live)

pub procedure_at-procedure-requires : goal.procedure_at-procedure-requires
procedure_at-procedure-requires c =
    way_where (node_at c.args.self.now.items c.args.path.now.items) (MayReplace c.args.self.now c.args.node) c.args.self.now.items
    c.args.path.now.items refl c.requires.fits

pub overflow_sub-self : goal.overflow_sub-self
overflow_sub-self c =
    let found = sym c.in-Some.ensures.found ∙ ap Some (sym c.replace-old.ensures.value) in
    omega (
      arith,
      c.slots.ensures,
      counted_below c.args.self.now.items c.args.path.now.items c.replace-old.result found,
      c.requires.tree.live,
      ap (λ (t : PlainTree). t.live) c.self.view_is,
    )

pub returns-clause-put : goal.returns-clause-put
returns-clause-put c =
    let drawn : c.self.inside.drawn ≡ c.args.self.now.drawn = ap (λ (t : PlainTree). t.drawn) c.self.view_is in
    let live : c.self.inside.live ≡ c.args.self.now.live = ap (λ (t : PlainTree). t.live) c.self.view_is in
    c.note.ensures
    ∙ exchanged_is c.args.self.now c.args.path.now.items c.replace-old.result c.args.node c.replace-old.new.dest (the_view c.self-2.inside)
    c.settle-next.result (c.self.inside.live - c.slots.result + 1 + (c.settle-next.result - c.self.inside.drawn)) c.slots.result
    c.requires.tree (there c) c.self-2.view_is (came_is c)
    (c.settle-next.ensures.next ∙ ap (λ n. n + count c.args.node.inner) drawn)
    c.slots.ensures (λ i. live i - c.slots.result + 1 + (c.settle-next.result - drawn i)) (few c)

pub returns-clause-change : goal.returns-clause-change
returns-clause-change c =
    put_change c.args.self.now c.args.path.now.items c.replace-old.result c.args.node _ c.there.inside.slot c.procedure_at-procedure.result
    c.of_node.result c.requires.tree (there c)
    (of_there (node_at c.args.self.now.items c.args.path.now.items) (MayReplace c.args.self.now c.args.node) c.replace-old.result (there c) c.requires.fits)
    (returns-clause-put c) (ap (λ (n : PlainNode). n.label.slot) (c.there.view_is ∙ sym c.replace-old.ensures.value)) c.procedure_at-procedure.ensures
    c.of_node.ensures
