-- The verdicts of the nodes from number k on stand in the map, and bound the checks; one node fewer is left each time.
-- At 0 all that stands in the node is noted, and its parts come before that, as its verdicts list them.
use Rattle.std.proofs.Common.{◌≡◌, ◌+◌, ◌-◌, [], ◌∷◌, Some, drop, length, slice_get, sym, arith}
use Rattle.plcs_base.specs.ListLeft.{past_where_none}
use Rattle.template_tree.specs.Checks.Marks.{node_verdicts, part_verdicts, surroundings}
use Rattle.template_tree.specs.Programs.PlainTree.{forest, nodes}
use Rattle.type_marks.proofs.NotedVerdicts.{all_more, node_more, noted_all, noted_node, then_ok}
use Rattle.type_marks.proofs.Programs.{child_in, listed_in}
use Rattle.type_marks.proofs.marks.Marks.+note_node.Goals as goal

pub children-k-requires : goal.children-k-requires
children-k-requires g t c = omega (arith, c.items_are_nodes.ensures.few c.args.node.now.inner, c.requires.few)

pub note_node-requires : goal.note_node-requires
note_node-requires g t c κs within =
    let inner = c.args.node.now.inner in
    let child = c.in-Some.child.now in
    let k = c.loop-k.k - 1 in
    let there : slice_get (nodes inner) k ≡ Some child = sym c.in-Some.ensures in
    let few = c.items_are_nodes.ensures.fewer inner k child there in (
      omega (arith, few),
      (
        within,
        (
          c.requires.tree,
          (
            c.requires.decls,
            (
              c.requires.item,
              (
                child_in c.args.procedure.now c.args.node.now k child c.requires.inside there,
                (c.items_are_nodes.ensures.subtrees inner k child there c.requires.subtree.1, omega (arith, few, c.requires.few)),
              ),
            ),
          ),
        ),
      ),
    )

pub loop-k-preserved : goal.loop-k-preserved
loop-k-preserved g t c =
    let program = c.args.tree.now.items in
    let procedure = c.args.procedure.now in
    let items = nodes c.args.node.now.inner in
    let child = c.in-Some.child.now in
    let k = c.loop-k.k - 1 in
    let there : slice_get items k ≡ Some child = sym c.in-Some.ensures in
    let next : k + 1 ≡ c.loop-k.k = omega (arith, c.loop-k-test.true) in
    record {
      noted =
          noted_node program procedure items k c.loop-k.k child there next c.args.self.now.verdicts c.loop-k.self.verdicts c.note_node.new.self.verdicts c.loop-k.invariant.noted
          c.in_ok-note_node.ensures.noted;
      within = omega (arith, c.loop-k.invariant.within);
      counts =
          c.counts_add_up.ensures.checks.joined (length (node_verdicts program procedure (forest (drop c.loop-k.k items))))
          (length (node_verdicts program procedure (forest (child ∷ [])))) (length (node_verdicts program procedure (forest (drop k items))))
          (g.W.Work.counts c.args.work.now) (g.W.Work.counts c.loop-k.work) (g.W.Work.counts c.note_node.new.work)
          (omega (arith, node_more program procedure items k c.loop-k.k child there next)) c.loop-k.invariant.counts c.note_node.ensures.counts;
    }

pub returns-in_err-note_node-clause-counts : goal.returns-in_err-note_node-clause-counts
returns-in_err-note_node-clause-counts g t c =
    let program = c.args.tree.now.items in
    let procedure = c.args.procedure.now in
    let items = nodes c.args.node.now.inner in
    let child = c.in-Some.child.now in
    let k = c.loop-k.k - 1 in
    let there : slice_get items k ≡ Some child = sym c.in-Some.ensures in
    let next : k + 1 ≡ c.loop-k.k = omega (arith, c.loop-k-test.true) in
    c.counts_add_up.ensures.checks.joined (length (node_verdicts program procedure (forest (drop c.loop-k.k items))))
    (length (node_verdicts program procedure (forest (child ∷ [])))) (length (node_verdicts program procedure (forest (c.args.node.now ∷ []))))
    (g.W.Work.counts c.args.work.now) (g.W.Work.counts c.loop-k.work) (g.W.Work.counts c.note_node.new.work)
    (omega (arith, node_more program procedure items k c.loop-k.k child there next, all_more program procedure c.args.node.now k))
    c.loop-k.invariant.counts c.note_node.ensures.counts

pub unreachable-requires : goal.unreachable-requires
unreachable-requires g t c =
    let items = nodes c.args.node.now.inner in
    omega (arith, past_where_none items (c.loop-k.k - 1) (sym c.in_default.ensures), c.loop-k-test.true, c.loop-k.invariant.within)

pub note_parts-requires-clause-listed : goal.note_parts-requires-clause-listed
note_parts-requires-clause-listed g t c =
    listed_in c.args.tree.now.items c.args.procedure.now c.args.node.now c.requires.item c.requires.inside c.requires.subtree

pub returns-clause-noted : goal.returns-clause-noted
returns-clause-noted g t c =
    let none : c.loop-k.k ≡ 0 = omega (arith, c.loop-k-test.false) in
    then_ok c.note_parts.result
    (noted_all c.args.tree.now.items c.args.procedure.now c.args.node.now c.loop-k.k c.args.self.now.verdicts c.loop-k.self.verdicts c.note_parts.new.self.verdicts none
    c.loop-k.invariant.noted)
    c.note_parts.ensures.noted

pub returns-clause-counts : goal.returns-clause-counts
returns-clause-counts g t c =
    let program = c.args.tree.now.items in
    let procedure = c.args.procedure.now in
    let label = c.args.node.now.label in
    c.counts_add_up.ensures.checks.joined (length (node_verdicts program procedure (forest (drop c.loop-k.k (nodes c.args.node.now.inner)))))
    (length (part_verdicts (surroundings program procedure label.slot) label.slot 0 label.parts))
    (length (node_verdicts program procedure (forest (c.args.node.now ∷ []))))
    (g.W.Work.counts c.args.work.now) (g.W.Work.counts c.loop-k.work) (g.W.Work.counts c.note_parts.new.work)
    (omega (arith, all_more program procedure c.args.node.now c.loop-k.k)) c.loop-k.invariant.counts c.note_parts.ensures.counts
