-- The verdicts of main and the procedures from number k on are the map, and bound the checks; one fewer is left each
-- time. At 0 they are those of the whole program, since main and the procedures are found by all numbers below their
-- count.
use Rattle.std.proofs.Common.{◌≡◌, ℕ, ◌+◌, ◌-◌, [], ◌∷◌, Some, drop, length, slice_get, sym, ap, ◌∙◌, arith}
use Rattle.std.specs.FinMap.{from_entries}
use Rattle.plcs_base.specs.ListLeft.{past_where_none}
use Rattle.template_tree.specs.Checks.Marks.{VerdictMap, node_verdicts, offences, procedure_verdicts}
use Rattle.template_tree.specs.Programs.PlainTree.{Forest, forest, forest_nodes, nodes}
use Rattle.type_marks.proofs.NotedVerdicts.{at_most, noted_procedure, procedure_more, procedures_shorter}
use Rattle.type_marks.proofs.Programs.{is_item}
use Rattle.type_marks.proofs.marks.Marks.new.Goals as goal

pub overflow_add-k : goal.overflow_add-k
overflow_add-k g c = omega (arith, c.procedures-k.ensures, c.items_are_nodes.ensures.few c.args.tree.now.items, c.requires.tree.few)

pub note_node-requires-clause-item : goal.note_node-requires-clause-item
note_node-requires-clause-item g c =
    is_item c.args.tree.now (c.loop-k.k - 1) c.in-Some.procedure.now c.requires.tree (sym c.in-Some.ensures.item) c.in-Some.ensures.subtree
    c.in-Some.ensures.few

pub loop-k-preserved : goal.loop-k-preserved
loop-k-preserved g c =
    let program = c.args.tree.now.items in
    let items = nodes program in
    let procedure = c.in-Some.procedure.now in
    let k = c.loop-k.k - 1 in
    let there : slice_get items k ≡ Some procedure = sym c.in-Some.ensures.item in
    let next : k + 1 ≡ c.loop-k.k = omega (arith, c.loop-k-test.true) in
    record {
      noted = noted_procedure program items k c.loop-k.k procedure there next c.loop-k.marks.verdicts c.note_node.new.self.verdicts c.loop-k.invariant.noted c.in-Ok.ensures.noted;
      within = omega (arith, c.loop-k.invariant.within);
      counts =
          c.counts_add_up.ensures.checks.joined (length (procedure_verdicts program (forest (drop c.loop-k.k items))))
          (length (node_verdicts program procedure (forest (procedure ∷ [])))) (length (procedure_verdicts program (forest (drop k items))))
          (g.W.Work.counts c.args.work.now) (g.W.Work.counts c.loop-k.work) (g.W.Work.counts c.note_node.new.work)
          (omega (arith, procedure_more program items k c.loop-k.k procedure there next)) c.loop-k.invariant.counts c.note_node.ensures.counts;
    }

pub returns-in_default-note_node-clause-counts : goal.returns-in_default-note_node-clause-counts
returns-in_default-note_node-clause-counts g c =
    let program = c.args.tree.now.items in
    let items = nodes program in
    let procedure = c.in-Some.procedure.now in
    let k = c.loop-k.k - 1 in
    let there : slice_get items k ≡ Some procedure = sym c.in-Some.ensures.item in
    let next : k + 1 ≡ c.loop-k.k = omega (arith, c.loop-k-test.true) in
    c.counts_add_up.ensures.checks.joined (length (procedure_verdicts program (forest (drop c.loop-k.k items))))
    (length (node_verdicts program procedure (forest (procedure ∷ [])))) (length (procedure_verdicts program program))
    (g.W.Work.counts c.args.work.now) (g.W.Work.counts c.loop-k.work) (g.W.Work.counts c.note_node.new.work)
    (omega (
      arith,
      procedure_more program items k c.loop-k.k procedure there next,
      procedures_shorter program k items,
      ap (λ (all : Forest). length (procedure_verdicts program all)) (forest_nodes program),
    ))
    c.loop-k.invariant.counts c.note_node.ensures.counts

pub unreachable-requires : goal.unreachable-requires
unreachable-requires g c =
    omega (arith, past_where_none (nodes c.args.tree.now.items) (c.loop-k.k - 1) (sym c.in_default.ensures.item), c.loop-k-test.true, c.loop-k.invariant.within)

pub returns-clause-verdicts : goal.returns-clause-verdicts
returns-clause-verdicts g c =
    let program = c.args.tree.now.items in
    let none : c.loop-k.k ≡ 0 = omega (arith, c.loop-k-test.false) in
    c.loop-k.invariant.noted
    ∙ ap (λ (k : ℕ). let m : VerdictMap = from_entries (procedure_verdicts program (forest (drop k (nodes program)))) in m) none
    ∙ ap (λ (all : Forest). let m : VerdictMap = from_entries (procedure_verdicts program all) in m) (forest_nodes program)

pub returns-clause-marks : goal.returns-clause-marks
returns-clause-marks g c = ap offences (returns-clause-verdicts g c)

pub returns-clause-counts : goal.returns-clause-counts
returns-clause-counts g c =
    let program = c.args.tree.now.items in
    at_most (length (procedure_verdicts program (forest (drop c.loop-k.k (nodes program))))) (length (procedure_verdicts program program))
    (g.W.Work.counts c.args.work.now) (g.W.Work.counts c.loop-k.work)
    (omega (
      arith,
      procedures_shorter program c.loop-k.k (nodes program),
      ap (λ (all : Forest). length (procedure_verdicts program all)) (forest_nodes program),
    ))
    c.loop-k.invariant.counts
