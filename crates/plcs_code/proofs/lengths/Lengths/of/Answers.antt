use Rattle.std.proofs.Common.{◌≡◌, ◌∙◌, ◌+◌, ◌-◌, ◌≤◌, ◌++◌, [], Some, None, drop, slice_get, refl, sym, ap, subst, arith}
use Rattle.std.proofs.Math.ListN.{drop_of_length-le}
use Rattle.std.proofs.lemmas.List.{append-nil}
use Rattle.std.specs.Prelude.{sum}
use Rattle.template_tree.specs.Positions.Path.{node_at}
use Rattle.template_tree.specs.Programs.PlainTree.{Forest, forest, forest_nodes, nodes}
use Rattle.plcs_code.specs.BlockLimit.{most_instrs}
use Rattle.plcs_code.specs.Gen.{node_lengths}
use Rattle.plcs_code.specs.Private.LaidCode.{listed_lengths}
use Rattle.plcs_code.proofs.CountedLengths.{listed_left, sum_left}
use Rattle.plcs_code.proofs.ReadParts.{past_where_none}
use Rattle.plcs_code.proofs.lengths.Lengths.of.Goals as goal

-- The program's items are measured from the last to the first: the list and the sum are those of the items from the
-- index on, and at the index 0 of the whole program. The sum breaks off where it passes the most that code may have.

pub overflow_add-k : goal.overflow_add-k
overflow_add-k g c =
    omega (arith, c.procedures-k.ensures, c.items_are_nodes.ensures.few c.args.tree.now.items, c.requires.tree.few)

pub loop-k-init : goal.loop-k-init
loop-k-init g c =
    let marks = g.M.Marked.marks c.args.marks.now in
    let items = g.D.Scope.items c.args.scope.now in
    let all = nodes c.args.tree.now.items in
    let none : drop (c.procedures-k.result + 1) all ≡ [] = drop_of_length-le all (omega (arith, c.procedures-k.ensures)) in
    record {
      lengths = c.new-lengths.ensures ∙ ap (λ ns. listed_lengths marks items (forest ns) ++ []) (sym none);
      total = ap (λ ns. sum (node_lengths marks items (forest ns))) (sym none);
      short = omega arith;
      within = omega (arith, c.procedures-k.ensures);
      uncounted = refl;
    }

pub loop-k-preserved : goal.loop-k-preserved
loop-k-preserved g c =
    let marks = g.M.Marked.marks c.args.marks.now in
    let items = g.D.Scope.items c.args.scope.now in
    let program = c.args.tree.now.items in
    let all = nodes program in
    let k = c.loop-k.k - 1 in
    let item = c.in-Some.item.now in
    let there : slice_get all k ≡ Some item =
    sym (ap (node_at program) c.path_of_item.ensures ∙ c.items_are_nodes.ensures.found program k) ∙ sym c.in-Some.ensures.found in
    let next : k + 1 ≡ c.loop-k.k = omega (arith, c.loop-k-test.true) in
    record {
      lengths =
          listed_left marks items all k c.loop-k.k item there next [] c.loop-k.lengths c.measure.new.self c.loop-k.invariant.lengths
          c.in-Ok.ensures.lengths;
      total =
          sum_left marks items all k c.loop-k.k item there next c.in-Ok.length c.loop-k.total c.in-Ok-sum_within.sum c.in-Ok.ensures.length
          c.loop-k.invariant.total c.in-Ok-sum_within.ensures.sum;
      short = c.in-Ok-sum_within.ensures.short;
      within = omega (arith, c.loop-k.invariant.within);
      uncounted = c.measure.ensures.uncounted ∙ c.loop-k.invariant.uncounted;
    }

pub unreachable-requires : goal.unreachable-requires
unreachable-requires g c =
    let program = c.args.tree.now.items in
    let none : slice_get (nodes program) (c.loop-k.k - 1) ≡ None =
    sym (ap (node_at program) c.path_of_item.ensures ∙ c.items_are_nodes.ensures.found program (c.loop-k.k - 1)) ∙ sym c.in_default.ensures.found in
    omega (arith, past_where_none (nodes program) (c.loop-k.k - 1) none, c.loop-k-test.true, c.loop-k.invariant.within)

pub returns-clause-lengths : goal.returns-clause-lengths
returns-clause-lengths g c =
    let marks = g.M.Marked.marks c.args.marks.now in
    let items = g.D.Scope.items c.args.scope.now in
    let program = c.args.tree.now.items in
    let none : c.loop-k.k ≡ 0 = omega (arith, c.loop-k-test.false) in
    c.loop-k.invariant.lengths
    ∙ append-nil (listed_lengths marks items (forest (drop c.loop-k.k (nodes program))))
    ∙ ap (λ k. listed_lengths marks items (forest (drop k (nodes program)))) none
    ∙ ap (listed_lengths marks items) (forest_nodes program)

pub returns-clause-short : goal.returns-clause-short
returns-clause-short g c =
    let marks = g.M.Marked.marks c.args.marks.now in
    let items = g.D.Scope.items c.args.scope.now in
    let program = c.args.tree.now.items in
    let none : c.loop-k.k ≡ 0 = omega (arith, c.loop-k-test.false) in
    let total : c.loop-k.total ≡ sum (node_lengths marks items program) =
    c.loop-k.invariant.total
    ∙ ap (λ k. sum (node_lengths marks items (forest (drop k (nodes program))))) none
    ∙ ap (λ (f : Forest). sum (node_lengths marks items f)) (forest_nodes program) in
    subst (λ n. n + 2 ≤ most_instrs) total c.loop-k.invariant.short
