use Rattle.std.proofs.Common.{◌≡◌, ◌+◌, ◌-◌, ◌++◌, ◌∷◌, [], Some, drop, slice_get, refl, sym, ap, ◌∙◌, arith}
use Rattle.std.proofs.Math.ListN.{drop_of_length-le}
use Rattle.template_tree.specs.Programs.PlainTree.{forest, forest_nodes, nodes}
use Rattle.plcs_code.specs.Gen.{length_around, node_lengths}
use Rattle.plcs_code.specs.Pieces.{first_length, other_lengths}
use Rattle.plcs_code.specs.Private.LaidCode.{listed_lengths}
use Rattle.plcs_code.proofs.CountedLengths.{first_left, listed_left, listed_more, others_left}
use Rattle.plcs_code.proofs.LaidNodes.{first_others}
use Rattle.plcs_code.proofs.ReadParts.{past_where_none}
use Rattle.plcs_code.proofs.lengths.Lengths.+measure.Goals as goal

-- The nodes inside are measured from the last to the first: with those that are left in front, the lengths of the first
-- and of the others, and the list of all, are those of the nodes from the index on. At the index 0 that is all of them.

pub children-k-requires : goal.children-k-requires
children-k-requires g t c = omega (arith, c.items_are_nodes.ensures.few c.args.node.now.inner, c.requires.few)

pub loop-k-init : goal.loop-k-init
loop-k-init g t c =
    let marks = g.M.Marked.marks c.args.marks.now in
    let items = g.D.Scope.items c.args.scope.now in
    let all = nodes c.args.node.now.inner in
    let none : drop c.children-k.result all ≡ [] = drop_of_length-le all (omega (arith, c.children-k.ensures)) in
    record {
      first = ap (λ ns. first_length (node_lengths marks items (forest ns))) (sym none);
      others = ap (λ ns. other_lengths (node_lengths marks items (forest ns))) (sym none);
      lengths = ap (λ ns. listed_lengths marks items (forest ns) ++ c.args.self.now) (sym none);
      within = omega (arith, c.children-k.ensures);
      first_short = omega arith;
      others_short = omega arith;
      uncounted = refl;
    }

pub measure-requires : goal.measure-requires
measure-requires g t c κs within =
    let inner = c.args.node.now.inner in
    let child = c.in-Some.child.now in
    let k = c.loop-k.k - 1 in
    let there : slice_get (nodes inner) k ≡ Some child = sym c.in-Some.ensures in
    let few = c.items_are_nodes.ensures.fewer inner k child there in (
      omega (arith, few),
      (within.0, (within.1.0, (within.1.1, (c.items_are_nodes.ensures.subtrees inner k child there c.requires.subtree.1, omega (arith, few, c.requires.few))))),
    )

pub loop-k-preserved : goal.loop-k-preserved
loop-k-preserved g t c =
    let marks = g.M.Marked.marks c.args.marks.now in
    let items = g.D.Scope.items c.args.scope.now in
    let all = nodes c.args.node.now.inner in
    let child = c.in-Some.child.now in
    let k = c.loop-k.k - 1 in
    let there : slice_get all k ≡ Some child = sym c.in-Some.ensures in
    let next : k + 1 ≡ c.loop-k.k = omega (arith, c.loop-k-test.true) in
    record {
      first = first_left marks items all k c.loop-k.k child there next c.in-Ok-measure.length c.in-Ok-measure.ensures.length;
      others =
          others_left marks items all k c.loop-k.k child there next c.loop-k.first c.loop-k.others c.in-Ok.behind c.loop-k.invariant.first
          c.loop-k.invariant.others c.in-Ok.ensures.sum;
      lengths =
          listed_left marks items all k c.loop-k.k child there next c.args.self.now c.loop-k.self c.measure.new.self c.loop-k.invariant.lengths
          c.in-Ok-measure.ensures.lengths;
      within = omega (arith, c.loop-k.invariant.within);
      first_short = omega (arith, c.in-Ok-measure.ensures.short);
      others_short = omega (arith, c.in-Ok.ensures.short);
      uncounted = c.measure.ensures.uncounted ∙ c.loop-k.invariant.uncounted;
    }

pub unreachable-requires : goal.unreachable-requires
unreachable-requires g t c =
    let items = nodes c.args.node.now.inner in
    omega (arith, past_where_none items (c.loop-k.k - 1) (sym c.in_default.ensures), c.loop-k-test.true, c.loop-k.invariant.within)

pub returns-clause-length : goal.returns-clause-length
returns-clause-length g t c =
    let marks = g.M.Marked.marks c.args.marks.now in
    let items = g.D.Scope.items c.args.scope.now in
    let node = c.args.node.now in
    let lengths = node_lengths marks items node.inner in
    let none : c.loop-k.k ≡ 0 = omega (arith, c.loop-k-test.false) in
    let inner : forest (drop c.loop-k.k (nodes node.inner)) ≡ node.inner =
    ap (λ k. forest (drop k (nodes node.inner))) none ∙ forest_nodes node.inner in
    let first : c.loop-k.first ≡ first_length lengths = c.loop-k.invariant.first ∙ ap (λ f. first_length (node_lengths marks items f)) inner in
    let others : c.loop-k.others ≡ other_lengths lengths = c.loop-k.invariant.others ∙ ap (λ f. other_lengths (node_lengths marks items f)) inner in
    let whole : c.in-Ok-sum_within-2.whole ≡ length_around marks items node.label lengths =
    omega (arith, first, others, first_others lengths, c.in-Ok-sum_within.ensures.sum, c.in-Ok-own_length.ensures.length, c.in-Ok-sum_within-2.ensures.sum) in
    ap (λ n. n ∷ []) whole

pub returns-clause-lengths : goal.returns-clause-lengths
returns-clause-lengths g t c =
    let marks = g.M.Marked.marks c.args.marks.now in
    let items = g.D.Scope.items c.args.scope.now in
    let node = c.args.node.now in
    let lengths = node_lengths marks items node.inner in
    let none : c.loop-k.k ≡ 0 = omega (arith, c.loop-k-test.false) in
    let inner : forest (drop c.loop-k.k (nodes node.inner)) ≡ node.inner =
    ap (λ k. forest (drop k (nodes node.inner))) none ∙ forest_nodes node.inner in
    let first : c.loop-k.first ≡ first_length lengths = c.loop-k.invariant.first ∙ ap (λ f. first_length (node_lengths marks items f)) inner in
    let others : c.loop-k.others ≡ other_lengths lengths = c.loop-k.invariant.others ∙ ap (λ f. other_lengths (node_lengths marks items f)) inner in
    let whole : c.in-Ok-sum_within-2.whole ≡ length_around marks items node.label lengths =
    omega (arith, first, others, first_others lengths, c.in-Ok-sum_within.ensures.sum, c.in-Ok-own_length.ensures.length, c.in-Ok-sum_within-2.ensures.sum) in
    listed_more marks items node.label node.inner c.in-Ok-sum_within-2.whole c.in-Ok-own_length.own.pieces c.loop-k.first c.loop-k.others c.args.self.now c.loop-k.self c.push.new.self whole
    c.in-Ok-own_length.ensures.pieces first others (c.loop-k.invariant.lengths ∙ ap (λ f. listed_lengths marks items f ++ c.args.self.now) inner) c.in-Ok-push.ensures
