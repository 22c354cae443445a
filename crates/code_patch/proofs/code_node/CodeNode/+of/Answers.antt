-- The own code of a node is made, then what stands inside it, and then its jumps, which depend on how long that is;
-- what is counted is what each of these is long. Inside, what is kept so far and what is still to be kept is all of
-- it.
use Rattle.std.specs.Prelude.{◌≡◌, ◌+◌, ◌∷◌, ◌++◌, [], Some, drop, length, slice_get, sum}
use Rattle.std.proofs.Common.{arith, ap, sym, ◌∙◌, refl}
use Rattle.std.proofs.lemmas.List.{length-append}
use Rattle.std.proofs.lemmas.Option.{slice_get_within}
use Rattle.std.proofs.lemmas.Result.{IfOk-weaker, on_ok_weaker}
use Rattle.template_tree.specs.Programs.PlainTree.{Forest, forest, forest_nodes, nodes}
use Rattle.plcs_code.specs.Gen.{node_lengths}
use Rattle.plcs_code.specs.OwnCode.{own_code_by}
use Rattle.code_patch.specs.CodeEdit.{join_code, roomless_code}
use Rattle.code_patch.specs.CodeForest.{CodeForest, PlainCodeNode, kept_code, kept_lengths, code_nodes}
use Rattle.code_patch.specs.Private.OuterNodes.{nodes_inside}
use Rattle.code_patch.specs.Private.PlainCodeNode.{code_forest, jumps_length, kept_node, node_length, roomless_code_node}
use Rattle.code_patch.proofs.CodeRoots.{root_length}
use Rattle.code_patch.proofs.CountedCode.{emits_both, emits_break, emits_more, emits_most, emits_nothing}
use Rattle.code_patch.proofs.MadeCode.{lengths_next, lengths_none, made_all, made_next, node_kept, nodes_join, outer_sound, roomless_kept, whole_length}
use Rattle.code_patch.proofs.code_node.CodeNode.+of.Goals as goal

-- ---- a node

pub of-returns-in_default-clause-counts : goal.of-returns-in_default-clause-counts
of-returns-in_default-clause-counts g t c =
    let marks = g.M.Marked.marks c.args.marks.now in
    let items = g.D.Scope.items c.args.scope.now in
    let node = c.args.node.now in
    let own = own_code_by marks items node.label in
    let whole = whole_length c.lengths_are_told.ensures.own marks items node own (kept_code marks items node.inner) refl (roomless_kept marks items node.inner) in
    emits_more (length own.pieces.before + length own.pieces.behind) (node_length marks items node) (g.W.Work.counts c.args.work.now)
    (g.W.Work.counts c.of.new.work) (omega (arith, whole)) c.of.ensures.counts

pub of-fill-requires : goal.of-fill-requires
of-fill-requires g t c κs within =
    (omega arith, (within.0, (within.1.0, (within.1.1, (c.none-kept.ensures.own, (c.none-kept.ensures.inner, (c.requires.subtree, c.requires.few)))))))

pub of-returns-in-Err-clause-counts : goal.of-returns-in-Err-clause-counts
of-returns-in-Err-clause-counts g t c =
    let marks = g.M.Marked.marks c.args.marks.now in
    let items = g.D.Scope.items c.args.scope.now in
    let node = c.args.node.now in
    let own = c.in-Ok.own in
    let whole = whole_length c.lengths_are_told.ensures.own marks items node own (kept_code marks items node.inner) c.in-Ok.ensures.code (roomless_kept marks items node.inner) in
    emits_break (length own.pieces.before + length own.pieces.behind) (sum (node_lengths marks items node.inner)) (node_length marks items node)
    (g.W.Work.counts c.args.work.now) (g.W.Work.counts c.of.new.work) (g.W.Work.counts c.fill.new.work)
    (omega (arith, whole)) c.in-Ok.ensures.counted c.fill.ensures.counts

pub of-returns-in-Ok-fill-clause-kept : goal.of-returns-in-Ok-fill-clause-kept
of-returns-in-Ok-fill-clause-kept g t c =
    let marks = g.M.Marked.marks c.args.marks.now in
    let items = g.D.Scope.items c.args.scope.now in
    let own = c.in-Ok.own in
    let inner = c.fill.new.self.inner in
    IfOk-weaker c.with_own.result (λ kept. kept ≡ record { own = own; spare = c.fill.new.self.spare; inner = inner })
    (λ kept. roomless_code_node kept ≡ kept_node marks items c.args.node.now)
    (λ kept is. node_kept marks items c.args.node.now kept own inner (ap (λ (n : PlainCodeNode). n.own) is) (ap (λ (n : PlainCodeNode). n.inner) is) c.in-Ok.ensures.code c.in-Ok-fill.ensures.inner)
    c.with_own.ensures.kept

pub of-returns-in-Ok-fill-clause-counted : goal.of-returns-in-Ok-fill-clause-counted
of-returns-in-Ok-fill-clause-counted g t c =
    let marks = g.M.Marked.marks c.args.marks.now in
    let items = g.D.Scope.items c.args.scope.now in
    let node = c.args.node.now in
    let own = c.in-Ok.own in
    let inner = c.fill.new.self.inner in
    let first = length own.pieces.before + length own.pieces.behind in
    let inside = sum (node_lengths marks items node.inner) in
    let whole = whole_length c.lengths_are_told.ensures.own marks items node own inner c.in-Ok.ensures.code c.in-Ok-fill.ensures.inner in
    on_ok_weaker c.with_own.result
    (emits_both (first + inside) (jumps_length own (kept_lengths inner)) (node_length marks items node)
    (g.W.Work.counts c.args.work.now) (g.W.Work.counts c.fill.new.work) (g.W.Work.counts c.with_own.new.work)
    (omega (arith, whole))
    (emits_both first inside (first + inside) (g.W.Work.counts c.args.work.now) (g.W.Work.counts c.of.new.work) (g.W.Work.counts c.fill.new.work)
    refl c.in-Ok.ensures.counted c.in-Ok-fill.ensures.counted))
    c.with_own.ensures.counted

pub of-returns-in-Ok-fill-clause-counts : goal.of-returns-in-Ok-fill-clause-counts
of-returns-in-Ok-fill-clause-counts g t c =
    let marks = g.M.Marked.marks c.args.marks.now in
    let items = g.D.Scope.items c.args.scope.now in
    let node = c.args.node.now in
    let own = c.in-Ok.own in
    let inner = c.fill.new.self.inner in
    let first = length own.pieces.before + length own.pieces.behind in
    let inside = sum (node_lengths marks items node.inner) in
    let whole = whole_length c.lengths_are_told.ensures.own marks items node own inner c.in-Ok.ensures.code c.in-Ok-fill.ensures.inner in
    emits_break (first + inside) (jumps_length own (kept_lengths inner)) (node_length marks items node)
    (g.W.Work.counts c.args.work.now) (g.W.Work.counts c.fill.new.work) (g.W.Work.counts c.with_own.new.work)
    (omega (arith, whole))
    (emits_both first inside (first + inside) (g.W.Work.counts c.args.work.now) (g.W.Work.counts c.of.new.work) (g.W.Work.counts c.fill.new.work)
    refl c.in-Ok.ensures.counted c.in-Ok-fill.ensures.counted)
    c.with_own.ensures.counts

-- ---- the nodes inside

pub fill-loop-node-init : goal.fill-loop-node-init
fill-loop-node-init g t c =
    let marks = g.M.Marked.marks c.args.marks.now in
    let items = g.D.Scope.items c.args.scope.now in
    let all = nodes_inside c.args.outer.now in
    let same : forest (nodes all) ≡ all = forest_nodes all in
    record {
      within = omega arith;
      own = c.requires.own;
      many = ap (λ (f : CodeForest). length (code_nodes f)) c.requires.empty;
      short =
          omega
          (arith, root_length c.args.self.now c.requires.own, ap (λ (f : CodeForest). sum (kept_lengths f)) c.requires.empty);
      made =
          ap (λ (f : CodeForest). join_code (roomless_code f) (kept_code marks items (forest (nodes all)))) c.requires.empty
          ∙ ap (λ (f : Forest). kept_code marks items f) same;
      counts = (
        0,
        omega (arith, ap (λ (f : Forest). sum (node_lengths marks items f)) same),
        emits_nothing (g.W.Work.counts c.args.work.now),
      );
    }

pub fill-of-requires : goal.fill-of-requires
fill-of-requires g t c κs within =
    let all = nodes_inside c.args.outer.now in
    let node = c.in-Some.node.now in
    let k = c.loop-node.k in
    let there : slice_get (nodes all) k ≡ Some node = sym {b = slice_get (nodes all) c.loop-node.k} c.in-Some.ensures in
    let sound = outer_sound c.args.outer.now c.requires.outer in
    let fewer = c.items_are_nodes.ensures.fewer all k node there in
    (omega (arith, fewer), (within.0, (within.1.0, (within.1.1, (c.items_are_nodes.ensures.subtrees all k node there sound.0, omega (arith, fewer, sound.1))))))

pub fill-loop-node-smaller : goal.fill-loop-node-smaller
fill-loop-node-smaller g t c =
    let all = nodes_inside c.args.outer.now in
    let there : slice_get (nodes all) c.loop-node.k ≡ Some c.in-Some.node.now = sym {b = slice_get (nodes all) c.loop-node.k} c.in-Some.ensures in
    omega (arith, slice_get_within (nodes all) c.loop-node.k c.in-Some.node.now there)

pub fill-overflow_add-k : goal.fill-overflow_add-k
fill-overflow_add-k g t c =
    let all = nodes_inside c.args.outer.now in
    let there : slice_get (nodes all) c.loop-node.k ≡ Some c.in-Some.node.now = sym {b = slice_get (nodes all) c.loop-node.k} c.in-Some.ensures in
    let sound = outer_sound c.args.outer.now c.requires.outer in
    omega (arith, slice_get_within (nodes all) c.loop-node.k c.in-Some.node.now there, c.items_are_nodes.ensures.few all, sound.1)

pub fill-push-requires-clause-few : goal.fill-push-requires-clause-few
fill-push-requires-clause-few g t c =
    let all = nodes_inside c.args.outer.now in
    let there : slice_get (nodes all) c.loop-node.k ≡ Some c.in-Some.node.now = sym {b = slice_get (nodes all) c.loop-node.k} c.in-Some.ensures in
    let sound = outer_sound c.args.outer.now c.requires.outer in
    omega (arith, slice_get_within (nodes all) c.loop-node.k c.in-Some.node.now there, c.items_are_nodes.ensures.few all, sound.1, c.loop-node.invariant.many)

pub fill-returns-in_default-of-clause-counts : goal.fill-returns-in_default-of-clause-counts
fill-returns-in_default-of-clause-counts g t c =
    let marks = g.M.Marked.marks c.args.marks.now in
    let items = g.D.Scope.items c.args.scope.now in
    let all = nodes_inside c.args.outer.now in
    let node = c.in-Some.node.now in
    let k = c.loop-node.k in
    let there : slice_get (nodes all) k ≡ Some node = sym {b = slice_get (nodes all) c.loop-node.k} c.in-Some.ensures in
    let next = lengths_next marks items all k node there in
    emits_break c.loop-node.invariant.counts.0 (node_length marks items node) (sum (node_lengths marks items all))
    (g.W.Work.counts c.args.work.now) (g.W.Work.counts c.loop-node.work) (g.W.Work.counts c.of.new.work)
    (omega (arith, next, c.loop-node.invariant.counts.1)) c.loop-node.invariant.counts.2 c.of.ensures.counts

pub fill-returns-in_err-push-clause-counts : goal.fill-returns-in_err-push-clause-counts
fill-returns-in_err-push-clause-counts g t c =
    let marks = g.M.Marked.marks c.args.marks.now in
    let items = g.D.Scope.items c.args.scope.now in
    let all = nodes_inside c.args.outer.now in
    let node = c.in-Some.node.now in
    let k = c.loop-node.k in
    let there : slice_get (nodes all) k ≡ Some node = sym {b = slice_get (nodes all) c.loop-node.k} c.in-Some.ensures in
    let next = lengths_next marks items all k node there in
    let done = c.loop-node.invariant.counts.0 in
    let more = node_length marks items node in
    emits_most (done + more) (sum (node_lengths marks items all)) (g.W.Work.counts c.args.work.now) (g.W.Work.counts c.of.new.work)
    (omega (arith, next, c.loop-node.invariant.counts.1))
    (emits_both done more (done + more) (g.W.Work.counts c.args.work.now) (g.W.Work.counts c.loop-node.work) (g.W.Work.counts c.of.new.work)
    refl c.loop-node.invariant.counts.2 c.in-Ok.ensures.counted)

pub fill-loop-node-preserved : goal.fill-loop-node-preserved
fill-loop-node-preserved g t c =
    let marks = g.M.Marked.marks c.args.marks.now in
    let items = g.D.Scope.items c.args.scope.now in
    let all = nodes_inside c.args.outer.now in
    let node = c.in-Some.node.now in
    let k = c.loop-node.k in
    let there : slice_get (nodes all) k ≡ Some node = sym {b = slice_get (nodes all) c.loop-node.k} c.in-Some.ensures in
    let next = lengths_next marks items all k node there in
    let done = c.loop-node.invariant.counts.0 in
    let more = node_length marks items node in
    let kept = c.loop-node.self.inner in
    let child = c.in-Ok.child in
    let put = c.in_ok-push.ensures.inner in
    let long = length-append (code_nodes kept) (child ∷ []) in
    let many : length (code_nodes c.push.new.self.inner) ≡ length (code_nodes kept ++ child ∷ []) =
    ap (λ (f : CodeForest). length (code_nodes f)) put ∙ ap length (nodes_join kept (code_forest (child ∷ []))) in
    record {
      within = omega (arith, slice_get_within (nodes all) k node there);
      own = c.in_ok-push.ensures.own;
      many = omega (arith, many, long, c.loop-node.invariant.many);
      short = c.in_ok-push.ensures.short;
      made =
          ap (λ (f : CodeForest). join_code (roomless_code f) (kept_code marks items (forest (drop (k + 1) (nodes all))))) put
          ∙ made_next marks items all k node there (kept_code marks items all) kept child c.in-Ok.ensures.kept c.loop-node.invariant.made;
      counts = (
        done + more,
        omega (arith, next, c.loop-node.invariant.counts.1),
        emits_both done more (done + more) (g.W.Work.counts c.args.work.now) (g.W.Work.counts c.loop-node.work) (g.W.Work.counts c.of.new.work)
            refl c.loop-node.invariant.counts.2 c.in-Ok.ensures.counted,
      );
    }

pub fill-returns-clause-inner : goal.fill-returns-clause-inner
fill-returns-clause-inner g t c =
    let marks = g.M.Marked.marks c.args.marks.now in
    let items = g.D.Scope.items c.args.scope.now in
    let all = nodes_inside c.args.outer.now in
    made_all marks items all c.loop-node.k (kept_code marks items all) c.loop-node.self.inner (sym {b = slice_get (nodes all) c.loop-node.k} c.in_default.ensures) c.loop-node.invariant.made

pub fill-returns-clause-counted : goal.fill-returns-clause-counted
fill-returns-clause-counted g t c =
    let marks = g.M.Marked.marks c.args.marks.now in
    let items = g.D.Scope.items c.args.scope.now in
    let all = nodes_inside c.args.outer.now in
    let none = lengths_none marks items all c.loop-node.k (sym {b = slice_get (nodes all) c.loop-node.k} c.in_default.ensures) in
    let done = c.loop-node.invariant.counts.0 in
    emits_both done 0 (sum (node_lengths marks items all)) (g.W.Work.counts c.args.work.now) (g.W.Work.counts c.loop-node.work) (g.W.Work.counts c.loop-node.work)
    (omega (arith, none, c.loop-node.invariant.counts.1)) c.loop-node.invariant.counts.2 (emits_nothing (g.W.Work.counts c.loop-node.work))

pub fill-returns-clause-counts : goal.fill-returns-clause-counts
fill-returns-clause-counts g t c =
    let marks = g.M.Marked.marks c.args.marks.now in
    let items = g.D.Scope.items c.args.scope.now in
    let all = nodes_inside c.args.outer.now in
    emits_most c.loop-node.invariant.counts.0 (sum (node_lengths marks items all)) (g.W.Work.counts c.args.work.now) (g.W.Work.counts c.loop-node.work)
    (omega (arith, c.loop-node.invariant.counts.1)) c.loop-node.invariant.counts.2
