-- A node is laid in four steps, each of which puts some code behind what is there; where one breaks off, what was
-- counted is no more than the code of the steps before it and its own. The nodes inside are laid in turn: with those
-- that are left, what is there is what will be there in the end.
use Rattle.std.proofs.Common.{◌≡◌, ◌+◌, ◌≤◌, ◌++◌, ◌∷◌, [], List, Option, Some, drop, length, slice_get, refl, sym, ap, subst, ◌∙◌, arith}
use Rattle.std.specs.Option.{option_to_list}
use Rattle.std.specs.Prelude.{OnOk, option_map, sum}
use Rattle.std.proofs.lemmas.Option.{slice_get_within}
use Rattle.template_tree.specs.Programs.PlainTree.{Forest, PlainNode, forest, forest_nodes, nodes}
use Rattle.plcs_code.specs.declared.instr.Instr.{Instr}
use Rattle.plcs_code.specs.declared.lengths.NodeLength.{NodeLength}
use Rattle.plcs_code.specs.declared.node_span.NodeSpan.{NodeSpan}
use Rattle.plcs_code.specs.BlockLimit.{most_instrs}
use Rattle.plcs_code.specs.Gen.{codes_around, node_codes, node_lengths}
use Rattle.plcs_code.specs.PlainInstr.{plain_instr}
use Rattle.plcs_code.specs.Private.LaidCode.{PlainLaid, listed_lengths, with_instrs, with_nodes, with_span}
use Rattle.plcs_code.proofs.LaidNodes.{nodes_none}
use Rattle.plcs_code.proofs.LaidSteps.{front_broke, inside_broke, length_is, lengths_behind, lengths_sum, node_counted, node_done, nodes_done, nodes_total, rest_broke, same_behind}
use Rattle.plcs_code.proofs.Laying.{emits_both, emits_break, emits_nothing, ok_always, ok_then}
use Rattle.plcs_code.proofs.ReadParts.{left_none}
use Rattle.plcs_code.proofs.laid.Laid.+lay_node.Goals as goal

-- ---- a node

pub lay_node-returns-in_default-lay_head-clause-counts : goal.lay_node-returns-in_default-lay_head-clause-counts
lay_node-returns-in_default-lay_head-clause-counts g t c =
    let marks = g.M.Marked.marks c.args.marks.now in
    let items = g.D.Scope.items c.args.scope.now in
    let label = c.args.node.now.label in
    let inner = c.args.node.now.inner in
    let taken = c.in-Some.length in
    let is =
    length_is marks items label inner taken c.args.lengths.now c.next.new.self c.requires.lengths.0 c.in-Some.ensures.next c.requires.lengths.1 in
    front_broke marks items label inner taken is (g.W.Work.counts c.args.work.now) (g.W.Work.counts c.lay_head.new.work) c.lay_head.ensures.counts

pub lay_node-returns-in-Err-clause-counts : goal.lay_node-returns-in-Err-clause-counts
lay_node-returns-in-Err-clause-counts g t c =
    let marks = g.M.Marked.marks c.args.marks.now in
    let items = g.D.Scope.items c.args.scope.now in
    let label = c.args.node.now.label in
    let inner = c.args.node.now.inner in
    let taken = c.in-Some.length in
    let is =
    length_is marks items label inner taken c.args.lengths.now c.next.new.self c.requires.lengths.0 c.in-Some.ensures.next c.requires.lengths.1 in
    let behind = c.in-Ok.behind in
    let between = option_map plain_instr behind.between in
    let back = option_map plain_instr behind.back in
    inside_broke marks items label inner taken is between back c.in-Ok.ensures.between c.in-Ok.ensures.back (g.W.Work.counts c.args.work.now) (g.W.Work.counts c.lay_head.new.work) c.in-Ok.ensures.counted
    (g.W.Work.counts c.lay_inside.new.work) c.lay_inside.ensures.counts

pub lay_node-returns-in-Ok-lay_inside-clause-laid : goal.lay_node-returns-in-Ok-lay_inside-clause-laid
lay_node-returns-in-Ok-lay_inside-clause-laid g t c =
    let marks = g.M.Marked.marks c.args.marks.now in
    let items = g.D.Scope.items c.args.scope.now in
    let label = c.args.node.now.label in
    let inner = c.args.node.now.inner in
    let taken = c.in-Some.length in
    let is =
    length_is marks items label inner taken c.args.lengths.now c.next.new.self c.requires.lengths.0 c.in-Some.ensures.next c.requires.lengths.1 in
    let behind = c.in-Ok.behind in
    let between = option_map plain_instr behind.between in
    let back = option_map plain_instr behind.back in
    let span : NodeSpan =
    record { slot = record { 0 = label.slot }; kind = label.kind; start = length c.args.self.now.instrs; length = taken.whole } in
    ok_then c.lay_rest.result
    (node_done marks items label inner taken is between back c.in-Ok.ensures.between c.in-Ok.ensures.back c.args.self.now (with_span span c.args.self.now) c.lay_head.new.self c.lay_inside.new.self c.lay_rest.new.self
    refl c.in-Ok.ensures.laid c.in-Ok-lay_inside.ensures.laid) c.lay_rest.ensures.laid

pub lay_node-returns-in-Ok-lay_inside-clause-counted : goal.lay_node-returns-in-Ok-lay_inside-clause-counted
lay_node-returns-in-Ok-lay_inside-clause-counted g t c =
    let marks = g.M.Marked.marks c.args.marks.now in
    let items = g.D.Scope.items c.args.scope.now in
    let label = c.args.node.now.label in
    let inner = c.args.node.now.inner in
    let taken = c.in-Some.length in
    let is =
    length_is marks items label inner taken c.args.lengths.now c.next.new.self c.requires.lengths.0 c.in-Some.ensures.next c.requires.lengths.1 in
    let behind = c.in-Ok.behind in
    let between = option_map plain_instr behind.between in
    let back = option_map plain_instr behind.back in
    ok_then c.lay_rest.result
    (node_counted marks items label inner taken is between back c.in-Ok.ensures.between c.in-Ok.ensures.back (g.W.Work.counts c.args.work.now) (g.W.Work.counts c.lay_head.new.work) c.in-Ok.ensures.counted
    (g.W.Work.counts c.lay_inside.new.work) (g.W.Work.counts c.lay_rest.new.work) c.in-Ok-lay_inside.ensures.counted) c.lay_rest.ensures.counted

pub lay_node-returns-in-Ok-lay_inside-clause-counts : goal.lay_node-returns-in-Ok-lay_inside-clause-counts
lay_node-returns-in-Ok-lay_inside-clause-counts g t c =
    let marks = g.M.Marked.marks c.args.marks.now in
    let items = g.D.Scope.items c.args.scope.now in
    let label = c.args.node.now.label in
    let inner = c.args.node.now.inner in
    let taken = c.in-Some.length in
    let is =
    length_is marks items label inner taken c.args.lengths.now c.next.new.self c.requires.lengths.0 c.in-Some.ensures.next c.requires.lengths.1 in
    let behind = c.in-Ok.behind in
    let between = option_map plain_instr behind.between in
    let back = option_map plain_instr behind.back in
    rest_broke marks items label inner taken is between back c.in-Ok.ensures.between c.in-Ok.ensures.back (g.W.Work.counts c.args.work.now) (g.W.Work.counts c.lay_head.new.work) c.in-Ok.ensures.counted
    (g.W.Work.counts c.lay_inside.new.work) (g.W.Work.counts c.lay_rest.new.work) c.in-Ok-lay_inside.ensures.counted c.lay_rest.ensures.counts

-- ---- nodes in turn

pub lay_inside-loop-child-init : goal.lay_inside-loop-child-init
lay_inside-loop-child-init g t c =
    let marks = g.M.Marked.marks c.args.marks.now in
    let items = g.D.Scope.items c.args.scope.now in
    let inner = c.args.node.now.inner in
    let all : inner ≡ forest (nodes inner) = sym (forest_nodes inner) in
    let between = option_to_list (option_map plain_instr c.args.between) in
    record {
      within = omega arith;
      short = subst (λ (f : Forest). sum (node_lengths marks items f) + 2 ≤ most_instrs) all c.requires.short;
      laid = ap (λ (f : Forest). with_nodes marks items between f c.args.self.now) (sym all);
      lengths = (
        c.requires.lengths.0,
        c.requires.lengths.1 ∙ ap (λ (f : Forest). listed_lengths marks items f ++ c.requires.lengths.0) all,
        c.requires.lengths.1,
      );
      counts = (
        0,
        omega (arith, ap (λ (f : Forest). length (codes_around between (node_codes marks items f))) all),
        emits_nothing (g.W.Work.counts c.args.work.now),
      );
    }

pub lay_inside-lay_node-requires : goal.lay_inside-lay_node-requires
lay_inside-lay_node-requires g t c κs within =
    let marks = g.M.Marked.marks c.args.marks.now in
    let items = g.D.Scope.items c.args.scope.now in
    let inner = c.args.node.now.inner in
    let child = c.in-Some.child.now in
    let k = c.loop-child.k in
    let there : slice_get (nodes inner) k ≡ Some child = sym c.in-Some.ensures in
    let few = c.items_are_nodes.ensures.fewer inner k child there in (
      omega (arith, few),
      (
        within.0,
        (
          within.1.0,
          (
            within.1.1,
            (
              c.items_are_nodes.ensures.subtrees inner k child there c.requires.subtree.1,
              (
                omega (arith, few, c.requires.few),
                (
                  omega (arith, lengths_sum marks items (nodes inner) k child there, c.loop-child.invariant.short),
                  (
                    listed_lengths marks items (forest (drop (k + 1) (nodes inner))) ++ c.loop-child.invariant.lengths.0,
                    lengths_behind marks items (nodes inner) k child there c.loop-child.lengths c.loop-child.invariant.lengths.0
                        c.loop-child.invariant.lengths.1,
                  ),
                ),
              ),
            ),
          ),
        ),
      ),
    )

pub lay_inside-loop-child-smaller : goal.lay_inside-loop-child-smaller
lay_inside-loop-child-smaller g t c =
    let within = slice_get_within (nodes c.args.node.now.inner) c.loop-child.k c.in-Some.child.now (sym c.in-Some.ensures) in
    omega (arith, within)

pub lay_inside-returns-in_default-lay_node-clause-counts : goal.lay_inside-returns-in_default-lay_node-clause-counts
lay_inside-returns-in_default-lay_node-clause-counts g t c =
    let marks = g.M.Marked.marks c.args.marks.now in
    let items = g.D.Scope.items c.args.scope.now in
    let inner = c.args.node.now.inner in
    let child = c.in-Some.child.now in
    let k = c.loop-child.k in
    let there : slice_get (nodes inner) k ≡ Some child = sym c.in-Some.ensures in
    let done = c.loop-child.invariant.counts.0 in
    let total = nodes_total marks items (nodes inner) k child there (option_to_list (option_map plain_instr c.loop-child.jump)) in
    emits_break done (length (codes_around [] (node_codes marks items (forest (child ∷ [])))))
    (length (codes_around (option_to_list (option_map plain_instr c.args.between)) (node_codes marks items inner)))
    (g.W.Work.counts c.args.work.now) (g.W.Work.counts c.loop-child.work) (g.W.Work.counts c.lay_node.new.work)
    (omega (arith, total, c.loop-child.invariant.counts.1)) c.loop-child.invariant.counts.2 c.lay_node.ensures.counts

pub lay_inside-returns-in_default-lay_jump-clause-counts : goal.lay_inside-returns-in_default-lay_jump-clause-counts
lay_inside-returns-in_default-lay_jump-clause-counts g t c =
    let marks = g.M.Marked.marks c.args.marks.now in
    let items = g.D.Scope.items c.args.scope.now in
    let inner = c.args.node.now.inner in
    let child = c.in-Some.child.now in
    let k = c.loop-child.k in
    let there : slice_get (nodes inner) k ≡ Some child = sym c.in-Some.ensures in
    let done = c.loop-child.invariant.counts.0 in
    let code = length (codes_around [] (node_codes marks items (forest (child ∷ [])))) in
    let jump = length (option_to_list (option_map plain_instr c.take.result)) in
    let same : jump ≡ length (option_to_list (option_map plain_instr c.loop-child.jump)) =
    ap (λ (j : Option Instr). length (option_to_list (option_map plain_instr j))) c.take.ensures.value in
    let total = nodes_total marks items (nodes inner) k child there (option_to_list (option_map plain_instr c.loop-child.jump)) in
    emits_break (done + code) jump (length (codes_around (option_to_list (option_map plain_instr c.args.between)) (node_codes marks items inner)))
    (g.W.Work.counts c.args.work.now) (g.W.Work.counts c.lay_node.new.work) (g.W.Work.counts c.lay_jump.new.work)
    (omega (arith, total, same, c.loop-child.invariant.counts.1))
    (emits_both done code (done + code) (g.W.Work.counts c.args.work.now) (g.W.Work.counts c.loop-child.work) (g.W.Work.counts c.lay_node.new.work)
    refl c.loop-child.invariant.counts.2 c.in-Ok.ensures.counted)
    c.lay_jump.ensures.counts

pub lay_inside-loop-child-preserved : goal.lay_inside-loop-child-preserved
lay_inside-loop-child-preserved g t c =
    let marks = g.M.Marked.marks c.args.marks.now in
    let items = g.D.Scope.items c.args.scope.now in
    let inner = c.args.node.now.inner in
    let all = nodes inner in
    let child = c.in-Some.child.now in
    let k = c.loop-child.k in
    let there : slice_get all k ≡ Some child = sym c.in-Some.ensures in
    let done = c.loop-child.invariant.counts.0 in
    let rest = c.loop-child.invariant.lengths.0 in
    let between = option_to_list (option_map plain_instr c.loop-child.jump) in
    let code = length (codes_around [] (node_codes marks items (forest (child ∷ [])))) in
    let jump = length (option_to_list (option_map plain_instr c.take.result)) in
    let same : jump ≡ length between =
    ap (λ (j : Option Instr). length (option_to_list (option_map plain_instr j))) c.take.ensures.value in
    let total = nodes_total marks items all k child there between in
    let left = forest (drop (k + 1) all) in
    let none : length (codes_around (option_to_list (option_map plain_instr c.take.new.self)) (node_codes marks items left))
    ≡ length (codes_around [] (node_codes marks items left)) =
    ap (λ (j : Option Instr). length (codes_around (option_to_list (option_map plain_instr j)) (node_codes marks items left))) c.take.ensures.after in
    record {
      within = omega (arith, slice_get_within all k child there);
      short = omega (arith, lengths_sum marks items all k child there, c.loop-child.invariant.short);
      laid =
          ap (λ (j : Option Instr). with_nodes marks items (option_to_list (option_map plain_instr j)) left c.lay_jump.new.self) c.take.ensures.after
          ∙ nodes_done marks items all k child there between c.loop-child.self c.lay_node.new.self c.lay_jump.new.self c.in-Ok.ensures.laid
          (c.in-Ok-lay_jump.ensures.laid
          ∙ ap (λ (j : Option Instr). with_instrs (option_to_list (option_map plain_instr j)) c.lay_node.new.self) c.take.ensures.value)
          ∙ c.loop-child.invariant.laid;
      lengths = (
        rest,
        same_behind (listed_lengths marks items (forest (child ∷ []))) c.lay_node.new.lengths (listed_lengths marks items left ++ rest)
            (sym c.in-Ok.ensures.lengths ∙ lengths_behind marks items all k child there c.loop-child.lengths rest c.loop-child.invariant.lengths.1),
        c.loop-child.invariant.lengths.2,
      );
      counts = (
        done + code + jump,
        omega (arith, total, same, none, c.loop-child.invariant.counts.1),
        emits_both (done + code) jump (done + code + jump)
            (g.W.Work.counts c.args.work.now) (g.W.Work.counts c.lay_node.new.work) (g.W.Work.counts c.lay_jump.new.work) refl
            (emits_both done code (done + code) (g.W.Work.counts c.args.work.now) (g.W.Work.counts c.loop-child.work) (g.W.Work.counts c.lay_node.new.work)
            refl c.loop-child.invariant.counts.2 c.in-Ok.ensures.counted)
            c.in-Ok-lay_jump.ensures.counted,
      );
    }

pub lay_inside-returns-clause-laid : goal.lay_inside-returns-clause-laid
lay_inside-returns-clause-laid g t c =
    let marks = g.M.Marked.marks c.args.marks.now in
    let items = g.D.Scope.items c.args.scope.now in
    let inner = c.args.node.now.inner in
    let between = option_to_list (option_map plain_instr c.loop-child.jump) in
    let none = left_none (nodes inner) c.loop-child.k (sym c.in_default.ensures) in
    subst (λ (l : PlainLaid). OnOk c.lay_jump-2.result (c.lay_jump-2.new.self ≡ l))
    (nodes_none marks items between c.loop-child.self
    ∙ ap (λ (ns : List PlainNode). with_nodes marks items between (forest ns) c.loop-child.self) (sym none)
    ∙ c.loop-child.invariant.laid)
    c.lay_jump-2.ensures.laid

pub lay_inside-returns-clause-lengths : goal.lay_inside-returns-clause-lengths
lay_inside-returns-clause-lengths g t c =
    let marks = g.M.Marked.marks c.args.marks.now in
    let items = g.D.Scope.items c.args.scope.now in
    let inner = c.args.node.now.inner in
    let none = left_none (nodes inner) c.loop-child.k (sym c.in_default.ensures) in
    let left : c.loop-child.lengths ≡ c.loop-child.invariant.lengths.0 =
    c.loop-child.invariant.lengths.1
    ∙ ap (λ (ns : List PlainNode). listed_lengths marks items (forest ns) ++ c.loop-child.invariant.lengths.0) none in
    ok_always c.lay_jump-2.result
    (c.loop-child.invariant.lengths.2 ∙ ap (λ (ls : List NodeLength). listed_lengths marks items inner ++ ls) (sym left))

pub lay_inside-returns-clause-counted : goal.lay_inside-returns-clause-counted
lay_inside-returns-clause-counted g t c =
    let marks = g.M.Marked.marks c.args.marks.now in
    let items = g.D.Scope.items c.args.scope.now in
    let inner = c.args.node.now.inner in
    let between = option_to_list (option_map plain_instr c.loop-child.jump) in
    let none = left_none (nodes inner) c.loop-child.k (sym c.in_default.ensures) in
    let left = ap (λ (ns : List PlainNode). length (codes_around between (node_codes marks items (forest ns)))) none in
    let whole = length (codes_around (option_to_list (option_map plain_instr c.args.between)) (node_codes marks items inner)) in
    ok_then c.lay_jump-2.result
    (emits_both c.loop-child.invariant.counts.0 (length between) whole (g.W.Work.counts c.args.work.now) (g.W.Work.counts c.loop-child.work)
    (g.W.Work.counts c.lay_jump-2.new.work) (omega (arith, left, c.loop-child.invariant.counts.1)) c.loop-child.invariant.counts.2)
    c.lay_jump-2.ensures.counted

pub lay_inside-returns-clause-counts : goal.lay_inside-returns-clause-counts
lay_inside-returns-clause-counts g t c =
    let marks = g.M.Marked.marks c.args.marks.now in
    let items = g.D.Scope.items c.args.scope.now in
    let inner = c.args.node.now.inner in
    let between = option_to_list (option_map plain_instr c.loop-child.jump) in
    let none = left_none (nodes inner) c.loop-child.k (sym c.in_default.ensures) in
    let left = ap (λ (ns : List PlainNode). length (codes_around between (node_codes marks items (forest ns)))) none in
    let whole = length (codes_around (option_to_list (option_map plain_instr c.args.between)) (node_codes marks items inner)) in
    emits_break c.loop-child.invariant.counts.0 (length between) whole (g.W.Work.counts c.args.work.now) (g.W.Work.counts c.loop-child.work)
    (g.W.Work.counts c.lay_jump-2.new.work) (omega (arith, left, c.loop-child.invariant.counts.1)) c.loop-child.invariant.counts.2 c.lay_jump-2.ensures.counts
