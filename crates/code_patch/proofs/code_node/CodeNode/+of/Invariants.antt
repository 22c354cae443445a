use Rattle.std.specs.Prelude.{◌≡◌, ◌+◌, ◌-◌, ◌≤◌, ℕ, drop, length, sum}
use Rattle.template_tree.specs.Programs.PlainTree.{forest, nodes}
use Rattle.template_tree.specs.Programs.Slots.{count}
use Rattle.plcs_code.specs.BlockLimit.{most_instrs}
use Rattle.plcs_code.specs.Counts.{Emits}
use Rattle.plcs_code.specs.Gen.{node_lengths}
use Rattle.plcs_code.specs.OwnCode.{no_own_code}
use Rattle.code_patch.specs.CodeEdit.{join_code, roomless_code}
use Rattle.code_patch.specs.CodeForest.{kept_code, code_nodes}
use Rattle.code_patch.specs.Private.OuterNodes.{nodes_inside}
use Rattle.code_patch.specs.Private.PlainCodeNode.{kept_length}
use Rattle.code_patch.proofs.code_node.CodeNode.+of.Given as goal

abbrev pub decreases-of : goal.decreases-of
decreases-of g l = count l.node.now.inner + count l.node.now.inner + 1

abbrev pub decreases-fill : goal.decreases-fill
decreases-fill g l = count (nodes_inside l.outer.now) + count (nodes_inside l.outer.now)

abbrev pub decreases-fill-loop-node : goal.decreases-fill-loop-node
decreases-fill-loop-node g l = length (nodes (nodes_inside l.outer)) - l.k

abbrev pub invariant-fill-loop-node : goal.invariant-fill-loop-node
invariant-fill-loop-node g l =
    let marks = g.M.Marked.marks l.marks in
    let items = g.D.Scope.items l.scope in
    let all = nodes_inside l.outer in
    let left = forest (drop l.k (nodes all)) in
    record {
      within : l.k ≤ length (nodes all);
      own : l.self.own ≡ no_own_code;
      many : length (code_nodes l.self.inner) ≡ l.k;
      short : kept_length l.self ≤ most_instrs;
      made : join_code (roomless_code l.self.inner) (kept_code marks items left) ≡ kept_code marks items all;
      counts :
          (done : ℕ) × (done + sum (node_lengths marks items left) ≡ sum (node_lengths marks items all))
          × Emits done (g.W.Work.counts l.fn.work) (g.W.Work.counts l.work);
    }
