use Rattle.std.specs.Prelude.{◌≡◌, ◌+◌, ◌-◌, ◌*◌, ◌≤◌, ℕ, drop, false, length, option_map}
use Rattle.template_tree.specs.Programs.PlainTree.{forest, nodes}
use Rattle.template_tree.specs.Programs.Slots.{count}
use Rattle.plcs_code.specs.Counts.{EmitsAtMost}
use Rattle.code_patch.specs.Private.EditCosts.{nodes_cost, nodes_move}
use Rattle.code_patch.specs.Private.OuterNodes.{nodes_inside}
use Rattle.code_patch.specs.Private.PreparedNodes.{IsListEdit, made_by, plain_plan}
use Rattle.code_patch.proofs.PreparedLists.{GoneThrough}
use Rattle.code_patch.proofs.code_node.CodeNode.+list_edit.Given as goal

abbrev pub decreases-list_edit : goal.decreases-list_edit
decreases-list_edit g l = 4 * count (nodes_inside l.outer.now) + 2

abbrev pub decreases-edit_all : goal.decreases-edit_all
decreases-edit_all g l = 4 * count (nodes_inside l.outer.now) + 1

abbrev pub decreases-edit_on_way : goal.decreases-edit_on_way
decreases-edit_on_way g l = 4 * count (nodes_inside l.outer.now) + 1

abbrev pub decreases-edit_child : goal.decreases-edit_child
decreases-edit_child g l = 4 * count l.node.now.inner + 4

abbrev pub decreases-node_edit : goal.decreases-node_edit
decreases-node_edit g l = 4 * count l.node.now.inner + 3

abbrev pub decreases-edit_all-loop-node : goal.decreases-edit_all-loop-node
decreases-edit_all-loop-node g l = length (nodes (nodes_inside l.outer)) - l.k

abbrev pub invariant-edit_all-loop-node : goal.invariant-edit_all-loop-node
invariant-edit_all-loop-node g l =
    let plan = plain_plan (g.M.Marked.marks l.plan.marks.now) (g.D.Scope.items l.plan.scope.now) l.plan in
    let ways = option_map (λ numbers. numbers.now) l.way in
    let all = nodes_inside l.outer in
    record {
      within : l.k ≤ length (nodes (nodes_inside l.outer));
      list : IsListEdit l.list l.self.spare l.self.inner;
      through :
          GoneThrough plan l.k (made_by l.fn.list l.self.inner) (made_by l.list l.self.inner) (nodes_inside l.outer);
      moves : nodes_move plan ways l.self.inner 0 all ≡ false → l.list.steps.items ≡ l.fn.list.steps.items;
      counts :
          (done : ℕ)
          × (done + nodes_cost plan ways l.self.inner l.k (forest (drop l.k (nodes all))) ≤ nodes_cost plan ways l.self.inner 0 all)
          × EmitsAtMost done (g.W.Work.counts l.fn.work) (g.W.Work.counts l.work);
    }
