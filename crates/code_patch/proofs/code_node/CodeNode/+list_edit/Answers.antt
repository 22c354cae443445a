-- An item comes or goes first; then the nodes are gone through, all or the one on the way, and each becomes what is
-- kept of it after the edit. A node is mended by its own code, if that is new, its jumps, and what becomes of the list
-- inside it.
use Rattle.std.specs.Prelude.{◌≡◌, ◌+◌, ◌-◌, ◌≤◌, ℕ, List, Option, Some, true, if◌then◌else◌, length, option_map, slice_get, unwrap_or}
use Rattle.std.proofs.Common.{arith, ap, sym, subst, ◌∙◌, refl, true≢false}
use Rattle.std.proofs.lemmas.Option.{none-some, same_Some, slice_get_within}
use Rattle.template_tree.specs.Programs.PlainTree.{Forest, forest_nodes, nodes}
use Rattle.plcs_code.specs.OwnCode.{PlainOwnCode, own_code_by}
use Rattle.code_patch.specs.CodeForest.{kept_code, kept_lengths, PlainCodeNode}
use Rattle.code_patch.specs.Private.EditCosts.{child_cost, is_put, item_cost, list_cost, list_moves, node_cost, node_moves, nodes_cost}
use Rattle.code_patch.specs.Private.NearCode.{ends_here, is_remade, is_visited, item_edited, way_below}
use Rattle.code_patch.specs.Private.OuterNodes.{nodes_inside}
use Rattle.code_patch.specs.Private.PlainCodeNode.{jumps_length, node_length}
use Rattle.code_patch.specs.Private.PreparedNodes.{MendNear, WayFits, made_by, plain_plan}
use Rattle.code_patch.proofs.CostSteps.{cost_at, cost_mend, cost_next, cost_put, cost_visited, edit_costs, either_moves, jumps_are, moved_then, moves_at, moves_mend, moves_put, own_parts, pieces_cost, still_item, still_nodes}
use Rattle.code_patch.proofs.CountedCode.{emits_more, emits_none, emits_then}
use Rattle.code_patch.proofs.EditedChildren.{mended_child, mended_still, ok_with, put_child, then_ok}
use Rattle.code_patch.proofs.ExchangedNodes.{within_sum}
use Rattle.code_patch.proofs.MadeCode.{outer_sound, roomless_kept}
use Rattle.code_patch.proofs.NearRooms.{near_roomless}
use Rattle.code_patch.proofs.NodeEdits.{if_edited, if_none, if_ok, node_edited, own_then, unchanged_node}
use Rattle.code_patch.proofs.PreparedLists.{added_child, all_stay, all_visited, child_near, found_child, gone_child, near_mended, list_fresh, node_stays, one_edited, start_many, through_all, through_first, through_next, way_visited}
use Rattle.code_patch.proofs.code_node.CodeNode.+list_edit.Goals as goal

-- ---- the list inside a node

pub list_edit-edit_item-requires : goal.list_edit-edit_item-requires
list_edit-edit_item-requires g t c =
    record {
      outer = c.requires.outer;
      fits = c.requires.fits;
      list =
          list_fresh _ c.args.self.now.spare c.args.self.now.inner c.new.ensures.items c.length_inside.ensures.short c.length_to.ensures
          c.length_inside.ensures.sum;
      fresh = c.new.ensures.items;
    }

pub list_edit-edit_all-edited-requires : goal.list_edit-edit_all-edited-requires
list_edit-edit_all-edited-requires g t c κs within =
    let plan = plain_plan (g.M.Marked.marks c.args.plan.now.marks.now) (g.D.Scope.items c.args.plan.now.scope.now) c.args.plan.now in
    let ways = option_map (λ numbers. numbers.now) c.args.way in
    let inner = c.args.self.now.inner in
    let all = nodes_inside c.args.outer.now in
    let made = made_by c.edit_item.new.list inner in
    let near = near_roomless plan ways 0 (item_edited plan ways inner all) made all (sym c.in_ok-edit_item.ensures.made) c.requires.near in
    (omega arith, (within.0, (within.1.0, (within.1.1, (c.requires.outer, (c.if-plan.true, (c.requires.fits, (c.in_ok-edit_item.ensures.list, (near, c.in_ok-edit_item.ensures.kept)))))))))

pub list_edit-edit_on_way-edited-requires : goal.list_edit-edit_on_way-edited-requires
list_edit-edit_on_way-edited-requires g t c κs within =
    let plan = plain_plan (g.M.Marked.marks c.args.plan.now.marks.now) (g.D.Scope.items c.args.plan.now.scope.now) c.args.plan.now in
    let ways = option_map (λ numbers. numbers.now) c.args.way in
    let inner = c.args.self.now.inner in
    let all = nodes_inside c.args.outer.now in
    let made = made_by c.edit_item.new.list inner in
    let near = near_roomless plan ways 0 (item_edited plan ways inner all) made all (sym c.in_ok-edit_item.ensures.made) c.requires.near in
    (omega arith, (within.0, (within.1.0, (within.1.1, (c.requires.outer, (c.if-plan.false, (c.requires.fits, (c.in_ok-edit_item.ensures.list, (near, c.in_ok-edit_item.ensures.kept)))))))))

pub list_edit-returns-in_err-edit_item-clause-counts : goal.list_edit-returns-in_err-edit_item-clause-counts
list_edit-returns-in_err-edit_item-clause-counts g t c =
    let plan = plain_plan (g.M.Marked.marks c.args.plan.now.marks.now) (g.D.Scope.items c.args.plan.now.scope.now) c.args.plan.now in
    let ways = option_map (λ numbers. numbers.now) c.args.way in
    let inner = c.args.self.now.inner in
    let all = nodes_inside c.args.outer.now in
    emits_more (item_cost plan ways all) (list_cost plan ways inner all) (g.W.Work.counts c.args.work.now)
    (g.W.Work.counts c.edit_item.new.work) (omega arith) c.edit_item.ensures.counts

pub list_edit-returns-then-plan-clause-list : goal.list_edit-returns-then-plan-clause-list
list_edit-returns-then-plan-clause-list g t c =
    ok_with c.edit_all-edited.result c.edit_all-edited.new.list c.and.result _ c.and.ensures (λ so. so) c.edit_all-edited.ensures.list

pub list_edit-returns-then-plan-clause-made : goal.list_edit-returns-then-plan-clause-made
list_edit-returns-then-plan-clause-made g t c =
    ok_with c.edit_all-edited.result c.edit_all-edited.new.list c.and.result _ c.and.ensures (λ so. so) c.edit_all-edited.ensures.made

pub list_edit-returns-then-plan-clause-moves : goal.list_edit-returns-then-plan-clause-moves
list_edit-returns-then-plan-clause-moves g t c =
    let plan = plain_plan (g.M.Marked.marks c.args.plan.now.marks.now) (g.D.Scope.items c.args.plan.now.scope.now) c.args.plan.now in
    let ways = option_map (λ numbers. numbers.now) c.args.way in
    let inner = c.args.self.now.inner in
    let all = nodes_inside c.args.outer.now in
    ok_with c.edit_all-edited.result c.edit_all-edited.new.list c.and.result _ c.and.ensures
    (λ so none. so (still_nodes plan ways inner all none) ∙ c.in_ok-edit_item.ensures.moves (still_item plan ways inner all none))
    c.edit_all-edited.ensures.moves

pub list_edit-returns-then-plan-clause-counts : goal.list_edit-returns-then-plan-clause-counts
list_edit-returns-then-plan-clause-counts g t c =
    let plan = plain_plan (g.M.Marked.marks c.args.plan.now.marks.now) (g.D.Scope.items c.args.plan.now.scope.now) c.args.plan.now in
    let ways = option_map (λ numbers. numbers.now) c.args.way in
    let inner = c.args.self.now.inner in
    let all = nodes_inside c.args.outer.now in
    emits_then (item_cost plan ways all) (nodes_cost plan ways inner 0 all) (list_cost plan ways inner all)
    (g.W.Work.counts c.args.work.now) (g.W.Work.counts c.edit_item.new.work) (g.W.Work.counts c.edit_all-edited.new.work) (omega arith)
    c.edit_item.ensures.counts c.edit_all-edited.ensures.counts

pub list_edit-returns-clause-list : goal.list_edit-returns-clause-list
list_edit-returns-clause-list g t c =
    ok_with c.edit_on_way-edited.result c.edit_on_way-edited.new.list c.and-2.result _ c.and-2.ensures (λ so. so) c.edit_on_way-edited.ensures.list

pub list_edit-returns-clause-made : goal.list_edit-returns-clause-made
list_edit-returns-clause-made g t c =
    ok_with c.edit_on_way-edited.result c.edit_on_way-edited.new.list c.and-2.result _ c.and-2.ensures (λ so. so) c.edit_on_way-edited.ensures.made

pub list_edit-returns-clause-moves : goal.list_edit-returns-clause-moves
list_edit-returns-clause-moves g t c =
    let plan = plain_plan (g.M.Marked.marks c.args.plan.now.marks.now) (g.D.Scope.items c.args.plan.now.scope.now) c.args.plan.now in
    let ways = option_map (λ numbers. numbers.now) c.args.way in
    let inner = c.args.self.now.inner in
    let all = nodes_inside c.args.outer.now in
    ok_with c.edit_on_way-edited.result c.edit_on_way-edited.new.list c.and-2.result _ c.and-2.ensures
    (λ so none. so (still_nodes plan ways inner all none) ∙ c.in_ok-edit_item.ensures.moves (still_item plan ways inner all none))
    c.edit_on_way-edited.ensures.moves

pub list_edit-returns-clause-counts : goal.list_edit-returns-clause-counts
list_edit-returns-clause-counts g t c =
    let plan = plain_plan (g.M.Marked.marks c.args.plan.now.marks.now) (g.D.Scope.items c.args.plan.now.scope.now) c.args.plan.now in
    let ways = option_map (λ numbers. numbers.now) c.args.way in
    let inner = c.args.self.now.inner in
    let all = nodes_inside c.args.outer.now in
    emits_then (item_cost plan ways all) (nodes_cost plan ways inner 0 all) (list_cost plan ways inner all)
    (g.W.Work.counts c.args.work.now) (g.W.Work.counts c.edit_item.new.work) (g.W.Work.counts c.edit_on_way-edited.new.work) (omega arith)
    c.edit_item.ensures.counts c.edit_on_way-edited.ensures.counts

-- ---- all nodes of it

pub edit_all-loop-node-init : goal.edit_all-loop-node-init
edit_all-loop-node-init g t c =
    let plan = plain_plan (g.M.Marked.marks c.args.plan.now.marks.now) (g.D.Scope.items c.args.plan.now.scope.now) c.args.plan.now in
    let ways = option_map (λ numbers. numbers.now) c.args.way in
    let all = nodes_inside c.args.outer.now in
    record {
      within = omega arith;
      list = c.requires.list;
      through = through_first plan (made_by c.args.list.now c.args.self.now.inner) all;
      moves = λ none. refl;
      counts = (
        0,
        omega (arith, ap (λ (f : Forest). nodes_cost plan ways c.args.self.now.inner 0 f) (forest_nodes all)),
        emits_none 0 (g.W.Work.counts c.args.work.now),
      );
    }

pub edit_all-edit_child-requires : goal.edit_all-edit_child-requires
edit_all-edit_child-requires g t c κs within =
    let plan = plain_plan (g.M.Marked.marks c.args.plan.now.marks.now) (g.D.Scope.items c.args.plan.now.scope.now) c.args.plan.now in
    let ways = option_map (λ numbers. numbers.now) c.args.way in
    let self = c.args.self.now in
    let all = nodes_inside c.args.outer.now in
    let node = c.in-Some.node.now in
    let k = c.loop-node.k in
    let there : slice_get (nodes all) k ≡ Some node = sym c.in-Some.ensures in
    let sound = outer_sound c.args.outer.now c.requires.outer in
    let fewer = c.items_are_nodes.ensures.fewer all k node there in
    let visited : is_visited plan ways k ≡ true = all_visited plan ways k c.requires.visited in
    let near =
    child_near plan ways self (made_by c.args.list.now self.inner) all c.requires.near c.requires.kept k node
    (made_by c.loop-node.list self.inner) there c.requires.fits visited (c.loop-node.invariant.through.left k (omega arith)) in
    (omega (arith, fewer), (within.0, (within.1.0, (within.1.1, (c.items_are_nodes.ensures.subtrees all k node there sound.0, (omega (arith, fewer, sound.1), (c.loop-node.invariant.list, near)))))))

pub edit_all-loop-node-smaller : goal.edit_all-loop-node-smaller
edit_all-loop-node-smaller g t c =
    let all = nodes_inside c.args.outer.now in
    let there : slice_get (nodes all) c.loop-node.k ≡ Some c.in-Some.node.now = sym c.in-Some.ensures in
    omega (arith, slice_get_within (nodes all) c.loop-node.k c.in-Some.node.now there)

pub edit_all-overflow_add-k : goal.edit_all-overflow_add-k
edit_all-overflow_add-k g t c =
    let all = nodes_inside c.args.outer.now in
    let there : slice_get (nodes all) c.loop-node.k ≡ Some c.in-Some.node.now = sym c.in-Some.ensures in
    let sound = outer_sound c.args.outer.now c.requires.outer in
    omega (arith, slice_get_within (nodes all) c.loop-node.k c.in-Some.node.now there, c.items_are_nodes.ensures.few all, sound.1)

pub edit_all-loop-node-preserved : goal.edit_all-loop-node-preserved
edit_all-loop-node-preserved g t c =
    let plan = plain_plan (g.M.Marked.marks c.args.plan.now.marks.now) (g.D.Scope.items c.args.plan.now.scope.now) c.args.plan.now in
    let ways = option_map (λ numbers. numbers.now) c.args.way in
    let inner = c.args.self.now.inner in
    let all = nodes_inside c.args.outer.now in
    let node = c.in-Some.node.now in
    let k = c.loop-node.k in
    let there : slice_get (nodes all) k ≡ Some node = sym c.in-Some.ensures in
    let visited : is_visited plan ways k ≡ true = all_visited plan ways k c.requires.visited in
    let done = c.loop-node.invariant.counts.0 in
    let cost = child_cost plan ways inner k node in
    let next = cost_next plan ways inner all k node there in
    let its = cost_visited plan ways inner k node visited in
    record {
      within = omega (arith, slice_get_within (nodes all) k node there);
      list = c.in_ok-edit_child.ensures.list;
      through =
          through_next plan (made_by c.args.list.now inner) all k (made_by c.loop-node.list inner) (made_by c.edit_child.new.list inner) node
          there c.loop-node.invariant.through c.in_ok-edit_child.ensures.edited;
      moves = λ none.
          c.in_ok-edit_child.ensures.moves (moves_at plan ways inner all k node there visited none) ∙ c.loop-node.invariant.moves none;
      counts = (
        done + cost,
        omega (arith, next, its, c.loop-node.invariant.counts.1),
        emits_then done cost (done + cost) (g.W.Work.counts c.args.work.now) (g.W.Work.counts c.loop-node.work)
            (g.W.Work.counts c.edit_child.new.work) (omega arith) c.loop-node.invariant.counts.2 c.edit_child.ensures.counts,
      );
    }

pub edit_all-returns-in_err-edit_child-clause-counts : goal.edit_all-returns-in_err-edit_child-clause-counts
edit_all-returns-in_err-edit_child-clause-counts g t c =
    let plan = plain_plan (g.M.Marked.marks c.args.plan.now.marks.now) (g.D.Scope.items c.args.plan.now.scope.now) c.args.plan.now in
    let ways = option_map (λ numbers. numbers.now) c.args.way in
    let inner = c.args.self.now.inner in
    let all = nodes_inside c.args.outer.now in
    let node = c.in-Some.node.now in
    let k = c.loop-node.k in
    let there : slice_get (nodes all) k ≡ Some node = sym c.in-Some.ensures in
    let visited : is_visited plan ways k ≡ true = all_visited plan ways k c.requires.visited in
    let done = c.loop-node.invariant.counts.0 in
    let cost = child_cost plan ways inner k node in
    let next = cost_next plan ways inner all k node there in
    let its = cost_visited plan ways inner k node visited in
    emits_then done cost (nodes_cost plan ways inner 0 all) (g.W.Work.counts c.args.work.now) (g.W.Work.counts c.loop-node.work)
    (g.W.Work.counts c.edit_child.new.work) (omega (arith, next, its, c.loop-node.invariant.counts.1)) c.loop-node.invariant.counts.2
    c.edit_child.ensures.counts

pub edit_all-returns-clause-list : goal.edit_all-returns-clause-list
edit_all-returns-clause-list g t c = c.loop-node.invariant.list

pub edit_all-returns-clause-moves : goal.edit_all-returns-clause-moves
edit_all-returns-clause-moves g t c = c.loop-node.invariant.moves

pub edit_all-returns-clause-counts : goal.edit_all-returns-clause-counts
edit_all-returns-clause-counts g t c =
    let plan = plain_plan (g.M.Marked.marks c.args.plan.now.marks.now) (g.D.Scope.items c.args.plan.now.scope.now) c.args.plan.now in
    let ways = option_map (λ numbers. numbers.now) c.args.way in
    let inner = c.args.self.now.inner in
    let all = nodes_inside c.args.outer.now in
    emits_more c.loop-node.invariant.counts.0 (nodes_cost plan ways inner 0 all) (g.W.Work.counts c.args.work.now)
    (g.W.Work.counts c.loop-node.work) (omega (arith, c.loop-node.invariant.counts.1)) c.loop-node.invariant.counts.2

pub edit_all-returns-clause-made : goal.edit_all-returns-clause-made
edit_all-returns-clause-made g t c =
    let plan = plain_plan (g.M.Marked.marks c.args.plan.now.marks.now) (g.D.Scope.items c.args.plan.now.scope.now) c.args.plan.now in
    let ways = option_map (λ numbers. numbers.now) c.args.way in
    let self = c.args.self.now in
    let start = made_by c.args.list.now self.inner in
    let all = nodes_inside c.args.outer.now in
    through_all plan start all c.loop-node.k (made_by c.loop-node.list self.inner) (sym c.in_default.ensures)
    (start_many plan ways self start all c.requires.near c.requires.kept) c.loop-node.invariant.through

-- ---- the node on the way

pub edit_on_way-returns-in_default-clause-made : goal.edit_on_way-returns-in_default-clause-made
edit_on_way-returns-in_default-clause-made g t c =
    let plan = plain_plan (g.M.Marked.marks c.args.plan.now.marks.now) (g.D.Scope.items c.args.plan.now.scope.now) c.args.plan.now in
    let ways = option_map (λ numbers. numbers.now) c.args.way in
    let self = c.args.self.now in
    all_stay plan ways self (made_by c.args.list.now self.inner) (nodes_inside c.args.outer.now) c.requires.near c.requires.kept
    c.requires.visited (λ k node there is. none-some k (c.in_default.ensures ∙ is))

pub edit_on_way-returns-in_default-child-clause-made : goal.edit_on_way-returns-in_default-child-clause-made
edit_on_way-returns-in_default-child-clause-made g t c =
    let plan = plain_plan (g.M.Marked.marks c.args.plan.now.marks.now) (g.D.Scope.items c.args.plan.now.scope.now) c.args.plan.now in
    let ways = option_map (λ numbers. numbers.now) c.args.way in
    let self = c.args.self.now in
    let all = nodes_inside c.args.outer.now in
    let first = c.in-Some.k in
    all_stay plan ways self (made_by c.args.list.now self.inner) all c.requires.near c.requires.kept
    c.requires.visited
    (λ k node there is.
    let same : first ≡ k = same_Some first k (c.in-Some.ensures ∙ is) in
    none-some node (c.in_default-child.ensures ∙ ap (λ (n : ℕ). slice_get (nodes all) n) same ∙ there))

pub edit_on_way-returns-in_default-clause-moves : goal.edit_on_way-returns-in_default-clause-moves
edit_on_way-returns-in_default-clause-moves g t c = λ none. refl

pub edit_on_way-returns-in_default-clause-counts : goal.edit_on_way-returns-in_default-clause-counts
edit_on_way-returns-in_default-clause-counts g t c =
    let plan = plain_plan (g.M.Marked.marks c.args.plan.now.marks.now) (g.D.Scope.items c.args.plan.now.scope.now) c.args.plan.now in
    let ways = option_map (λ numbers. numbers.now) c.args.way in
    emits_none (nodes_cost plan ways c.args.self.now.inner 0 (nodes_inside c.args.outer.now)) (g.W.Work.counts c.args.work.now)

pub edit_on_way-returns-in_default-child-clause-moves : goal.edit_on_way-returns-in_default-child-clause-moves
edit_on_way-returns-in_default-child-clause-moves g t c = λ none. refl

pub edit_on_way-returns-in_default-child-clause-counts : goal.edit_on_way-returns-in_default-child-clause-counts
edit_on_way-returns-in_default-child-clause-counts g t c =
    let plan = plain_plan (g.M.Marked.marks c.args.plan.now.marks.now) (g.D.Scope.items c.args.plan.now.scope.now) c.args.plan.now in
    let ways = option_map (λ numbers. numbers.now) c.args.way in
    emits_none (nodes_cost plan ways c.args.self.now.inner 0 (nodes_inside c.args.outer.now)) (g.W.Work.counts c.args.work.now)

pub edit_on_way-edit_child-requires : goal.edit_on_way-edit_child-requires
edit_on_way-edit_child-requires g t c κs within =
    let plan = plain_plan (g.M.Marked.marks c.args.plan.now.marks.now) (g.D.Scope.items c.args.plan.now.scope.now) c.args.plan.now in
    let ways = option_map (λ numbers. numbers.now) c.args.way in
    let self = c.args.self.now in
    let all = nodes_inside c.args.outer.now in
    let node = c.in-Some-child.node.now in
    let k = c.in-Some.k in
    let there : slice_get (nodes all) k ≡ Some node = sym c.in-Some-child.ensures in
    let sound = outer_sound c.args.outer.now c.requires.outer in
    let fewer = c.items_are_nodes.ensures.fewer all k node there in
    let visited : is_visited plan ways k ≡ true = way_visited plan ways k (sym c.in-Some.ensures) in
    let start = made_by c.args.list.now self.inner in
    let near = child_near plan ways self start all c.requires.near c.requires.kept k node start there c.requires.fits visited refl in
    (omega (arith, fewer), (within.0, (within.1.0, (within.1.1, (c.items_are_nodes.ensures.subtrees all k node there sound.0, (omega (arith, fewer, sound.1), (c.requires.list, near)))))))

pub edit_on_way-returns-clause-moves : goal.edit_on_way-returns-clause-moves
edit_on_way-returns-clause-moves g t c =
    let plan = plain_plan (g.M.Marked.marks c.args.plan.now.marks.now) (g.D.Scope.items c.args.plan.now.scope.now) c.args.plan.now in
    let ways = option_map (λ numbers. numbers.now) c.args.way in
    let inner = c.args.self.now.inner in
    let all = nodes_inside c.args.outer.now in
    let node = c.in-Some-child.node.now in
    let k = c.in-Some.k in
    let there : slice_get (nodes all) k ≡ Some node = sym c.in-Some-child.ensures in
    let visited : is_visited plan ways k ≡ true = way_visited plan ways k (sym c.in-Some.ensures) in
    then_ok c.edit_child.result (λ still none. still (moves_at plan ways inner all k node there visited none)) c.edit_child.ensures.moves

pub edit_on_way-returns-clause-counts : goal.edit_on_way-returns-clause-counts
edit_on_way-returns-clause-counts g t c =
    let plan = plain_plan (g.M.Marked.marks c.args.plan.now.marks.now) (g.D.Scope.items c.args.plan.now.scope.now) c.args.plan.now in
    let ways = option_map (λ numbers. numbers.now) c.args.way in
    let inner = c.args.self.now.inner in
    let all = nodes_inside c.args.outer.now in
    let node = c.in-Some-child.node.now in
    let k = c.in-Some.k in
    let there : slice_get (nodes all) k ≡ Some node = sym c.in-Some-child.ensures in
    let visited : is_visited plan ways k ≡ true = way_visited plan ways k (sym c.in-Some.ensures) in
    emits_more (child_cost plan ways inner k node) (nodes_cost plan ways inner 0 all) (g.W.Work.counts c.args.work.now)
    (g.W.Work.counts c.edit_child.new.work) (cost_at plan ways inner all k node there visited) c.edit_child.ensures.counts

pub edit_on_way-returns-clause-made : goal.edit_on_way-returns-clause-made
edit_on_way-returns-clause-made g t c =
    let plan = plain_plan (g.M.Marked.marks c.args.plan.now.marks.now) (g.D.Scope.items c.args.plan.now.scope.now) c.args.plan.now in
    let ways = option_map (λ numbers. numbers.now) c.args.way in
    let self = c.args.self.now in
    let all = nodes_inside c.args.outer.now in
    let node = c.in-Some-child.node.now in
    then_ok c.edit_child.result
    (one_edited plan ways self (made_by c.args.list.now self.inner) all c.requires.near c.requires.kept c.requires.visited c.in-Some.k node
    (made_by c.edit_child.new.list self.inner) (sym c.in-Some-child.ensures) (sym c.in-Some.ensures))
    c.edit_child.ensures.edited

-- ---- a node inside

pub edit_child-returns-in_default : goal.edit_child-returns-in_default
edit_child-returns-in_default g t c =
    let plan = plain_plan (g.M.Marked.marks c.args.plan.now.marks.now) (g.D.Scope.items c.args.plan.now.scope.now) c.args.plan.now in
    let ways = option_map (λ numbers. numbers.now) c.args.way in
    let made = made_by c.args.list.now c.args.self.now.inner in
    let node = c.args.node.now in
    let near = c.requires.near in
    record {
      list = c.requires.list;
      edited = node_stays plan c.args.k made near.0 node near.1 (added_child plan ways c.args.k c.args.self.now made node near (sym c.in_default.ensures));
      moves = λ none. refl;
      counts = emits_none (child_cost plan ways c.args.self.now.inner c.args.k node) (g.W.Work.counts c.args.work.now);
    }

pub edit_child-unreachable-requires : goal.edit_child-unreachable-requires
edit_child-unreachable-requires g t c =
    let plan = plain_plan (g.M.Marked.marks c.args.plan.now.marks.now) (g.D.Scope.items c.args.plan.now.scope.now) c.args.plan.now in
    let ways = option_map (λ numbers. numbers.now) c.args.way in
    let made = made_by c.args.list.now c.args.self.now.inner in
    let near = c.requires.near in
    let gone = gone_child plan ways c.args.k c.args.self.now made c.args.node.now near c.in-Some.number (sym c.in-Some.ensures) in
    none-some near.0 (c.in_default-child.ensures ∙ gone.0)

pub edit_child-exchange-requires : goal.edit_child-exchange-requires
edit_child-exchange-requires g t c =
    let plan = plain_plan (g.M.Marked.marks c.args.plan.now.marks.now) (g.D.Scope.items c.args.plan.now.scope.now) c.args.plan.now in
    let ways = option_map (λ numbers. numbers.now) c.args.way in
    let self = c.args.self.now in
    let made = made_by c.args.list.now self.inner in
    let node = c.args.node.now in
    let k = c.args.k in
    let child = c.in-Some-child.child.now in
    let there = found_child plan ways k self made node c.requires.near c.in-Some.number child (sym c.in-Some.ensures) (sym c.in-Some-child.ensures) in
    record { within = omega (arith, within_sum made k child there, c.requires.list.total, c.length.ensures.length) }

pub edit_child-returns-in_err-fresh-clause-counts : goal.edit_child-returns-in_err-fresh-clause-counts
edit_child-returns-in_err-fresh-clause-counts g t c =
    let plan = plain_plan (g.M.Marked.marks c.args.plan.now.marks.now) (g.D.Scope.items c.args.plan.now.scope.now) c.args.plan.now in
    let ways = option_map (λ numbers. numbers.now) c.args.way in
    let self = c.args.self.now in
    let made = made_by c.args.list.now self.inner in
    let node = c.args.node.now in
    let k = c.args.k in
    let child = c.in-Some-child.child.now in
    let put = ap (λ (w : Option (List ℕ)). is_put plan w) (sym c.way_below-below.ensures) ∙ sym c.puts_at.ensures ∙ c.if-puts_at.true in
    emits_more (node_length plan.marks plan.items node) (child_cost plan ways self.inner k node) (g.W.Work.counts c.args.work.now)
    (g.W.Work.counts c.of.new.work)
    (omega (arith, cost_put plan ways self.inner k node c.in-Some.number child (sym c.in-Some.ensures) (sym c.in-Some-child.ensures) put)) c.of.ensures.counts

pub edit_child-returns-then-puts_at-clause-list : goal.edit_child-returns-then-puts_at-clause-list
edit_child-returns-then-puts_at-clause-list g t c =
    let plan = plain_plan (g.M.Marked.marks c.args.plan.now.marks.now) (g.D.Scope.items c.args.plan.now.scope.now) c.args.plan.now in
    let ways = option_map (λ numbers. numbers.now) c.args.way in
    let self = c.args.self.now in
    let made = made_by c.args.list.now self.inner in
    let node = c.args.node.now in
    let k = c.args.k in
    let child = c.in-Some-child.child.now in
    let there = found_child plan ways k self made node c.requires.near c.in-Some.number child (sym c.in-Some.ensures) (sym c.in-Some-child.ensures) in
    let edited =
    then_ok c.exchange.result
    (put_child plan c.args.list.now c.exchange.new.self self.spare self.inner k child node c.length.result c.length.ensures.length c.requires.list
    there c.in_ok-fresh.fresh c.length-length.result c.length-length.ensures.length c.in_ok-fresh.ensures.kept)
    c.exchange.ensures in
    then_ok c.exchange.result (λ both. both.0) edited

pub edit_child-returns-then-puts_at-clause-edited : goal.edit_child-returns-then-puts_at-clause-edited
edit_child-returns-then-puts_at-clause-edited g t c =
    let plan = plain_plan (g.M.Marked.marks c.args.plan.now.marks.now) (g.D.Scope.items c.args.plan.now.scope.now) c.args.plan.now in
    let ways = option_map (λ numbers. numbers.now) c.args.way in
    let self = c.args.self.now in
    let made = made_by c.args.list.now self.inner in
    let node = c.args.node.now in
    let k = c.args.k in
    let child = c.in-Some-child.child.now in
    let there = found_child plan ways k self made node c.requires.near c.in-Some.number child (sym c.in-Some.ensures) (sym c.in-Some-child.ensures) in
    let edited =
    then_ok c.exchange.result
    (put_child plan c.args.list.now c.exchange.new.self self.spare self.inner k child node c.length.result c.length.ensures.length c.requires.list
    there c.in_ok-fresh.fresh c.length-length.result c.length-length.ensures.length c.in_ok-fresh.ensures.kept)
    c.exchange.ensures in
    then_ok c.exchange.result (λ both. both.1) edited

pub edit_child-returns-then-puts_at-clause-moves : goal.edit_child-returns-then-puts_at-clause-moves
edit_child-returns-then-puts_at-clause-moves g t c =
    let plan = plain_plan (g.M.Marked.marks c.args.plan.now.marks.now) (g.D.Scope.items c.args.plan.now.scope.now) c.args.plan.now in
    let ways = option_map (λ numbers. numbers.now) c.args.way in
    let self = c.args.self.now in
    let made = made_by c.args.list.now self.inner in
    let node = c.args.node.now in
    let k = c.args.k in
    let child = c.in-Some-child.child.now in
    let put = ap (λ (w : Option (List ℕ)). is_put plan w) (sym c.way_below-below.ensures) ∙ sym c.puts_at.ensures ∙ c.if-puts_at.true in
    then_ok c.exchange.result
    (λ step none.
    absurd
    (true≢false
    (sym (moves_put plan ways self.inner k node c.in-Some.number child (sym c.in-Some.ensures) (sym c.in-Some-child.ensures) put) ∙ none)))
    c.exchange.ensures

pub edit_child-returns-then-puts_at-clause-counts : goal.edit_child-returns-then-puts_at-clause-counts
edit_child-returns-then-puts_at-clause-counts g t c =
    let plan = plain_plan (g.M.Marked.marks c.args.plan.now.marks.now) (g.D.Scope.items c.args.plan.now.scope.now) c.args.plan.now in
    let ways = option_map (λ numbers. numbers.now) c.args.way in
    let self = c.args.self.now in
    let made = made_by c.args.list.now self.inner in
    let node = c.args.node.now in
    let k = c.args.k in
    let child = c.in-Some-child.child.now in
    let put = ap (λ (w : Option (List ℕ)). is_put plan w) (sym c.way_below-below.ensures) ∙ sym c.puts_at.ensures ∙ c.if-puts_at.true in
    emits_more (node_length plan.marks plan.items node) (child_cost plan ways self.inner k node) (g.W.Work.counts c.args.work.now)
    (g.W.Work.counts c.of.new.work)
    (omega (arith, cost_put plan ways self.inner k node c.in-Some.number child (sym c.in-Some.ensures) (sym c.in-Some-child.ensures) put)) c.of.ensures.counts

pub edit_child-node_edit-requires : goal.edit_child-node_edit-requires
edit_child-node_edit-requires g t c κs within =
    let plan = plain_plan (g.M.Marked.marks c.args.plan.now.marks.now) (g.D.Scope.items c.args.plan.now.scope.now) c.args.plan.now in
    let ways = option_map (λ numbers. numbers.now) c.args.way in
    let self = c.args.self.now in
    let made = made_by c.args.list.now self.inner in
    let node = c.args.node.now in
    let near = c.requires.near in
    let child = c.in-Some-child.child.now in
    let gone = gone_child plan ways c.args.k self made node near c.in-Some.number (sym c.in-Some.ensures) in
    let same : near.0 ≡ child = same_Some near.0 child (sym gone.0 ∙ sym c.in-Some-child.ensures) in
    let below = way_below plan.what ways c.args.k in
    let is : below ≡ option_map (λ numbers. numbers.now) c.way_below-below.result = sym c.way_below-below.ensures in
    let mend : MendNear plan below near.0 node = near_mended plan below near.0 node gone.1.0 (ap (λ (w : Option (List ℕ)). is_put plan w) (sym c.way_below-below.ensures) ∙ sym c.puts_at.ensures ∙ c.if-puts_at.false) in
    (omega arith, (within.0, (within.1.0, (within.1.1, (c.requires.subtree, (c.requires.few, (subst (λ (w : Option (List ℕ)). WayFits plan.what w child node.inner) is (subst (λ (n : PlainCodeNode). WayFits plan.what below n node.inner) same gone.1.1), subst (λ (w : Option (List ℕ)). MendNear plan w child node) is (subst (λ (n : PlainCodeNode). MendNear plan below n node) same mend))))))))

pub edit_child-returns-in_err-edit-clause-counts : goal.edit_child-returns-in_err-edit-clause-counts
edit_child-returns-in_err-edit-clause-counts g t c =
    let plan = plain_plan (g.M.Marked.marks c.args.plan.now.marks.now) (g.D.Scope.items c.args.plan.now.scope.now) c.args.plan.now in
    let ways = option_map (λ numbers. numbers.now) c.args.way in
    let self = c.args.self.now in
    let made = made_by c.args.list.now self.inner in
    let node = c.args.node.now in
    let k = c.args.k in
    let child = c.in-Some-child.child.now in
    let below = option_map (λ numbers. numbers.now) c.way_below-below.result in
    let mends = ap (λ (w : Option (List ℕ)). is_put plan w) (sym c.way_below-below.ensures) ∙ sym c.puts_at.ensures ∙ c.if-puts_at.false in
    emits_more (node_cost plan below child node) (child_cost plan ways self.inner k node) (g.W.Work.counts c.args.work.now)
    (g.W.Work.counts c.node_edit.new.work)
    (omega
    (arith, ap (λ (w : Option (List ℕ)). node_cost plan w child node) c.way_below-below.ensures, cost_mend plan ways self.inner k node c.in-Some.number child (sym c.in-Some.ensures) (sym c.in-Some-child.ensures) mends))
    c.node_edit.ensures.counts

pub edit_child-mend-requires : goal.edit_child-mend-requires
edit_child-mend-requires g t c =
    let plan = plain_plan (g.M.Marked.marks c.args.plan.now.marks.now) (g.D.Scope.items c.args.plan.now.scope.now) c.args.plan.now in
    let ways = option_map (λ numbers. numbers.now) c.args.way in
    let self = c.args.self.now in
    let made = made_by c.args.list.now self.inner in
    let node = c.args.node.now in
    let k = c.args.k in
    let child = c.in-Some-child.child.now in
    let there = found_child plan ways k self made node c.requires.near c.in-Some.number child (sym c.in-Some.ensures) (sym c.in-Some-child.ensures) in
    record { within = omega (arith, within_sum made k child there, c.requires.list.total, c.length-2.ensures.length) }

pub edit_child-returns-clause-list : goal.edit_child-returns-clause-list
edit_child-returns-clause-list g t c =
    let plan = plain_plan (g.M.Marked.marks c.args.plan.now.marks.now) (g.D.Scope.items c.args.plan.now.scope.now) c.args.plan.now in
    let ways = option_map (λ numbers. numbers.now) c.args.way in
    let self = c.args.self.now in
    let made = made_by c.args.list.now self.inner in
    let node = c.args.node.now in
    let k = c.args.k in
    let child = c.in-Some-child.child.now in
    let there = found_child plan ways k self made node c.requires.near c.in-Some.number child (sym c.in-Some.ensures) (sym c.in-Some-child.ensures) in
    let edited =
    then_ok c.mend.result
    (mended_child plan c.args.list.now c.mend.new.self self.spare self.inner k child node c.length-2.result c.length-2.ensures.length c.requires.list
    there c.in_ok-edit.edit c.in_ok-edit.ensures.none c.in_ok-edit.ensures.some)
    c.mend.ensures in
    then_ok c.mend.result (λ both. both.0) edited

pub edit_child-returns-clause-edited : goal.edit_child-returns-clause-edited
edit_child-returns-clause-edited g t c =
    let plan = plain_plan (g.M.Marked.marks c.args.plan.now.marks.now) (g.D.Scope.items c.args.plan.now.scope.now) c.args.plan.now in
    let ways = option_map (λ numbers. numbers.now) c.args.way in
    let self = c.args.self.now in
    let made = made_by c.args.list.now self.inner in
    let node = c.args.node.now in
    let k = c.args.k in
    let child = c.in-Some-child.child.now in
    let there = found_child plan ways k self made node c.requires.near c.in-Some.number child (sym c.in-Some.ensures) (sym c.in-Some-child.ensures) in
    let edited =
    then_ok c.mend.result
    (mended_child plan c.args.list.now c.mend.new.self self.spare self.inner k child node c.length-2.result c.length-2.ensures.length c.requires.list
    there c.in_ok-edit.edit c.in_ok-edit.ensures.none c.in_ok-edit.ensures.some)
    c.mend.ensures in
    then_ok c.mend.result (λ both. both.1) edited

pub edit_child-returns-clause-moves : goal.edit_child-returns-clause-moves
edit_child-returns-clause-moves g t c =
    let plan = plain_plan (g.M.Marked.marks c.args.plan.now.marks.now) (g.D.Scope.items c.args.plan.now.scope.now) c.args.plan.now in
    let ways = option_map (λ numbers. numbers.now) c.args.way in
    let self = c.args.self.now in
    let made = made_by c.args.list.now self.inner in
    let node = c.args.node.now in
    let k = c.args.k in
    let child = c.in-Some-child.child.now in
    let below = option_map (λ numbers. numbers.now) c.way_below-below.result in
    let mends = ap (λ (w : Option (List ℕ)). is_put plan w) (sym c.way_below-below.ensures) ∙ sym c.puts_at.ensures ∙ c.if-puts_at.false in
    let all = moves_mend plan ways self.inner k node c.in-Some.number child (sym c.in-Some.ensures) (sym c.in-Some-child.ensures) mends in
    let same = ap (λ (w : Option (List ℕ)). node_moves plan w child node) c.way_below-below.ensures in
    then_ok c.mend.result
    (λ is none.
    mended_still c.args.list.now c.mend.new.self k c.length-2.result (node_moves plan below child node) c.in_ok-edit.edit c.in_ok-edit.ensures.moves
    is (same ∙ sym all ∙ none))
    c.mend.ensures

pub edit_child-returns-clause-counts : goal.edit_child-returns-clause-counts
edit_child-returns-clause-counts g t c =
    let plan = plain_plan (g.M.Marked.marks c.args.plan.now.marks.now) (g.D.Scope.items c.args.plan.now.scope.now) c.args.plan.now in
    let ways = option_map (λ numbers. numbers.now) c.args.way in
    let self = c.args.self.now in
    let made = made_by c.args.list.now self.inner in
    let node = c.args.node.now in
    let k = c.args.k in
    let child = c.in-Some-child.child.now in
    let below = option_map (λ numbers. numbers.now) c.way_below-below.result in
    let mends = ap (λ (w : Option (List ℕ)). is_put plan w) (sym c.way_below-below.ensures) ∙ sym c.puts_at.ensures ∙ c.if-puts_at.false in
    emits_more (node_cost plan below child node) (child_cost plan ways self.inner k node) (g.W.Work.counts c.args.work.now)
    (g.W.Work.counts c.node_edit.new.work)
    (omega
    (arith, ap (λ (w : Option (List ℕ)). node_cost plan w child node) c.way_below-below.ensures, cost_mend plan ways self.inner k node c.in-Some.number child (sym c.in-Some.ensures) (sym c.in-Some-child.ensures) mends))
    c.node_edit.ensures.counts

-- ---- what is new of a node

pub node_edit-list_edit-requires : goal.node_edit-list_edit-requires
node_edit-list_edit-requires g t c κs within =
    (omega arith, (within.0, (within.1.0, (within.1.1, ((c.requires.subtree, c.requires.few), (c.requires.fits, c.requires.near.1))))))

pub node_edit-returns-in-Ok-clause-none : goal.node_edit-returns-in-Ok-clause-none
node_edit-returns-in-Ok-clause-none g t c =
    let plan = plain_plan (g.M.Marked.marks c.args.plan.now.marks.now) (g.D.Scope.items c.args.plan.now.scope.now) c.args.plan.now in
    let ways = option_map (λ numbers. numbers.now) c.args.way in
    let self = c.args.self.now in
    let node = c.args.node.now in
    let list = c.in-Ok.list in
    let so = if_ok _ c.list_edit.result list c.in-Ok.is c.list_edit.ensures.made in
    let fits = if_ok _ c.list_edit.result list c.in-Ok.is c.list_edit.ensures.list in
    let own = c.in_ok-own.own in
    let its = own_then plan (ends_here ways) own self.own node.label c.in_ok-own.ensures.none c.in_ok-own.ensures.some c.requires.near.0 in
    if_none c.edit_by.result (λ same. unchanged_node plan own list self node same.0 same.1 its so) c.edit_by.ensures.none

pub node_edit-returns-in-Ok-clause-some : goal.node_edit-returns-in-Ok-clause-some
node_edit-returns-in-Ok-clause-some g t c =
    let plan = plain_plan (g.M.Marked.marks c.args.plan.now.marks.now) (g.D.Scope.items c.args.plan.now.scope.now) c.args.plan.now in
    let ways = option_map (λ numbers. numbers.now) c.args.way in
    let self = c.args.self.now in
    let node = c.args.node.now in
    let list = c.in-Ok.list in
    let so = if_ok _ c.list_edit.result list c.in-Ok.is c.list_edit.ensures.made in
    let fits = if_ok _ c.list_edit.result list c.in-Ok.is c.list_edit.ensures.list in
    let own = c.in_ok-own.own in
    let its = own_then plan (ends_here ways) own self.own node.label c.in_ok-own.ensures.none c.in_ok-own.ensures.some c.requires.near.0 in
    if_edited c.edit_by.result
    (λ edit is. node_edited plan edit own list self node fits its so is) c.edit_by.ensures.some

pub node_edit-returns-in-Ok-clause-moves : goal.node_edit-returns-in-Ok-clause-moves
node_edit-returns-in-Ok-clause-moves g t c =
    let plan = plain_plan (g.M.Marked.marks c.args.plan.now.marks.now) (g.D.Scope.items c.args.plan.now.scope.now) c.args.plan.now in
    let ways = option_map (λ numbers. numbers.now) c.args.way in
    let self = c.args.self.now in
    let node = c.args.node.now in
    let made = is_remade plan (ends_here ways) self.own node.label in
    let moved = list_moves plan ways self.inner node.inner in
    if_edited c.edit_by.result
    (λ edit changed.
    either_moves made moved
    (moved_then c.in_ok-own.own made moved (length c.in-Ok.list.steps.items) c.in_ok-own.ensures.made changed
    (λ none. ap length (if_ok _ c.list_edit.result c.in-Ok.list c.in-Ok.is c.list_edit.ensures.moves none))))
    c.edit_by.ensures.changed

-- ---- what that costs

pub node_edit-returns-in_err-own-clause-counts : goal.node_edit-returns-in_err-own-clause-counts
node_edit-returns-in_err-own-clause-counts g t c =
    let plan = plain_plan (g.M.Marked.marks c.args.plan.now.marks.now) (g.D.Scope.items c.args.plan.now.scope.now) c.args.plan.now in
    let ways = option_map (λ numbers. numbers.now) c.args.way in
    let self = c.args.self.now in
    let node = c.args.node.now in
    let marks = plan.marks in
    let items = plan.items in
    let made = is_remade plan (ends_here ways) self.own node.label in
    let moved = list_moves plan ways self.inner node.inner in
    let whole = own_code_by marks items node.label in
    let long = length whole.pieces.before + length whole.pieces.behind in
    let jumps = jumps_length whole (kept_lengths (kept_code marks items node.inner)) in
    let parts =
    own_parts c.lengths_are_told.ensures.own plan node.label whole (kept_code marks items node.inner) node.inner refl
    (roomless_kept marks items node.inner) in
    let pieces = pieces_cost plan node.label made moved long jumps parts in
    emits_more (if made then long else 0) (node_cost plan ways self node) (g.W.Work.counts c.args.work.now) (g.W.Work.counts c.new_own.new.work)
    (omega (arith, pieces)) c.new_own.ensures.counts

pub node_edit-returns-in-Err-clause-counts : goal.node_edit-returns-in-Err-clause-counts
node_edit-returns-in-Err-clause-counts g t c =
    let plan = plain_plan (g.M.Marked.marks c.args.plan.now.marks.now) (g.D.Scope.items c.args.plan.now.scope.now) c.args.plan.now in
    let ways = option_map (λ numbers. numbers.now) c.args.way in
    let self = c.args.self.now in
    let node = c.args.node.now in
    let marks = plan.marks in
    let items = plan.items in
    let made = is_remade plan (ends_here ways) self.own node.label in
    let moved = list_moves plan ways self.inner node.inner in
    let whole = own_code_by marks items node.label in
    let long = length whole.pieces.before + length whole.pieces.behind in
    let jumps = jumps_length whole (kept_lengths (kept_code marks items node.inner)) in
    let parts =
    own_parts c.lengths_are_told.ensures.own plan node.label whole (kept_code marks items node.inner) node.inner refl
    (roomless_kept marks items node.inner) in
    let pieces = pieces_cost plan node.label made moved long jumps parts in
    emits_then (if made then long else 0) (list_cost plan ways self.inner node.inner) (node_cost plan ways self node)
    (g.W.Work.counts c.args.work.now) (g.W.Work.counts c.new_own.new.work) (g.W.Work.counts c.list_edit.new.work) (omega (arith, pieces))
    c.new_own.ensures.counts c.list_edit.ensures.counts

pub node_edit-returns-in-Ok-clause-counts : goal.node_edit-returns-in-Ok-clause-counts
node_edit-returns-in-Ok-clause-counts g t c =
    let plan = plain_plan (g.M.Marked.marks c.args.plan.now.marks.now) (g.D.Scope.items c.args.plan.now.scope.now) c.args.plan.now in
    let ways = option_map (λ numbers. numbers.now) c.args.way in
    let self = c.args.self.now in
    let node = c.args.node.now in
    let made = is_remade plan (ends_here ways) self.own node.label in
    let moved = list_moves plan ways self.inner node.inner in
    let whole = own_code_by plan.marks plan.items node.label in
    let long = length whole.pieces.before + length whole.pieces.behind in
    let list = c.in-Ok.list in
    let so = if_ok _ c.list_edit.result list c.in-Ok.is c.list_edit.ensures.made in
    let fits = if_ok _ c.list_edit.result list c.in-Ok.is c.list_edit.ensures.list in
    let own = c.in_ok-own.own in
    let its = own_then plan (ends_here ways) own self.own node.label c.in_ok-own.ensures.none c.in_ok-own.ensures.some c.requires.near.0 in
    let after = unwrap_or own self.own in
    let inside = made_by list self.inner in
    let edit = fits in
    let jumps = jumps_length after (kept_lengths inside) in
    let are = jumps_are after after inside list.first list.total refl edit.first edit.total in
    let few : jumps ≤ 2 = omega (arith, are, c.own_codes_stay_in_slots.ensures.jumps after list.first (list.total - list.first)) in
    let parts = own_parts c.lengths_are_told.ensures.own plan node.label after inside node.inner its so in
    let same = ap (λ (o : PlainOwnCode). length o.pieces.before + length o.pieces.behind) its in
    let pieces = if made then long else 0 in
    let cost = list_cost plan ways self.inner node.inner in
    let (n, less, paid) =
    edit_costs plan node.label own made moved (length list.steps.items) long jumps (g.W.Work.counts c.list_edit.new.work)
    (g.W.Work.counts c.edit_by.new.work) (omega (arith, parts, same)) few c.in_ok-own.ensures.made (λ none. ap length (if_ok _ c.list_edit.result c.in-Ok.list c.in-Ok.is c.list_edit.ensures.moves none))
    c.edit_by.ensures.unchanged c.edit_by.ensures.counts in
    emits_then (pieces + cost) n (node_cost plan ways self node) (g.W.Work.counts c.args.work.now) (g.W.Work.counts c.list_edit.new.work)
    (g.W.Work.counts c.edit_by.new.work) (omega (arith, less))
    (emits_then pieces cost (pieces + cost) (g.W.Work.counts c.args.work.now) (g.W.Work.counts c.new_own.new.work)
    (g.W.Work.counts c.list_edit.new.work) (omega arith) c.new_own.ensures.counts c.list_edit.ensures.counts)
    paid
