-- Where no item came or went nothing is prepared; else it is the first step, by which the kept nodes are those by
-- their numbers after the edit.
use Rattle.std.specs.Prelude.{◌≡◌, Some, is_some, option_map, slice_get}
use Rattle.std.proofs.Common.{arith, ap, sym, subst, ◌∙◌, true≢false}
use Rattle.template_tree.specs.Programs.PlainTree.{PlainNode, nodes}
use Rattle.code_patch.specs.CodeEdit.{roomless_code}
use Rattle.code_patch.specs.CodeForest.{CodeForest}
use Rattle.code_patch.specs.Private.EditCosts.{item_cost}
use Rattle.code_patch.specs.Private.OuterNodes.{nodes_inside}
use Rattle.code_patch.specs.Private.PlainCodeNode.{kept_node, node_length}
use Rattle.code_patch.specs.Private.PreparedNodes.{KeptStay, made_by, plain_plan}
use Rattle.code_patch.proofs.CostSteps.{item_comes}
use Rattle.code_patch.proofs.CountedCode.{emits_more, emits_none}
use Rattle.code_patch.proofs.EditedChildren.{then_ok}
use Rattle.code_patch.proofs.KeptItems.{edited_added, edited_dropped, edited_none, item_came, item_fits, item_is, item_went, stay_added, stay_dropped, stay_none}
use Rattle.code_patch.proofs.MadeCode.{outer_sound}
use Rattle.code_patch.proofs.PreparedLists.{before_is}
use Rattle.std.proofs.lemmas.Option.{none-some, same_Some}
use Rattle.code_patch.proofs.code_node.CodeNode.edit_item.Goals as goal

pub returns-in_default : goal.returns-in_default
returns-in_default g c =
    let plan = plain_plan (g.M.Marked.marks c.args.plan.now.marks.now) (g.D.Scope.items c.args.plan.now.scope.now) c.args.plan.now in
    let ways = option_map (λ numbers. numbers.now) c.args.way in
    let self = c.args.self.now in
    let after = nodes_inside c.args.outer.now in
    let list = c.args.list.now in
    let none = sym c.in_default.ensures in
    let before = before_is list list self.spare self.inner 0 c.requires.fresh in
    record {
      list = c.requires.list;
      made = ap roomless_code (before ∙ sym (edited_none plan ways self after none));
      kept = subst (λ (f : CodeForest). KeptStay plan ways self f after) (sym before) (stay_none plan ways self after none);
      moves = λ same. c.requires.fresh;
      counts = emits_none (item_cost plan ways after) (g.W.Work.counts c.args.work.now);
    }

pub drop_child-requires : goal.drop_child-requires
drop_child-requires g c =
    let plan = plain_plan (g.M.Marked.marks c.args.plan.now.marks.now) (g.D.Scope.items c.args.plan.now.scope.now) c.args.plan.now in
    let ways = option_map (λ numbers. numbers.now) c.args.way in
    let self = c.args.self.now in
    let after = nodes_inside c.args.outer.now in
    let k = c.in-Some.k in
    let is = sym c.in-Some.ensures in
    record {
      there =
          item_went plan.what k self after (item_is plan.what ways k is) (sym c.adds.ensures ∙ c.if-not-adds.true)
          (item_fits plan.what ways k self after is c.requires.fits);
      list = c.requires.list;
      fresh = c.requires.fresh;
    }

pub returns-then-not-adds : goal.returns-then-not-adds
returns-then-not-adds g c =
    let plan = plain_plan (g.M.Marked.marks c.args.plan.now.marks.now) (g.D.Scope.items c.args.plan.now.scope.now) c.args.plan.now in
    let ways = option_map (λ numbers. numbers.now) c.args.way in
    let self = c.args.self.now in
    let after = nodes_inside c.args.outer.now in
    let k = c.in-Some.k in
    let is = sym c.in-Some.ensures in
    let went = sym c.adds.ensures ∙ c.if-not-adds.true in
    let made = made_by c.drop_child.new.list self.inner in
    let done = c.drop_child.result in
    record {
      list = c.drop_child.ensures.list;
      made = then_ok done (λ so. ap roomless_code (edited_dropped plan ways self after k is went made so)) c.drop_child.ensures.made;
      kept = then_ok done (λ so. stay_dropped plan ways self after k is went made so) c.drop_child.ensures.made;
      moves = then_ok done (λ so same. absurd (none-some k (sym same ∙ is))) c.drop_child.ensures.made;
      counts = emits_none (item_cost plan ways after) (g.W.Work.counts c.args.work.now);
    }

pub unreachable-requires : goal.unreachable-requires
unreachable-requires g c =
    let plan = plain_plan (g.M.Marked.marks c.args.plan.now.marks.now) (g.D.Scope.items c.args.plan.now.scope.now) c.args.plan.now in
    let ways = option_map (λ numbers. numbers.now) c.args.way in
    let self = c.args.self.now in
    let after = nodes_inside c.args.outer.now in
    let k = c.in-Some.k in
    let came =
    item_came plan.what k self after (sym c.adds.ensures ∙ c.if-not-adds.false)
    (item_fits plan.what ways k self after (sym c.in-Some.ensures) c.requires.fits) in
    true≢false (sym (ap is_some c.in_default-child.ensures ∙ came.2))

pub add_child-requires : goal.add_child-requires
add_child-requires g c =
    let plan = plain_plan (g.M.Marked.marks c.args.plan.now.marks.now) (g.D.Scope.items c.args.plan.now.scope.now) c.args.plan.now in
    let ways = option_map (λ numbers. numbers.now) c.args.way in
    let self = c.args.self.now in
    let all = nodes_inside c.args.outer.now in
    let k = c.in-Some.k in
    let node = c.in-Some-child.node.now in
    let there : slice_get (nodes all) k ≡ Some node = sym c.in-Some-child.ensures in
    let sound = outer_sound c.args.outer.now c.requires.outer in
    let fewer = c.items_are_nodes.ensures.fewer all k node there in
    let came =
    item_came plan.what k self all (sym c.adds.ensures ∙ c.if-not-adds.false)
    (item_fits plan.what ways k self all (sym c.in-Some.ensures) c.requires.fits) in
    record {
      subtree = c.items_are_nodes.ensures.subtrees all k node there sound.0;
      few = omega (arith, fewer, sound.1);
      there = came.0;
      room = came.1;
      list = c.requires.list;
      fresh = c.requires.fresh;
    }

pub returns : goal.returns
returns g c =
    let plan = plain_plan (g.M.Marked.marks c.args.plan.now.marks.now) (g.D.Scope.items c.args.plan.now.scope.now) c.args.plan.now in
    let ways = option_map (λ numbers. numbers.now) c.args.way in
    let self = c.args.self.now in
    let all = nodes_inside c.args.outer.now in
    let k = c.in-Some.k in
    let is = sym c.in-Some.ensures in
    let node = c.in-Some-child.node.now in
    let there : slice_get (nodes all) k ≡ Some node = sym c.in-Some-child.ensures in
    let did = sym c.adds.ensures ∙ c.if-not-adds.false in
    let came = item_came plan.what k self all did (item_fits plan.what ways k self all is c.requires.fits) in
    let made = made_by c.add_child.new.list self.inner in
    let done = c.add_child.result in
    record {
      list = c.add_child.ensures.list;
      made =
          then_ok done
          (λ added. let (child, so, its) = added in edited_added plan ways self all k is did child node made so there its)
          c.add_child.ensures.made;
      kept =
          then_ok done
          (λ added.
          let (child, so, its) = added in
          stay_added plan ways self all k is did child made so came.0
          (λ other found.
          its ∙ ap (λ (n : PlainNode). kept_node plan.marks plan.items n) (same_Some node other (sym there ∙ found))))
          c.add_child.ensures.made;
      moves = then_ok done (λ added same. absurd (none-some k (sym same ∙ is))) c.add_child.ensures.made;
      counts =
          emits_more (node_length plan.marks plan.items node) (item_cost plan ways all) (g.W.Work.counts c.args.work.now)
          (g.W.Work.counts c.add_child.new.work) (omega (arith, item_comes plan ways all k node is did there)) c.add_child.ensures.counts;
    }
