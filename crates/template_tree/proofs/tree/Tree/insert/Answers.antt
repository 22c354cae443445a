use Rattle.std.specs.Prelude.{◌+◌, min, Some, length}
use Rattle.std.proofs.Common.{ap, sym, ◌∙◌, arith}
use Rattle.template_tree.specs.Programs.Limit.{most_slots}
use Rattle.template_tree.specs.Programs.PlainTree.{PlainNode, forest}
use Rattle.template_tree.specs.Programs.Program.{sort_of}
use Rattle.template_tree.specs.Programs.Slots.{count}
use Rattle.template_tree.specs.Edits.Hole.{hole_of}
use Rattle.template_tree.specs.Edits.EditAnswer.{IsHoleFor}
use Rattle.template_tree.specs.Positions.Path.{node_at}
use Rattle.template_tree.proofs.Puts.PutEdits.{at_there}
use Rattle.template_tree.proofs.Puts.PutLimits.{path_short}
use Rattle.template_tree.proofs.Puts.Refusals.{limit_refused, limit_kept, may_come, asked_of}
use Rattle.template_tree.proofs.tree.Tree.insert.Goals as goal

pub returns-in-Some-limit_reached-clause-refused : goal.returns-in-Some-limit_reached-clause-refused
returns-in-Some-limit_reached-clause-refused c =
    let tree = c.args.self.now in
    let path = c.args.path.now.items in
    let at = sym c.in-Some.ensures.found in
    let here : IsHoleFor c.args.node.label.kind c.in-Some.there.now =
    ap (λ (n : PlainNode). hole_of (sort_of n.label.kind)) (sym c.node-2.view_is)
    ∙ (c.is_hole_for.ensures.0 c.if-not-is_hole_for.false ∙ ap (λ (n : PlainNode). Some n.label.kind) c.there.view_is) in
    limit_refused tree path c.in-Some.there.now c.args.node c.is_within_depth-is_shallow.result c.slots_up_to_limit.result
    c.in-Some-limit_reached.fault c.requires.tree at here
    (asked_of (length path) c.len.result c.args.node (forest c.as_slice.result.now) c.is_within_depth-is_shallow.result c.slots_up_to_limit.result
    c.len.ensures.value (omega (arith, path_short tree.items path c.in-Some.there.now at, c.requires.tree.shallow))
    (ap forest c.as_slice.ensures ∙ ap (λ (n : PlainNode). n.inner) c.node-2.view_is) c.is_within_depth-is_shallow.ensures
    (c.slots_up_to_limit.ensures ∙ ap (λ (n : PlainNode). min (count n.inner) (most_slots + 1)) c.node-2.view_is))
    c.in-Some-limit_reached.ensures.over

pub put-requires-clause-fits : goal.put-requires-clause-fits
put-requires-clause-fits c =
    let tree = c.args.self.now in
    let path = c.args.path.now.items in
    let at = sym c.in-Some.ensures.found in
    let here : IsHoleFor c.args.node.label.kind c.in-Some.there.now =
    ap (λ (n : PlainNode). hole_of (sort_of n.label.kind)) (sym c.node-2.view_is)
    ∙ (c.is_hole_for.ensures.0 c.if-not-is_hole_for.false ∙ ap (λ (n : PlainNode). Some n.label.kind) c.there.view_is) in
    may_come tree path c.in-Some.there.now c.args.node at here c.requires.node
    (limit_kept tree path c.in-Some.there.now c.args.node c.is_within_depth-is_shallow.result c.slots_up_to_limit.result c.requires.tree at here
    (asked_of (length path) c.len.result c.args.node (forest c.as_slice.result.now) c.is_within_depth-is_shallow.result c.slots_up_to_limit.result
    c.len.ensures.value (omega (arith, path_short tree.items path c.in-Some.there.now at, c.requires.tree.shallow))
    (ap forest c.as_slice.ensures ∙ ap (λ (n : PlainNode). n.inner) c.node-2.view_is) c.is_within_depth-is_shallow.ensures
    (c.slots_up_to_limit.ensures ∙ ap (λ (n : PlainNode). min (count n.inner) (most_slots + 1)) c.node-2.view_is))
    c.in_default-limit_reached.ensures.within)

pub returns-clause-edited : goal.returns-clause-edited
returns-clause-edited c =
    record {
      here =
          at_there (node_at c.args.self.now.items c.args.path.now.items) (IsHoleFor c.args.node.label.kind) c.in-Some.there.now
          (sym c.in-Some.ensures.found)
          (ap (λ (n : PlainNode). hole_of (sort_of n.label.kind)) (sym c.node-2.view_is)
          ∙ (c.is_hole_for.ensures.0 c.if-not-is_hole_for.false ∙ ap (λ (n : PlainNode). Some n.label.kind) c.there.view_is));
      is_edit = c.put.ensures.edit;
    }

pub returns-clause-tree : goal.returns-clause-tree
returns-clause-tree c = c.put.ensures.edit.tree
