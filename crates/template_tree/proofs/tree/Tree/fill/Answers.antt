-- The hole takes nodes of the kind, and the limits were asked for the fresh node before memory was taken for it, so it
-- may come in; the node in memory is the fresh one but for room, and so is the edit.
use Rattle.std.specs.Prelude.{◌≡◌, min, length, Some, None}
use Rattle.std.proofs.Common.{ap, sym, ◌∙◌, subst}
use Rattle.plcs_grammar.specs.declared.node_kind.NodeKind.{NodeKind}
use Rattle.plcs_grammar.specs.Template.{PlainRow}
use Rattle.template_tree.specs.Programs.PlainTree.{PlainNode, roomless_node}
use Rattle.template_tree.specs.Positions.Path.{node_at}
use Rattle.template_tree.specs.Programs.Program.{IsSubtree, sort_of}
use Rattle.template_tree.specs.Programs.Slots.{count}
use Rattle.template_tree.specs.Edits.FreshNode.{fresh_node, section_holes}
use Rattle.template_tree.specs.Edits.Edit.{Put}
use Rattle.template_tree.specs.Edits.Hole.{hole_of}
use Rattle.template_tree.specs.Edits.EditAnswer.{IsHoleFor, IsWithin, slot_in}
use Rattle.template_tree.proofs.Puts.PutEdits.{at_there, edit_like}
use Rattle.template_tree.proofs.Room.RoomlessEdits.{same_roomless}
use Rattle.template_tree.proofs.Puts.Holes.{subtree_with_room}
use Rattle.template_tree.proofs.Puts.FreshNodes.{fresh_asked, fresh_subtree}
use Rattle.template_tree.proofs.Puts.Refusals.{limit_refused, limit_kept, may_come, within_like}
use Rattle.template_tree.proofs.tree.Tree.fill.Goals as goal

pub returns-in-Some-limit_reached-clause-refused : goal.returns-in-Some-limit_reached-clause-refused
returns-in-Some-limit_reached-clause-refused c =
    let kind = NodeKind.Filled c.args.template in
    let at = sym c.in-Some.ensures.found in
    let here : IsHoleFor kind c.in-Some.there.now =
    c.is_hole_for.ensures.0 c.if-not-is_hole_for.false ∙ ap (λ (n : PlainNode). Some n.label.kind) c.there.view_is in
    limit_refused c.args.self.now c.args.path.now.items c.in-Some.there.now (fresh_node kind) c.depth_allows.result c.hole_count-slots.result
    c.in-Some-limit_reached.fault c.requires.tree at here
    (fresh_asked (length c.args.path.now.items) kind c.depth_allows.result c.hole_count-slots.result
    (c.hole_count-slots.ensures ∙ ap (λ (r : PlainRow). min (count (section_holes r.sections)) 4294967295) c.row.ensures) c.depth_allows.ensures)
    c.in-Some-limit_reached.ensures.over

pub returns-in_default-fresh-clause-refused : goal.returns-in_default-fresh-clause-refused
returns-in_default-fresh-clause-refused c =
    let kind = NodeKind.Filled c.args.template in
    let at = sym c.in-Some.ensures.found in
    let here : IsHoleFor kind c.in-Some.there.now =
    c.is_hole_for.ensures.0 c.if-not-is_hole_for.false ∙ ap (λ (n : PlainNode). Some n.label.kind) c.there.view_is in
    let kept : IsWithin (Put c.args.self.now c.in-Some.there.now.label.slot (fresh_node kind)) =
    limit_kept c.args.self.now c.args.path.now.items c.in-Some.there.now (fresh_node kind) c.depth_allows.result c.hole_count-slots.result
    c.requires.tree at here
    (fresh_asked (length c.args.path.now.items) kind c.depth_allows.result c.hole_count-slots.result
    (c.hole_count-slots.ensures ∙ ap (λ (r : PlainRow). min (count (section_holes r.sections)) 4294967295) c.row.ensures) c.depth_allows.ensures)
    c.in_default-limit_reached.ensures.within
    in
    at_there (node_at c.args.self.now.items c.args.path.now.items)
    (λ node. IsHoleFor (NodeKind.Filled c.args.template) node × IsWithin (Put c.args.self.now node.label.slot (fresh_node (NodeKind.Filled c.args.template))))
    c.in-Some.there.now at (here, kept)

pub put_fresh-requires-clause-fits : goal.put_fresh-requires-clause-fits
put_fresh-requires-clause-fits c =
    let kind = NodeKind.Filled c.args.template in
    let at = sym c.in-Some.ensures.found in
    let here : IsHoleFor kind c.in-Some.there.now =
    c.is_hole_for.ensures.0 c.if-not-is_hole_for.false ∙ ap (λ (n : PlainNode). Some n.label.kind) c.there.view_is in
    let kept : IsWithin (Put c.args.self.now c.in-Some.there.now.label.slot (fresh_node kind)) =
    limit_kept c.args.self.now c.args.path.now.items c.in-Some.there.now (fresh_node kind) c.depth_allows.result c.hole_count-slots.result
    c.requires.tree at here
    (fresh_asked (length c.args.path.now.items) kind c.depth_allows.result c.hole_count-slots.result
    (c.hole_count-slots.ensures ∙ ap (λ (r : PlainRow). min (count (section_holes r.sections)) 4294967295) c.row.ensures) c.depth_allows.ensures)
    c.in_default-limit_reached.ensures.within
    in
    let same : roomless_node c.in-Ok.node ≡ fresh_node kind = c.in-Ok.ensures in
    let kind_is : c.in-Ok.node.label.kind ≡ kind = ap (λ (n : PlainNode). n.label.kind) same in
    may_come c.args.self.now c.args.path.now.items c.in-Some.there.now c.in-Ok.node at
    (ap (λ k. hole_of (sort_of k)) kind_is ∙ here)
    (subtree_with_room c.in-Ok.node (subst IsSubtree (sym same) (fresh_subtree c.args.template)))
    (within_like c.args.self.now c.in-Some.there.now.label.slot (fresh_node kind) c.in-Ok.node (sym (same_roomless c.in-Ok.node (fresh_node kind) same)) kept)

pub returns-clause-edited : goal.returns-clause-edited
returns-clause-edited c =
    let fresh = fresh_node (NodeKind.Filled c.args.template) in
    let there = node_at c.args.self.now.items c.args.path.now.items in
    record {
      here =
          at_there there (IsHoleFor (NodeKind.Filled c.args.template)) c.in-Some.there.now (sym c.in-Some.ensures.found)
          (c.is_hole_for.ensures.0 c.if-not-is_hole_for.false ∙ ap (λ (n : PlainNode). Some n.label.kind) c.there.view_is);
      is_edit =
          edit_like c.in-Ok.node fresh (slot_in there) c.args.self.now c.put_fresh.new.self c.put_fresh.result None (same_roomless c.in-Ok.node fresh c.in-Ok.ensures)
          c.put_fresh.ensures.edit;
    }

pub returns-clause-tree : goal.returns-clause-tree
returns-clause-tree c = c.put_fresh.ensures.edit.tree
