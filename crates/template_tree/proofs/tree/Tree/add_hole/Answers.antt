-- An item that is listed has a hole of its sort, which came beside it in its list; so the tree after it is that of the
-- edit, but for room. The hole stands at the added path, by which its receipt takes it out again, and the change names
-- its procedure.
use Rattle.std.specs.Prelude.{◌≡◌, refl, ◌+◌, ◌≤◌, Some, None, IfSome, IsSome}
use Rattle.std.proofs.Common.{arith, ap, sym, ◌∙◌, subst}
use Rattle.std.proofs.lemmas.Option.{none-some}
use Rattle.plcs_grammar.specs.declared.node_kind.NodeKind.{NodeKind}
use Rattle.plcs_grammar.specs.Template.{PlainRow, row_of}
use Rattle.template_tree.specs.declared.change.Change.{Change}
use Rattle.template_tree.specs.declared.change.What.{What}
use Rattle.template_tree.specs.contracts.tree.Tree.{the_view}
use Rattle.template_tree.specs.Programs.PlainTree.{PlainTree, roomless, roomless_node}
use Rattle.template_tree.specs.Positions.Path.{node_at}
use Rattle.template_tree.specs.Programs.Program.{sort_of}
use Rattle.template_tree.specs.Programs.Slots.{count}
use Rattle.template_tree.specs.Edits.Edit.{edit_at}
use Rattle.template_tree.specs.Edits.Hole.{hole_of, lone}
use Rattle.template_tree.specs.Edits.EditAnswer.{IsEdit, IsListItem}
use Rattle.template_tree.specs.Edits.ListItem.{is_listed}
use Rattle.template_tree.specs.Private.Exchange.{first_item}
use Rattle.template_tree.specs.Positions.Path.{added_path}
use Rattle.template_tree.specs.Edits.Receipt.{PlainReceipt, PlainUndoing, with_beside}
use Rattle.template_tree.specs.Edits.TreeEdit.{TreeEdit}
use Rattle.template_tree.proofs.Puts.Holes.{bare_is}
use Rattle.template_tree.proofs.Puts.PutEdits.{at_there, edits_at}
use Rattle.template_tree.proofs.Puts.Refusals.{refused_by}
use Rattle.template_tree.proofs.Lists.ListTrees.{hole_kind}
use Rattle.template_tree.proofs.Lists.ListEdits.{add_edit, add_over, add_within, added_way, last_small}
use Rattle.template_tree.proofs.tree.Tree.add_hole.Goals as goal

pub returns-in_default-hole_of-clause-refused : goal.returns-in_default-hole_of-clause-refused
returns-in_default-hole_of-clause-refused c =
    λ _.
    let items = c.args.self.now.items in
    let path = c.args.path.now.items in
    let node = c.in-Some.there.now in
    let sort_is : c.row-sort.result.sort ≡ sort_of node.label.kind =
    ap (λ (r : PlainRow). r.sort) c.row-sort.ensures ∙ ap (λ (k : NodeKind). (row_of k).sort) c.kind.ensures in
    let listed : IsListItem items path node =
    sym (c.if-not-is_listed.ensures ∙ λ i. is_listed (sort_is i) (c.sections_at.ensures i)) in
    let kind = hole_kind items path node listed in
    none-some kind.0 (c.in_default-hole_of.ensures ∙ (ap hole_of sort_is ∙ kind.1))

pub returns-in-Some-limit_reached-clause-refused : goal.returns-in-Some-limit_reached-clause-refused
returns-in-Some-limit_reached-clause-refused c =
    let tree = c.args.self.now in
    let path = c.args.path.now.items in
    let node = c.in-Some.there.now in
    let there : node_at tree.items path ≡ Some node = sym c.in-Some.ensures.found in
    let sort_is : c.row-sort.result.sort ≡ sort_of node.label.kind =
    ap (λ (r : PlainRow). r.sort) c.row-sort.ensures ∙ ap (λ (k : NodeKind). (row_of k).sort) c.kind.ensures in
    let listed : IsListItem tree.items path node =
    sym (c.if-not-is_listed.ensures ∙ λ i. is_listed (sort_is i) (c.sections_at.ensures i)) in
    let hole_is : hole_of (sort_of node.label.kind) ≡ Some c.in-Some-hole_of.hole =
    sym (c.in-Some-hole_of.ensures ∙ ap hole_of sort_is) in
    refused_by c.in-Some-limit_reached.fault (TreeEdit.add c.args.side) (node_at tree.items path) (IsListItem tree.items path) tree node there listed
    (add_over c.in-Some-limit_reached.fault tree path node c.args.side c.in-Some-hole_of.hole c.requires.tree there hole_is
    c.in-Some-limit_reached.ensures.over)

pub returns-in-Err-clause-refused : goal.returns-in-Err-clause-refused
returns-in-Err-clause-refused c =
    let tree = c.args.self.now in
    let path = c.args.path.now.items in
    let node = c.in-Some.there.now in
    let there : node_at tree.items path ≡ Some node = sym c.in-Some.ensures.found in
    let sort_is : c.row-sort.result.sort ≡ sort_of node.label.kind =
    ap (λ (r : PlainRow). r.sort) c.row-sort.ensures ∙ ap (λ (k : NodeKind). (row_of k).sort) c.kind.ensures in
    let listed : IsListItem tree.items path node =
    sym (c.if-not-is_listed.ensures ∙ λ i. is_listed (sort_is i) (c.sections_at.ensures i)) in
    let hole_is : hole_of (sort_of node.label.kind) ≡ Some c.in-Some-hole_of.hole =
    sym (c.in-Some-hole_of.ensures ∙ ap hole_of sort_is) in
    at_there (node_at tree.items path) _ node there (
      listed,
      add_within tree path node c.args.side c.in-Some-hole_of.hole c.requires.tree there hole_is
          c.in_default-limit_reached.ensures.within.1 c.in_default-limit_reached.ensures.within.2,
    )

pub added_path-added-requires : goal.added_path-added-requires
added_path-added-requires c =
    let few : count c.args.self.now.items ≤ 20000 = c.requires.tree.few in
    record { small = omega (arith, few, last_small c.args.self.now.items c.args.path.now.items c.in-Some.there.now (sym c.in-Some.ensures.found)) }

pub procedure_at-procedure-requires : goal.procedure_at-procedure-requires
procedure_at-procedure-requires c =
    let way =
    added_way c.args.side (roomless_node c.bare-node.result) c.in-Some.there.now c.args.self.now.items c.add_beside.new.self.items
    c.args.path.now.items (sym c.in-Some.ensures.found) (ap (λ (t : PlainTree). t.items) c.in_default-add_beside.ensures.added) in
    subst (λ p. IsSome (first_item c.add_beside.new.self.items p)) (sym c.added_path-added.ensures) way

pub returns-clause-edited : goal.returns-clause-edited
returns-clause-edited c =
    let tree = c.args.self.now in
    let path = c.args.path.now.items in
    let node = c.in-Some.there.now in
    let side = c.args.side in
    let hole = c.in-Some-hole_of.hole in
    let there : node_at tree.items path ≡ Some node = sym c.in-Some.ensures.found in
    let sort_is : c.row-sort.result.sort ≡ sort_of node.label.kind =
    ap (λ (r : PlainRow). r.sort) c.row-sort.ensures ∙ ap (λ (k : NodeKind). (row_of k).sort) c.kind.ensures in
    let listed : IsListItem tree.items path node =
    sym (c.if-not-is_listed.ensures ∙ λ i. is_listed (sort_is i) (c.sections_at.ensures i)) in
    let hole_is : hole_of (sort_of node.label.kind) ≡ Some hole = sym (c.in-Some-hole_of.ensures ∙ ap hole_of sort_is) in
    let drawn : c.self.inside.drawn ≡ tree.drawn = ap (λ (t : PlainTree). t.drawn) c.self.view_is in
    let live : c.self.inside.live ≡ tree.live = ap (λ (t : PlainTree). t.live) c.self.view_is in
    let hole_same : roomless_node c.bare-node.result ≡ lone tree.drawn hole =
    bare_is c.bare-node.result c.self.inside.drawn hole c.bare-node.ensures ∙ ap (λ d. lone d hole) drawn in
    let after : PlainTree =
    the_view record { items = c.self-2.inside.items; drawn = c.self.inside.drawn + 1; live = c.self.inside.live + 1; homes = c.self-2.inside.homes } in
    let change : Change =
    record { slot = record { 0 = c.self.inside.drawn }; procedure = c.procedure_at-procedure.result; what = What.Added } in
    let others : roomless after.items ≡ edit_at (with_beside side (lone tree.drawn hole)) path (roomless tree.items) =
    ap (λ (t : PlainTree). roomless t.items) c.self-2.view_is
    ∙ (ap (λ (t : PlainTree). t.items) c.in_default-add_beside.ensures.added
    ∙ ap (λ n. edit_at (with_beside side n) path (roomless tree.items)) hole_same) in
    let first : IfSome (first_item after.items (added_path side path)) (λ item. c.procedure_at-procedure.result.0 ≡ item.label.slot) =
    subst (λ p. IfSome (first_item after.items p) (λ item. c.procedure_at-procedure.result.0 ≡ item.label.slot)) c.added_path-added.ensures
    (subst (λ (t : PlainTree). IfSome (first_item t.items c.added_path-added.result.items) (λ item. c.procedure_at-procedure.result.0 ≡ item.label.slot))
    (sym c.self-2.view_is) c.procedure_at-procedure.ensures) in
    let edit = add_edit tree path node side hole after change c.requires.tree there listed hole_is
    c.in_default-limit_reached.ensures.within.1 c.in_default-limit_reached.ensures.within.2 others (ap (λ n. n + 1) drawn) (ap (λ n. n + 1) live)
    record { slot_is = drawn; what_is = refl; first = first } in
    edits_at (TreeEdit.add side) (node_at tree.items path) (IsListItem tree.items path) _ _ _ node there listed
    (
    subst (λ (r : PlainReceipt). IsEdit (TreeEdit.add side) node.label.slot tree after r None)
    (λ i. record {
      change = change;
      path = sym c.added_path-added.ensures i;
      undoing = PlainUndoing.take_out;
      drawn = sym drawn i;
      live = sym live i;
    })
    edit
    )

pub returns-clause-tree : goal.returns-clause-tree
returns-clause-tree c = (returns-clause-edited c).is_edit.tree
