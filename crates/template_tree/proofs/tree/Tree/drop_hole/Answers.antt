-- The hole is known to be spare, so dropping it is the edit of a tree; the receipt puts it back beside the item before
-- it, or after which it stood, into room that its list keeps.
use Rattle.std.specs.Prelude.{◌≡◌, refl, ◌-◌, ◌<◌, Some, None, []}
use Rattle.std.proofs.Common.{arith, ap, sym, ◌∙◌, subst}
use Rattle.template_tree.specs.declared.change.Change.{Change}
use Rattle.template_tree.specs.declared.change.What.{What}
use Rattle.template_tree.specs.contracts.tree.Tree.{the_view}
use Rattle.template_tree.specs.Programs.PlainTree.{PlainNode, PlainTree, roomless, roomless_node}
use Rattle.template_tree.specs.Positions.Path.{node_at}
use Rattle.template_tree.specs.Edits.Edit.{edit_at}
use Rattle.template_tree.specs.Edits.EditAnswer.{IsEdit, IsSpareHole}
use Rattle.template_tree.specs.Edits.Receipt.{PlainReceipt, PlainUndoing, list_room}
use Rattle.template_tree.specs.Edits.TreeEdit.{TreeEdit}
use Rattle.template_tree.proofs.Edits.Procedures.{way_where}
use Rattle.template_tree.proofs.Trees.Counts.{counted_below}
use Rattle.template_tree.proofs.Puts.PutEdits.{edits_at, of_there}
use Rattle.template_tree.proofs.Lists.ListEdits.{drop_edit}
use Rattle.template_tree.proofs.tree.Tree.drop_hole.Goals as goal

pub procedure_at-procedure-requires : goal.procedure_at-procedure-requires
procedure_at-procedure-requires c =
    way_where (node_at c.args.self.now.items c.args.path.now.items) (IsSpareHole c.args.self.now.items c.args.path.now.items)
    c.args.self.now.items c.args.path.now.items refl (c.is_spare_hole.ensures.0 c.if-not-is_spare_hole.false)

pub overflow_sub-self : goal.overflow_sub-self
overflow_sub-self c =
    omega (
      arith,
      ap (λ (t : PlainTree). t.live) c.self.view_is,
      c.requires.tree.live,
      counted_below c.args.self.now.items c.args.path.now.items c.in-Some.hole (sym c.in-Some.ensures.taken),
    )

pub returns-clause-edited : goal.returns-clause-edited
returns-clause-edited c =
    let tree = c.args.self.now in
    let path = c.args.path.now.items in
    let node = c.in-Some.hole in
    let there : node_at tree.items path ≡ Some node = sym c.in-Some.ensures.taken in
    let spare : IsSpareHole tree.items path node =
    of_there (node_at tree.items path) (IsSpareHole tree.items path) node there (c.is_spare_hole.ensures.0 c.if-not-is_spare_hole.false) in
    let after : PlainTree =
    the_view record { items = c.self-2.inside.items; drawn = c.self-2.inside.drawn; live = c.self.inside.live - 1; homes = c.self-2.inside.homes } in
    let change : Change =
    record { slot = c.hole.inside.slot; procedure = c.procedure_at-procedure.result; what = What.Dropped } in
    let others : roomless after.items ≡ edit_at (λ _. []) path (roomless tree.items) =
    ap (λ (t : PlainTree). roomless t.items) c.self-2.view_is ∙ ap (λ (t : PlainTree). t.items) c.in-Some.ensures.others in
    let drawn : after.drawn ≡ tree.drawn =
    ap (λ (t : PlainTree). t.drawn) c.self-2.view_is ∙ ap (λ (t : PlainTree). t.drawn) c.in-Some.ensures.others in
    let room : 0 < list_room after.spare after.items path =
    subst (λ (t : PlainTree). 0 < list_room t.spare t.items path) (sym c.self-2.view_is) c.in-Some.ensures.room in
    let edit = drop_edit tree path node after change c.requires.tree there spare others drawn
    (ap (λ (t : PlainTree). t.live - 1) c.self.view_is) room
    record { slot_is = ap (λ (n : PlainNode). n.label.slot) c.hole.view_is; what_is = refl; first = c.procedure_at-procedure.ensures } in
    edits_at TreeEdit.drop (node_at tree.items path) (IsSpareHole tree.items path) _ _ _ node there spare
    (
    subst (λ (r : PlainReceipt). IsEdit TreeEdit.drop node.label.slot tree after r None)
    (λ i. record {
      change = change;
      path = sym c.path_before.ensures i;
      undoing = PlainUndoing.put_in (sym c.side_left.ensures i) (roomless_node node);
      drawn = ap (λ (t : PlainTree). t.drawn) (sym c.self.view_is) i;
      live = ap (λ (t : PlainTree). t.live) (sym c.self.view_is) i;
    })
    edit
    )

pub returns-clause-tree : goal.returns-clause-tree
returns-clause-tree c = (returns-clause-edited c).is_edit.tree
