use Rattle.std.specs.Prelude.{IfOk}
use Rattle.std.proofs.Common.{sym, subst}
use Rattle.template_tree.specs.declared.change.What.{What}
use Rattle.decl_table.specs.Private.ChangeBefore.{IsEditOf}
use Rattle.decl_table.proofs.PreparedNames.{before_change}
use Rattle.decl_table.proofs.name_edit.NameEdit.of.Goals as goal

pub setting-requires-clause-before : goal.setting-requires-clause-before
setting-requires-clause-before c =
    before_change (What.Part c.in-Part.part) c.args.change.now c.args.root.now.inner c.args.tree.now c.in-Part.is c.requires.before

pub putting-requires-clause-before : goal.putting-requires-clause-before
putting-requires-clause-before c =
    before_change What.Node c.args.change.now c.args.root.now.inner c.args.tree.now c.in-Node.is c.requires.before

pub adding-requires-clause-before : goal.adding-requires-clause-before
adding-requires-clause-before c =
    before_change What.Added c.args.change.now c.args.root.now.inner c.args.tree.now c.in-Added.is c.requires.before

pub dropping-requires : goal.dropping-requires
dropping-requires c = record {
  tree = c.requires.tree;
  before = (
    c.args.tree.now,
    c.requires.tree,
    before_change What.Dropped c.args.change.now c.args.root.now.inner c.args.tree.now c.in-Dropped.is c.requires.before,
  );
}

pub returns-in-Dropped-clause-after : goal.returns-in-Dropped-clause-after
returns-in-Dropped-clause-after c =
    c.dropping.ensures.after c.args.tree.now c.requires.tree
    (before_change What.Dropped c.args.change.now c.args.root.now.inner c.args.tree.now c.in-Dropped.is c.requires.before)

pub returns-in-Part-clause-edit : goal.returns-in-Part-clause-edit
returns-in-Part-clause-edit c =
    let change = c.args.change.now in
    λ before is agrees differs.
    subst (λ w. IfOk c.setting.result (IsEditOf w change.slot.0 before.items c.args.tree.now.items)) (sym c.in-Part.is)
    (c.setting.ensures.edit
    (before_change (What.Part c.in-Part.part) change c.args.root.now.inner c.args.tree.now c.in-Part.is (before, is, agrees, differs)))

pub returns-in-Node-clause-edit : goal.returns-in-Node-clause-edit
returns-in-Node-clause-edit c =
    let change = c.args.change.now in
    λ before is agrees differs.
    subst (λ w. IfOk c.putting.result (IsEditOf w change.slot.0 before.items c.args.tree.now.items)) (sym c.in-Node.is)
    (c.putting.ensures.edit (before_change What.Node change c.args.root.now.inner c.args.tree.now c.in-Node.is (before, is, agrees, differs)))

pub returns-in-Added-clause-edit : goal.returns-in-Added-clause-edit
returns-in-Added-clause-edit c =
    let change = c.args.change.now in
    λ before is agrees differs.
    subst (λ w. IfOk c.adding.result (IsEditOf w change.slot.0 before.items c.args.tree.now.items)) (sym c.in-Added.is)
    (c.adding.ensures.edit (before_change What.Added change c.args.root.now.inner c.args.tree.now c.in-Added.is (before, is, agrees, differs)))

pub returns-in-Dropped-clause-edit : goal.returns-in-Dropped-clause-edit
returns-in-Dropped-clause-edit c =
    let change = c.args.change.now in
    λ before is agrees differs.
    subst (λ w. IsEditOf w change.slot.0 before.items c.args.tree.now.items c.dropping.result) (sym c.in-Dropped.is)
    (c.dropping.ensures.edit c.args.tree.now c.requires.tree
    (before_change What.Dropped change c.args.root.now.inner c.args.tree.now c.in-Dropped.is (before, is, agrees, differs)))
