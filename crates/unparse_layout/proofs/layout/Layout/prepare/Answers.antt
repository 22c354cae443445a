-- By what the change did, the root's part of the edit makes its layout that of the tree; as that of a tree it isn't too
-- long.
use Rattle.std.specs.Prelude.{IfOk}
use Rattle.std.proofs.Common.{sym, subst}
use Rattle.template_tree.specs.declared.change.What.{What}
use Rattle.unparse_layout.specs.Agreement.{IsLayoutOf}
use Rattle.unparse_layout.specs.Bones.{PlainLayout}
use Rattle.unparse_layout.specs.LayoutEdit.{CanPutInPlace, LayoutMend, MayMendAt, layout_after}
use Rattle.unparse_layout.specs.Private.ChangeBefore.{IsBeforeChange}
use Rattle.unparse_layout.proofs.PreparedMends.{before_change, both_hold, prepared_part, ready, ready_as_is}
use Rattle.unparse_layout.proofs.layout.Layout.prepare.Goals as goal

pub returns-clause-after : goal.returns-clause-after
returns-clause-after g c =
    subst (λ path. IsLayoutOf (layout_after record { path = path; mend = LayoutMend.keep } c.args.self.now) c.args.tree.now) (sym c.new.ensures)
    (prepared_part c.args.self.now c.args.change.now.slot.0 c.in-Part.field-0 c.args.tree.now
    (before_change (What.Part c.in-Part.field-0) c.args.change.now c.args.self.now c.args.tree.now c.in-Part.is c.requires.before))

pub returns-clause-ready : goal.returns-clause-ready
returns-clause-ready g c =
    subst (λ path. CanPutInPlace record { path = path; mend = LayoutMend.keep } c.args.self.now) (sym c.new.ensures)
    (ready_as_is c.args.self.now c.args.tree.now c.requires.tree
    (prepared_part c.args.self.now c.args.change.now.slot.0 c.in-Part.field-0 c.args.tree.now
    (before_change (What.Part c.in-Part.field-0) c.args.change.now c.args.self.now c.args.tree.now c.in-Part.is c.requires.before)))

pub putting-requires-clause-before : goal.putting-requires-clause-before
putting-requires-clause-before g c =
    subst (λ (l : PlainLayout). IsBeforeChange What.Node c.args.change.now.slot.0 l c.args.tree.now) (sym c.self.view_is)
    (before_change What.Node c.args.change.now c.args.self.now c.args.tree.now c.in-Node.is c.requires.before)

pub returns-in-Node-clause-after : goal.returns-in-Node-clause-after
returns-in-Node-clause-after g c =
    subst (λ (l : PlainLayout). IfOk c.putting.result (λ edit. IsLayoutOf (layout_after edit l) c.args.tree.now)) c.self.view_is c.putting.ensures.after

pub returns-in-Node-clause-ready : goal.returns-in-Node-clause-ready
returns-in-Node-clause-ready g c =
    subst (λ (l : PlainLayout). IfOk c.putting.result (λ edit. CanPutInPlace edit l)) c.self.view_is
    (both_hold c.putting.result (λ edit. IsLayoutOf (layout_after edit c.self.inside.root.inner) c.args.tree.now)
    (λ edit. MayMendAt edit.mend edit.path c.self.inside.root.inner) (λ edit. CanPutInPlace edit c.self.inside.root.inner)
    (λ edit after there. ready edit c.self.inside.root.inner c.args.tree.now c.requires.tree after there) c.putting.ensures.after c.putting.ensures.there)

pub adding-requires-clause-before : goal.adding-requires-clause-before
adding-requires-clause-before g c =
    subst (λ (l : PlainLayout). IsBeforeChange What.Added c.args.change.now.slot.0 l c.args.tree.now) (sym c.self.view_is)
    (before_change What.Added c.args.change.now c.args.self.now c.args.tree.now c.in-Added.is c.requires.before)

pub returns-in-Added-clause-after : goal.returns-in-Added-clause-after
returns-in-Added-clause-after g c =
    subst (λ (l : PlainLayout). IfOk c.adding.result (λ edit. IsLayoutOf (layout_after edit l) c.args.tree.now)) c.self.view_is c.adding.ensures.after

pub returns-in-Added-clause-ready : goal.returns-in-Added-clause-ready
returns-in-Added-clause-ready g c =
    subst (λ (l : PlainLayout). IfOk c.adding.result (λ edit. CanPutInPlace edit l)) c.self.view_is
    (both_hold c.adding.result (λ edit. IsLayoutOf (layout_after edit c.self.inside.root.inner) c.args.tree.now)
    (λ edit. MayMendAt edit.mend edit.path c.self.inside.root.inner) (λ edit. CanPutInPlace edit c.self.inside.root.inner)
    (λ edit after there. ready edit c.self.inside.root.inner c.args.tree.now c.requires.tree after there) c.adding.ensures.after c.adding.ensures.there)

pub dropping-requires : goal.dropping-requires
dropping-requires g c =
    record {
      tree = c.requires.tree;
      before = (
        c.args.tree.now,
        c.requires.tree,
        subst (λ (l : PlainLayout). IsBeforeChange What.Dropped c.args.change.now.slot.0 l c.args.tree.now) (sym c.self.view_is)
            (before_change What.Dropped c.args.change.now c.args.self.now c.args.tree.now c.in-Dropped.is c.requires.before),
      );
    }

pub returns-in-Dropped-clause-after : goal.returns-in-Dropped-clause-after
returns-in-Dropped-clause-after g c =
    subst (λ (l : PlainLayout). IsLayoutOf (layout_after c.dropping.result l) c.args.tree.now) c.self.view_is
    (c.dropping.ensures.after c.args.tree.now c.requires.tree
    (subst (λ (l : PlainLayout). IsBeforeChange What.Dropped c.args.change.now.slot.0 l c.args.tree.now) (sym c.self.view_is)
    (before_change What.Dropped c.args.change.now c.args.self.now c.args.tree.now c.in-Dropped.is c.requires.before)))

pub returns-in-Dropped-clause-ready : goal.returns-in-Dropped-clause-ready
returns-in-Dropped-clause-ready g c =
    let inner = c.self.inside.root.inner in
    subst (λ (l : PlainLayout). CanPutInPlace c.dropping.result l) c.self.view_is
    (ready c.dropping.result inner c.args.tree.now c.requires.tree
    (c.dropping.ensures.after c.args.tree.now c.requires.tree
    (subst (λ (l : PlainLayout). IsBeforeChange What.Dropped c.args.change.now.slot.0 l c.args.tree.now) (sym c.self.view_is)
    (before_change What.Dropped c.args.change.now c.args.self.now c.args.tree.now c.in-Dropped.is c.requires.before)))
    c.dropping.ensures.there)
