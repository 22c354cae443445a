use Rattle.std.specs.Prelude.{◌≤◌}
use Rattle.std.proofs.Common.{ap, sym, ◌∙◌, subst}
use Rattle.template_tree.specs.Programs.Limit.{most_slots}
use Rattle.unparse_layout.specs.Bones.{PlainLayout, bone_count}
use Rattle.unparse_layout.specs.LayoutEdit.{CanPutInPlace, MayMendAt, PlainLayoutEdit, layout_mended_at, layout_after}
use Rattle.unparse_layout.specs.Private.LayoutEditView.{plain_mend}
use Rattle.unparse_layout.specs.Private.PlainNodeLayout.{PlainNodeLayout}
use Rattle.unparse_layout.proofs.MendedLists.{empty}
use Rattle.unparse_layout.proofs.layout.Layout.commit.Goals as goal

pub returns-in_default : goal.returns-in_default
returns-in_default g c =
    let way = sym c.deref.ensures.0 ∙ empty c.deref.result.now c.in_default.ensures.cases in
    sym (ap (λ path. layout_mended_at (plain_mend c.edit.inside.mend) path c.args.self.now) way)
    ∙ ap (λ (edit : PlainLayoutEdit). layout_after edit c.args.self.now) c.edit.view_is

pub mend_at-requires-clause-there : goal.mend_at-requires-clause-there
mend_at-requires-clause-there g c =
    let way = sym c.deref.ensures.0 ∙ c.in-Some.ensures.cases.0 in
    let is : CanPutInPlace record { path = c.edit.inside.path.items; mend = plain_mend c.edit.inside.mend } c.self.inside.root.inner =
    subst (λ (l : PlainLayout). CanPutInPlace record { path = c.edit.inside.path.items; mend = plain_mend c.edit.inside.mend } l) (sym c.self.view_is)
    (subst (λ (edit : PlainLayoutEdit). CanPutInPlace edit c.args.self.now) (sym c.edit.view_is) c.requires.ready) in
    subst (λ path. MayMendAt (plain_mend c.edit.inside.mend) path c.self.inside.root.inner) way is.there

pub mend_at-requires-clause-few : goal.mend_at-requires-clause-few
mend_at-requires-clause-few g c =
    let way = sym c.deref.ensures.0 ∙ c.in-Some.ensures.cases.0 in
    let is : CanPutInPlace record { path = c.edit.inside.path.items; mend = plain_mend c.edit.inside.mend } c.self.inside.root.inner =
    subst (λ (l : PlainLayout). CanPutInPlace record { path = c.edit.inside.path.items; mend = plain_mend c.edit.inside.mend } l) (sym c.self.view_is)
    (subst (λ (edit : PlainLayoutEdit). CanPutInPlace edit c.args.self.now) (sym c.edit.view_is) c.requires.ready) in
    subst (λ path. bone_count (layout_mended_at (plain_mend c.edit.inside.mend) path c.self.inside.root.inner) ≤ most_slots) way is.few

pub returns : goal.returns
returns g c =
    let way = sym c.deref.ensures.0 ∙ c.in-Some.ensures.cases.0 in
    ap (λ (o : PlainNodeLayout). o.inner) c.mend_at.ensures
    ∙ sym (ap (λ path. layout_mended_at (plain_mend c.edit.inside.mend) path c.self.inside.root.inner) way)
    ∙ ap (layout_mended_at (plain_mend c.edit.inside.mend) c.edit.inside.path.items) c.self.view_is
    ∙ ap (λ (edit : PlainLayoutEdit). layout_after edit c.args.self.now) c.edit.view_is
