use Rattle.std.proofs.Common.{ap, sym, ◌∙◌, subst}
use Rattle.decl_table.specs.DeclEdit.{MayMendNames, PlainNameEdit}
use Rattle.decl_table.specs.Private.NameMendView.{plain_mend, with_mend}
use Rattle.decl_table.proofs.MendedNameLists.{empty}
use Rattle.decl_table.proofs.name_node.NameNode.put_in_place.Goals as goal

pub unreachable-requires : goal.unreachable-requires
unreachable-requires c =
    let way = sym c.deref.ensures.0 ∙ empty c.deref.result.now c.in_default.ensures.cases in
    let may = subst (λ (edit : PlainNameEdit). MayMendNames edit.mend edit.path c.args.self.now.inner) (sym c.edit.view_is) c.requires.there in
    subst (λ path. MayMendNames (plain_mend c.edit.inside.mend) path c.args.self.now.inner) way may

pub mend_at-requires : goal.mend_at-requires
mend_at-requires c =
    let way = sym c.deref.ensures.0 ∙ c.in-Some.ensures.cases.0 in
    let may = subst (λ (edit : PlainNameEdit). MayMendNames edit.mend edit.path c.args.self.now.inner) (sym c.edit.view_is) c.requires.there in
    record { there = subst (λ path. MayMendNames (plain_mend c.edit.inside.mend) path c.args.self.now.inner) way may }

pub returns : goal.returns
returns c =
    let way = sym c.deref.ensures.0 ∙ c.in-Some.ensures.cases.0 in
    c.mend_at.ensures
    ∙ sym (ap (λ path. with_mend (plain_mend c.edit.inside.mend) path c.args.self.now) way)
    ∙ ap (λ (edit : PlainNameEdit). with_mend edit.mend edit.path c.args.self.now) c.edit.view_is
