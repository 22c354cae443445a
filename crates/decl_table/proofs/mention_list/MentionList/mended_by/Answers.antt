use Rattle.std.proofs.Common.{sym, subst, ◌∙◌}
use Rattle.plcs_base.specs.declared.place.PhraseAt.{PhraseAt}
use Rattle.std.specs.Prelude.{List}
use Rattle.decl_table.specs.Private.UsesView.{IsWith}
use Rattle.decl_table.proofs.MendedUses.{mended_none, mended_some, nothing}
use Rattle.decl_table.proofs.mention_list.MentionList.mended_by.Goals as goal

pub returns-then-is_empty-2 : goal.returns-then-is_empty-2
returns-then-is_empty-2 c =
    λ went came gone comes.
    mended_none c.args.before.now went came c.args.out.now c.args.more.now c.requires.before gone comes
    (nothing c.args.out.now (sym c.is_empty.ensures ∙ c.if-is_empty.true))
    (nothing c.args.more.now (sym c.is_empty-then-is_empty.ensures ∙ c.if-is_empty-2.true))

pub returns-in-Ok-places : goal.returns-in-Ok-places
returns-in-Ok-places c =
    λ went came gone comes.
    mended_some c.args.before.now went came c.args.out.now c.args.more.now c.in-Ok.rest c.in-Ok-places.places gone comes c.in-Ok.ensures
    (subst (λ (rest : List PhraseAt). IsWith rest c.args.more.now c.in-Ok-places.places) c.as_slice.ensures c.in-Ok-places.ensures)
