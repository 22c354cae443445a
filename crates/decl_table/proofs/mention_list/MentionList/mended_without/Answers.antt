use Rattle.std.proofs.Common.{subst, sym}
use Rattle.plcs_base.specs.Mark.{phrase_cmp}
use Rattle.plcs_base.specs.declared.place.PhraseAt.{PhraseAt}
use Rattle.std.specs.Prelude.{List}
use Rattle.std.specs.List.Sorted.{IsStrictlySortedBy}
use Rattle.decl_table.specs.Private.UsesView.{IsWithout}
use Rattle.decl_table.proofs.mention_list.MentionList.mended_without.Goals as goal

pub mended_by-mended-requires-clause-out : goal.mended_by-mended-requires-clause-out
mended_by-mended-requires-clause-out c = c.requires.out.increasing

pub mended_by-mended-requires-clause-more : goal.mended_by-mended-requires-clause-more
mended_by-mended-requires-clause-more c =
    subst (λ (more : List PhraseAt). IsStrictlySortedBy phrase_cmp more) (sym c.as_slice.ensures) c.in-Ok.ensures.increasing

pub returns : goal.returns
returns c =
    c.mended_by-mended.ensures c.args.went.now c.args.came.now c.requires.out
    (subst (λ (more : List PhraseAt). IsWithout c.args.came.now c.args.went.now more) (sym c.as_slice.ensures) c.in-Ok.ensures)
