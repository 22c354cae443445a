use Rattle.std.proofs.Common.{subst, sym}
use Rattle.plcs_base.specs.declared.place.PhraseAt.{PhraseAt}
use Rattle.std.specs.Prelude.{List}
use Rattle.decl_table.specs.Private.UsesView.{IsWithout}
use Rattle.decl_table.proofs.mention_list.MentionList.mended.Goals as goal

pub mended_without-mended-requires-clause-out : goal.mended_without-mended-requires-clause-out
mended_without-mended-requires-clause-out c =
    subst (λ (out : List PhraseAt). IsWithout c.args.went.now c.args.came.now out) (sym c.as_slice.ensures) c.in-Ok.ensures
