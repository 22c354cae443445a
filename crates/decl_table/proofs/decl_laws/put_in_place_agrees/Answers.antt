use Rattle.std.proofs.Common.{sym, subst, ◌∙◌}
use Rattle.template_tree.specs.Checks.Mention.{AreUses}
use Rattle.template_tree.specs.Checks.ProgramMaps.{ScopeTells}
use Rattle.decl_table.proofs.decl_laws.put_in_place_agrees.Goals as goal

pub returns : goal.returns
returns c = λ edit before now program after put. record {
  items_are = subst (λ items. ScopeTells items program) (sym put.items) after.items_are;
  headings_are = λ name. put.headings name ∙ after.headings_are name;
  uses_are = λ name. subst (AreUses name program) (sym (put.uses name)) (after.uses_are name);
  names_are = put.names ∙ after.names_are;
}
