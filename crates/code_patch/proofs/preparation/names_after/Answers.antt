use Rattle.std.proofs.Common.{sym, ◌∙◌}
use Rattle.code_patch.proofs.preparation.names_after.Goals as goal

pub returns-then-not-leads_to_item-clause-none : goal.returns-then-not-leads_to_item-clause-none
returns-then-not-leads_to_item-clause-none c = sym c.leads_to_item.ensures ∙ c.if-not-leads_to_item.true
