use Rattle.std.proofs.Common.{sym, ◌∙◌}
use Rattle.session_words.proofs.CommandRows.{template_found, other_found}
use Rattle.session_words.proofs.command_table.argument_rule_of.Goals as goal

pub returns-in-Some : goal.returns-in-Some
returns-in-Some c = template_found c.args.word.now c.in-Some.template (sym c.read.ensures ∙ c.in-Some.is)

pub returns-in-None : goal.returns-in-None
returns-in-None c = c.other_argument_rule_of.ensures ∙ other_found c.args.word.now (sym c.read.ensures ∙ c.in-None.is)
