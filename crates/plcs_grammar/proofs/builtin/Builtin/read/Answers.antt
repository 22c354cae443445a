use Rattle.std.proofs.Common.{◌∙◌}
use Rattle.plcs_grammar.proofs.BuiltinNames.{builtin_of_length}
use Rattle.plcs_grammar.proofs.builtin.Builtin.read.Goals as goal

pub returns-in-3 : goal.returns-in-3
returns-in-3 c = c.named.ensures ∙ builtin_of_length c.args.name.now 3 c.in-3.is

pub returns-in-5 : goal.returns-in-5
returns-in-5 c = c.named-in-5.ensures ∙ builtin_of_length c.args.name.now 5 c.in-5.is

pub returns-in-6 : goal.returns-in-6
returns-in-6 c = c.named-in-6.ensures ∙ builtin_of_length c.args.name.now 6 c.in-6.is
