use Rattle.std.proofs.Common.{◌∙◌}
use Rattle.plcs_base.proofs.Words.{keyword_of_length}
use Rattle.plcs_base.proofs.name.is_keyword.Goals as goal

pub returns-in-2 : goal.returns-in-2
returns-in-2 c = c.is_one_of.ensures ∙ keyword_of_length c.args.bytes.now 2 c.in-2.is

pub returns-in-3 : goal.returns-in-3
returns-in-3 c = c.is_one_of-in-3.ensures ∙ keyword_of_length c.args.bytes.now 3 c.in-3.is

pub returns-in-4 : goal.returns-in-4
returns-in-4 c = c.is_one_of-in-4.ensures ∙ keyword_of_length c.args.bytes.now 4 c.in-4.is

pub returns-in-5 : goal.returns-in-5
returns-in-5 c = c.is_one_of-in-5.ensures ∙ keyword_of_length c.args.bytes.now 5 c.in-5.is

pub returns-in-6 : goal.returns-in-6
returns-in-6 c = c.is_one_of-in-6.ensures ∙ keyword_of_length c.args.bytes.now 6 c.in-6.is

pub returns-in-7 : goal.returns-in-7
returns-in-7 c = c.is_one_of-in-7.ensures ∙ keyword_of_length c.args.bytes.now 7 c.in-7.is

pub returns-in-9 : goal.returns-in-9
returns-in-9 c = c.is_one_of-in-9.ensures ∙ keyword_of_length c.args.bytes.now 9 c.in-9.is
