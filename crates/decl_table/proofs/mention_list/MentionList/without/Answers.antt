use Rattle.decl_table.proofs.HandedOut.{handed}
use Rattle.decl_table.proofs.mention_list.MentionList.without.Goals as goal

pub returns : goal.returns
returns c = handed c.add_without.result c.add_without.new.self c.and.result _ c.and.ensures c.add_without.ensures
