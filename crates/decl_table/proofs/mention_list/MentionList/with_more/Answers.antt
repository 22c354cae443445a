use Rattle.decl_table.proofs.HandedOut.{handed}
use Rattle.decl_table.proofs.mention_list.MentionList.with_more.Goals as goal

pub returns : goal.returns
returns c = handed c.add_with.result c.add_with.new.self c.and.result _ c.and.ensures c.add_with.ensures
