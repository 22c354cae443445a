use Rattle.decl_table.proofs.HandedOut.{handed}
use Rattle.decl_table.proofs.uses.Uses.mended.Goals as goal

pub returns : goal.returns
returns c = handed c.mend_all.result c.mend_all.new.self c.and.result _ c.and.ensures c.mend_all.ensures
