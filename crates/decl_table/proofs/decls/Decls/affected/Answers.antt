use Rattle.decl_table.proofs.HandedOut.{handed}
use Rattle.decl_table.proofs.decls.Decls.affected.Goals as goal

pub returns : goal.returns
returns c = handed c.add_affected.result c.add_affected.new.names c.and.result _ c.and.ensures c.add_affected.ensures
