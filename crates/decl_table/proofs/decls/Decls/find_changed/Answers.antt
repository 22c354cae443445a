-- The uses that are mended are those of the table, which are in order.
use Rattle.std.proofs.Common.{sym, subst}
use Rattle.decl_table.specs.PlainDecls.{PlainDecls}
use Rattle.decl_table.specs.Private.UsesView.{AreOrdered}
use Rattle.decl_table.proofs.decls.Decls.find_changed.Goals as goal

pub mended-requires-clause-ordered : goal.mended-requires-clause-ordered
mended-requires-clause-ordered c = subst (λ (d : PlainDecls). AreOrdered d.uses) (sym c.self.view_is) c.requires.ordered
