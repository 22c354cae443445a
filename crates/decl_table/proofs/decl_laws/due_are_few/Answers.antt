use Rattle.decl_table.proofs.FewDue.{due_are_few}
use Rattle.decl_table.proofs.decl_laws.due_are_few.Goals as goal

pub returns : goal.returns
returns c = due_are_few
