use Rattle.decl_table.proofs.OneDue.{due_is_one}
use Rattle.decl_table.proofs.decl_laws.due_is_one.Goals as goal

pub returns : goal.returns
returns c = due_is_one
