use Rattle.std.proofs.Common.{drop}
use Rattle.decl_table.proofs.AddedUses.{Leaves, of_names}
use Rattle.decl_table.proofs.uses.Uses.note_names.Given as goal

abbrev pub invariant-loop-name : goal.invariant-loop-name
invariant-loop-name l = Leaves (of_names (drop l.name-index l.names) l.at) (of_names l.names l.at) l.fn.self.uses l.self.uses
