use Rattle.std.proofs.Common.{drop}
use Rattle.decl_table.proofs.NotedHeadings.{LeavesNames}
use Rattle.decl_table.proofs.heading_changes.HeadingChanges.note_names.Given as goal

abbrev pub invariant-loop-name : goal.invariant-loop-name
invariant-loop-name l = LeavesNames l.tree.items (drop l.name-index l.names) l.names l.fn.self l.self
