use Rattle.decl_table.proofs.changed_nodes.ChangedNodes.mended.Goals as goal

pub mended_without-uses-requires-clause-went : goal.mended_without-uses-requires-clause-went
mended_without-uses-requires-clause-went c = c.in-Ok.ensures
