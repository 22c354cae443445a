use Rattle.program_cases.proofs.mending.edit_and_mend.Goals as goal

pub prepare-requires-clause-before : goal.prepare-requires-clause-before
prepare-requires-clause-before c = (c.args.tree.now, c.requires.tree, c.requires.agrees, c.in-Ok.ensures.edited)
