use Rattle.program_cases.proofs.program.turn.Goals as goal

pub elided-requires-clause-before : goal.elided-requires-clause-before
elided-requires-clause-before c = record { before = c.args.tree.now; turned = c.elide-hidden.ensures.changed; agrees = c.requires.agrees }
