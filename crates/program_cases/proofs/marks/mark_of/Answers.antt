use Rattle.program_cases.proofs.KnownPhrases.{knows}
use Rattle.program_cases.proofs.marks.mark_of.Goals as goal

pub check_phrase-requires-clause-known : goal.check_phrase-requires-clause-known
check_phrase-requires-clause-known c = λ procedure phrase stands. knows c.args.decls.now c.args.tree.now.items c.requires.decls procedure phrase
