use Rattle.program_run.proofs.ClapWords.{clap_reads, clap_refuses}
use Rattle.program_run.proofs.command.read_by.Goals as goal

-- clap took the words
pub returns-in-Ok-clause-given : goal.returns-in-Ok-clause-given
returns-in-Ok-clause-given c =
    clap_reads _ _ _ _ c.requires c.in-Ok.ensures.kinds c.in-Ok.ensures.matches c.given_by.ensures

-- clap refused them
pub returns-in-Err-clause-bad : goal.returns-in-Err-clause-bad
returns-in-Err-clause-bad c =
    clap_refuses _ _ _ c.in-Err.error c.requires c.in-Err.ensures.kinds c.ending_of.ensures
