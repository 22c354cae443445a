use Rattle.synth_top.proofs.ClapWalk.{strings_are_texts}
use Rattle.synth_top.proofs.ClapWords.{clap_reads_found, clap_refuses_kinds}
use Rattle.synth_top.proofs.command.read_by.Goals as goal

-- clap took the words
pub returns-in-Ok-clause-given : goal.returns-in-Ok-clause-given
returns-in-Ok-clause-given c =
    clap_reads_found _ _ (strings_are_texts c.args.words.now) _ _ c.requires c.in-Ok.ensures.kinds c.in-Ok.ensures.matches c.given_by.ensures

-- clap refused them
pub returns-in-Err-clause-bad : goal.returns-in-Err-clause-bad
returns-in-Err-clause-bad c =
    clap_refuses_kinds _ _ (strings_are_texts c.args.words.now) _ c.in-Err.error c.requires c.in-Err.ensures.kinds c.status_of.ensures
