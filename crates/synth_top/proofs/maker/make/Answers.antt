-- Where all keys were pressed the summary was written, or cut short, and that is the summary of the session then; where
-- they weren't, nothing was written.
use Rattle.synth_session.specs.SessionView.{plain_session}
use Rattle.synth_top.proofs.Makings.{summary_caused, summary_written, unfailed, unwritten}
use Rattle.synth_top.proofs.maker.make.Goals as goal

-- memory ran out at a key, or before the first
pub returns-in_default-clause-made : goal.returns-in_default-clause-made
returns-in_default-clause-made g c = unwritten c.args.number _ _ _ _ c.in_default.ensures.part

pub returns-in_default-clause-cause : goal.returns-in_default-clause-cause
returns-in_default-clause-cause g c = unfailed _

-- the session of the maker is one
pub write_summary-written-requires : goal.write_summary-written-requires
write_summary-written-requires g c = c.in-Ok.ensures.ready.session

-- all keys were pressed
pub returns-clause-made : goal.returns-clause-made
returns-clause-made g c =
    summary_written c.args.number (plain_session c.in-Ok.maker.session) _ _ _ _ _ _ _ _ c.in-Ok.ensures.made
    c.write_summary-written.result c.written_as.result c.written_as.ensures c.write_summary-written.ensures

pub returns-clause-cause : goal.returns-clause-cause
returns-clause-cause g c =
    summary_caused c.write_summary-written.result c.written_as.result _ _ c.written_as.ensures c.write_summary-written.ensures.cause
