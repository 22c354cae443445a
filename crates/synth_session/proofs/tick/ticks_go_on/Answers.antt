use Rattle.synth_session.proofs.ShownTicks.{shown_ticks_go_on, ticks_keep}
use Rattle.synth_session.proofs.tick.ticks_go_on.Goals as goal

pub returns : goal.returns
returns c = record { kept = ticks_keep; shown = shown_ticks_go_on }
