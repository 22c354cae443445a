use Rattle.suspend_state.proofs.KeptFrames.{fitting_runs_are_kept}
use Rattle.suspend_state.proofs.suspension_law.fitting_runs_are_kept.Goals as goal

pub returns : goal.returns
returns c = fitting_runs_are_kept
