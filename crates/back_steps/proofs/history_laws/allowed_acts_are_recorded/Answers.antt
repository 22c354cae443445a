use Rattle.back_steps.proofs.RecordedActs.{allowed_acts_are_recorded}
use Rattle.back_steps.proofs.history_laws.allowed_acts_are_recorded.Goals as goal

pub returns : goal.returns
returns c = allowed_acts_are_recorded
