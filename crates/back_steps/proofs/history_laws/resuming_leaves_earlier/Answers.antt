use Rattle.back_steps.proofs.ResumedConfigurations.{resuming_leaves_earlier}
use Rattle.back_steps.proofs.history_laws.resuming_leaves_earlier.Goals as goal

pub returns : goal.returns
returns c = resuming_leaves_earlier
