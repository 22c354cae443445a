use Rattle.plcs_store.proofs.ItemLimits.{items_keep_limits}
use Rattle.plcs_store.proofs.step_laws.items_keep_limits.Goals as goal

pub returns : goal.returns
returns c = items_keep_limits
