use Rattle.plcs_store.proofs.FittingSteps.Written.{output_kept}
use Rattle.plcs_store.proofs.step_laws.written_stands.Goals as goal

pub returns : goal.returns
returns c = output_kept
