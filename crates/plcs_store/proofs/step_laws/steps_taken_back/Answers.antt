use Rattle.plcs_store.proofs.TakenBack.{steps_taken_back}
use Rattle.plcs_store.proofs.step_laws.steps_taken_back.Goals as goal

pub returns : goal.returns
returns c = steps_taken_back
