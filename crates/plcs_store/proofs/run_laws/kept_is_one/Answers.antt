use Rattle.plcs_store.proofs.KeptPrograms.{kept_is_one}
use Rattle.plcs_store.proofs.run_laws.kept_is_one.Goals as goal

pub returns : goal.returns
returns c = kept_is_one
