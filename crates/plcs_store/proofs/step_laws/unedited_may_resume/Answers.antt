use Rattle.plcs_store.proofs.Unedited.{unedited_may_resume}
use Rattle.plcs_store.proofs.step_laws.unedited_may_resume.Goals as goal

pub returns : goal.returns
returns c = unedited_may_resume
