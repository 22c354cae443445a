use Rattle.plcs_store.proofs.NewRuns.{new_runs_fit}
use Rattle.plcs_store.proofs.step_laws.new_runs_fit.Goals as goal

pub returns : goal.returns
returns c =
    new_runs_fit c.sites_stand.ensures.found c.sites_stand.ensures.standing c.sites_stand.ensures.others c.slots_stand.ensures.once
