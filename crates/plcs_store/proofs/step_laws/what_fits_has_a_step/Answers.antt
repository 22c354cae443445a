use Rattle.plcs_store.proofs.FittingSteps.FittingRuns.{what_fits_has_a_step}
use Rattle.plcs_store.proofs.step_laws.what_fits_has_a_step.Goals as goal

pub returns : goal.returns
returns c =
    what_fits_has_a_step c.sites_stand.ensures.found c.sites_stand.ensures.standing c.sites_stand.ensures.begins c.slots_stand.ensures.once
