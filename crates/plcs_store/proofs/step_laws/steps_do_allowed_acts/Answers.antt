use Rattle.plcs_store.proofs.FittingSteps.FittingRuns.{steps_do_allowed_acts, steps_of_runs_taken_back}
use Rattle.plcs_store.proofs.step_laws.steps_do_allowed_acts.Goals as goal

pub returns : goal.returns
returns c =
    record {
      acts = steps_do_allowed_acts c.sites_stand.ensures.found c.sites_stand.ensures.standing c.sites_stand.ensures.begins c.slots_stand.ensures.once;
      back = steps_of_runs_taken_back c.sites_stand.ensures.found c.sites_stand.ensures.standing c.sites_stand.ensures.begins c.slots_stand.ensures.once;
    }
