use Rattle.plcs_store.proofs.KeptFit.StepsKept.{steps_keep_fit}
use Rattle.plcs_store.proofs.step_laws.steps_keep_fit.Goals as goal

pub returns : goal.returns
returns c =
    steps_keep_fit
    record {
      found = c.sites_stand.ensures.found;
      standing = c.sites_stand.ensures.standing;
      others = c.sites_stand.ensures.others;
      once = c.slots_stand.ensures.once;
    }
