use Rattle.plcs_store.proofs.FittingSteps.FittingRuns.{callers_wait}
use Rattle.plcs_store.proofs.FewCells.{cells_few}
use Rattle.plcs_store.proofs.LoopRoom.{loops_have_room}
use Rattle.plcs_store.proofs.step_laws.callers_wait.Goals as goal

pub returns : goal.returns
returns c =
    record {
      wait = callers_wait c.sites_stand.ensures.found c.sites_stand.ensures.standing c.sites_stand.ensures.begins c.slots_stand.ensures.once;
      loops = loops_have_room;
      cells = cells_few;
    }
