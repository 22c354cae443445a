use Rattle.tree_steps.proofs.StandingSlots.{live_slots_stand, procedures_stand_outermost, slots_stand_once, standing_slots_live}
use Rattle.tree_steps.proofs.agreement_laws.slots_stand.Goals as goal

pub returns-clause-live : goal.returns-clause-live
returns-clause-live c = live_slots_stand

pub returns-clause-standing : goal.returns-clause-standing
returns-clause-standing c = standing_slots_live

pub returns-clause-once : goal.returns-clause-once
returns-clause-once c = slots_stand_once

pub returns-clause-procedure : goal.returns-clause-procedure
returns-clause-procedure c = procedures_stand_outermost
