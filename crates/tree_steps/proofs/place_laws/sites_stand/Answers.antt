use Rattle.tree_steps.proofs.SitedSlots.{others_begin_themselves, runs_begin, sites_stand, standing_slots_have_sites}
use Rattle.tree_steps.proofs.place_laws.sites_stand.Goals as goal

pub returns-clause-found : goal.returns-clause-found
returns-clause-found c = sites_stand

pub returns-clause-standing : goal.returns-clause-standing
returns-clause-standing c = standing_slots_have_sites

pub returns-clause-begins : goal.returns-clause-begins
returns-clause-begins c = runs_begin

pub returns-clause-others : goal.returns-clause-others
returns-clause-others c = others_begin_themselves
