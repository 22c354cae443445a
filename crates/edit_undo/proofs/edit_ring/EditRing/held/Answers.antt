use Rattle.std.proofs.Common.{subst}
use Rattle.edit_undo.specs.EditLimit.{KeepsEditLimits}
use Rattle.edit_undo.proofs.edit_ring.EditRing.held.Goals as goal

pub returns-clause-limits : goal.returns-clause-limits
returns-clause-limits c = subst KeepsEditLimits c.self.view_is c.self.invariant.limits
