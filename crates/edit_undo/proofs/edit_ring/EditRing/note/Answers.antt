use Rattle.std.proofs.Common.{sym, ◌∙◌}
use Rattle.edit_undo.proofs.LatestEdits.{over_gone}
use Rattle.edit_undo.proofs.TreesBefore.{kept_before, kept_fit}
use Rattle.edit_undo.proofs.edit_ring.EditRing.note.Goals as goal

-- the edit alone is over the limit

pub returns-in_default-clause-edits : goal.returns-in_default-clause-edits
returns-in_default-clause-edits c = c.clear.ensures ∙ over_gone c.args.edit c.args.self.now c.in_default.ensures.over

pub returns-in_default-clause-earlier : goal.returns-in_default-clause-earlier
returns-in_default-clause-earlier c =
    kept_before c.args.edit c.args.self.now c.clear.new.self (returns-in_default-clause-edits c)

pub returns-in_default-clause-fits : goal.returns-in_default-clause-fits
returns-in_default-clause-fits c = kept_fit c.args.edit c.args.self.now c.clear.new.self (returns-in_default-clause-edits c)

-- it is kept, and the oldest of the others are dropped

pub returns-clause-edits : goal.returns-clause-edits
returns-clause-edits c = c.put_newest.ensures ∙ c.make_room.ensures.dropped c.args.edit (sym c.in-Some.ensures.within.0)

pub returns-clause-earlier : goal.returns-clause-earlier
returns-clause-earlier c = kept_before c.args.edit c.args.self.now c.put_newest.new.self (returns-clause-edits c)

pub returns-clause-fits : goal.returns-clause-fits
returns-clause-fits c = kept_fit c.args.edit c.args.self.now c.put_newest.new.self (returns-clause-edits c)
