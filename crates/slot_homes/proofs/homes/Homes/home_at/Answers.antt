use Rattle.std.proofs.Common.{◌∙◌, ap, arith, sym}
use Rattle.slot_homes.specs.Said.{home_for}
use Rattle.slot_homes.proofs.SaidHomes.{other_home, own_home}
use Rattle.slot_homes.proofs.homes.Homes.home_at.Goals as goal

pub returns-in_default : goal.returns-in_default
returns-in_default c = ap (home_for c.args.slot.0) c.in_default.ensures

pub returns-then-entry-slot : goal.returns-then-entry-slot
returns-then-entry-slot c =
    sym (other_home c.args.slot.0 c.in-Some.entry (λ same. c.if-entry-slot.true same)) ∙ ap (home_for c.args.slot.0) c.in-Some.ensures

pub returns : goal.returns
returns c =
    sym (own_home c.args.slot.0 c.in-Some.entry (omega (arith, c.if-entry-slot.false))) ∙ ap (home_for c.args.slot.0) c.in-Some.ensures
