use Rattle.std.proofs.Common.{◌∙◌, sym}
use Rattle.type_marks.proofs.ListedVerdicts.{kept_offence, made_lists}
use Rattle.type_marks.proofs.list_checks.ListChecks.offence.Goals as goal

pub returns-in-Some-get-clause-offence : goal.returns-in-Some-get-clause-offence
returns-in-Some-get-clause-offence c =
    c.offence.ensures
    ∙ kept_offence c.args.tree.now c.args.path.now.items c.in-Some.procedure.now c.slot-slot.result.0 c.args.k c.requires.tree c.in-Some.ensures.item
    c.slot-slot.ensures c.args.self.now.procedures.entries c.in-Some-get.offences.now c.requires.lists (sym c.in-Some-get.ensures.value)

pub returns-clause-lists : goal.returns-clause-lists
returns-clause-lists c =
    made_lists c.args.tree.now c.args.path.now.items c.in-Some.procedure.now c.slot-slot.result.0 c.args.k c.requires.tree c.in-Some.ensures.item
    c.slot-slot.ensures c.args.self.now.procedures.entries c.insert.new.self.entries c.in_ok-offences.offences c.in_ok-offences.ensures c.requires.lists
    (λ q. c.in_ok-insert.ensures.updates.0 q)
