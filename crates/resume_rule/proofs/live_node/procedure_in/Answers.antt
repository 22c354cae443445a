use Rattle.std.specs.Prelude.{refl}
use Rattle.std.proofs.Common.{sym, ◌∙◌}
use Rattle.resume_rule.proofs.FoundSlots.{no_procedure, no_procedure_of_path, procedure_of_path}
use Rattle.resume_rule.proofs.live_node.procedure_in.Goals as goal

pub returns-in_default-clause-found : goal.returns-in_default-clause-found
returns-in_default-clause-found c = sym (no_procedure c.args.slot.0 c.args.tree.now.items (c.in_default.ensures.none.0 refl))

pub returns-then-len-ne1-clause-found : goal.returns-then-len-ne1-clause-found
returns-then-len-ne1-clause-found c =
    sym
    (no_procedure_of_path c.args.tree.now.items c.in-Some.path.items c.args.slot.0 c.in-Some.ensures.path (c.requires.tree.once c.args.slot.0)
    (λ one. c.if-len-ne1.true (c.len.ensures.value ∙ one)))

pub returns-clause-found : goal.returns-clause-found
returns-clause-found c =
    c.node.ensures.found
    ∙ procedure_of_path c.args.tree.now.items c.in-Some.path.items c.args.slot.0 c.in-Some.ensures.path (c.requires.tree.once c.args.slot.0)
    (sym c.len.ensures.value ∙ c.if-len-ne1.false)
