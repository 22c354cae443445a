use Rattle.plcs_store.specs.Configuration.{plain_configuration}
use Rattle.resume_cases.proofs.SuspendedRuns.{made_stands}
use Rattle.resume_cases.proofs.steps.is_stepped.Goals as goal

pub returns-in-Some-Stepped-clause-stands : goal.returns-in-Some-Stepped-clause-stands
returns-in-Some-Stepped-clause-stands c =
    let old = plain_configuration c.args.suspended.now.run.state in
    let new = plain_configuration c.try_step.new.state in
    made_stands c.args.tree.now c.args.suspended.now
    record { run = record c.args.suspended.now.run { state = c.try_step.new.state }; history = c.note.new.self }
    c.in-Some-Stepped.field-0 c.try_step.new.undo c.requires.stands c.requires.unedited c.requires.unedited c.in-Some-Stepped.ensures.ready
    c.in-Some-Stepped.ensures.tried c.in-Some-Stepped.field-0-is c.states_keep_limits.ensures (c.note.ensures.earlier old new) (c.note.ensures.able old new)
