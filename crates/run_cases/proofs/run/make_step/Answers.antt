use Rattle.plcs_store.specs.Configuration.{plain_configuration}
use Rattle.run_cases.proofs.RunsOfPrograms.{has_step, one_step, stands_after}
use Rattle.run_cases.proofs.run.make_step.Goals as goal

pub step-requires-clause-defined : goal.step-requires-clause-defined
step-requires-clause-defined c =
    has_step c.args.code.now c.args.input.now (plain_configuration c.args.run.now.state) c.code_steps_as_tree.ensures.defined c.requires.stands.run

pub returns-in-Ok-Stepped-clause-stands : goal.returns-in-Ok-Stepped-clause-stands
returns-in-Ok-Stepped-clause-stands c =
    stands_after c.args.code.now c.args.input.now c.args.run.now.state c.step.new.state c.in-Ok-Stepped.field-0 c.new-undo.result c.step.new.undo
    c.code_steps_as_tree.ensures.same c.steps_keep_fit.ensures c.requires.stands c.in-Ok-Stepped.ensures.answers c.in-Ok-Stepped.ensures.changes
    c.in-Ok-Stepped.ensures.ready

pub returns-in-Ok-Stepped-clause-steps : goal.returns-in-Ok-Stepped-clause-steps
returns-in-Ok-Stepped-clause-steps c =
    one_step c.args.code.now c.note.new.self c.clear.new.self c.args.run.now.state c.step.new.state c.in-Ok-Stepped.field-0 c.new-undo.result
    c.step.new.undo c.clear.ensures c.note.ensures.records c.in-Ok-Stepped.field-0-is c.in-Ok-Stepped.ensures.changes
    c.states_keep_limits.ensures c.requires.stands
