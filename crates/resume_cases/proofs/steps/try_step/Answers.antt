use Rattle.plcs_store.specs.Configuration.{plain_configuration}
use Rattle.resume_cases.proofs.CodeRuns.{has_step, tried}
use Rattle.resume_cases.proofs.steps.try_step.Goals as goal

pub step-requires-clause-defined : goal.step-requires-clause-defined
step-requires-clause-defined c =
    has_step c.args.tree.now c.args.code.now c.args.input.now (plain_configuration c.args.state.now) c.code_steps_as_tree.ensures.defined
    c.requires.tree c.requires.code c.requires.fits

pub returns-in-Ok-clause-tried : goal.returns-in-Ok-clause-tried
returns-in-Ok-clause-tried c =
    tried c.args.tree.now c.args.code.now c.args.input.now (plain_configuration c.args.state.now) (plain_configuration c.step.new.state)
    c.in-Ok.answer c.args.undo.now c.step.new.undo c.code_steps_as_tree.ensures.same c.steps_keep_fit.ensures c.requires.tree c.requires.code
    c.requires.fits c.in-Ok.ensures.answers c.in-Ok.ensures.changes
