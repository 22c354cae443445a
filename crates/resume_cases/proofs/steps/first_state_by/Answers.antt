use Rattle.plcs_store.specs.Configuration.{plain_configuration}
use Rattle.resume_cases.proofs.CodeRuns.{begun_fits}
use Rattle.resume_cases.proofs.steps.first_state_by.Goals as goal

pub returns-in-Ok-clause-fits : goal.returns-in-Ok-clause-fits
returns-in-Ok-clause-fits c =
    begun_fits c.args.tree.now c.args.code.now (plain_configuration c.in-Ok.state) c.code_begins_as_tree.ensures c.new_runs_fit.ensures c.requires.tree
    c.requires.code c.in-Ok.ensures.began

pub returns-in-Ok-clause-ready : goal.returns-in-Ok-clause-ready
returns-in-Ok-clause-ready c = record { values = c.in-Ok.ensures.ready.0; arguments = c.in-Ok.ensures.ready.1 }
