use Rattle.run_cases.proofs.RunsOfPrograms.{begun}
use Rattle.run_cases.proofs.run.new_state.Goals as goal

pub returns-in-Ok : goal.returns-in-Ok
returns-in-Ok c =
    begun c.args.code.now c.in-Ok.state c.code_begins_as_tree.ensures c.new_runs_fit.ensures c.requires c.in-Ok.ensures.began c.in-Ok.ensures.ready
