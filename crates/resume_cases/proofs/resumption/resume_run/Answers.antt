use Rattle.std.specs.Prelude.{refl}
use Rattle.std.specs.Result.{result_err}
use Rattle.std.proofs.Common.{ap}
use Rattle.resume_cases.proofs.SuspendedRuns.{resumed_stands, same_room}
use Rattle.resume_cases.proofs.resumption.resume_run.Goals as goal

pub returns-in-Ok : goal.returns-in-Ok
returns-in-Ok c =
    resumed_stands c.args.tree.now c.args.suspended.now record { run = c.resumed.new.self; history = c.args.suspended.now.history }
    (result_err c.in_ok-answer_of.field-0) c.resumed_runs_fit.ensures.edited c.fitting_runs_are_resolved.ensures c.requires.tree
    c.requires.stands c.in_ok-answer_of.ensures (ap (λ answer. result_err answer) c.in-Ok.is) c.resumed.ensures.dropped
    (same_room c.args.suspended.now.run.state c.resumed.new.self.state c.resumed.ensures.operands c.requires.stands.ready) refl
    c.resumed.ensures.goes_on
