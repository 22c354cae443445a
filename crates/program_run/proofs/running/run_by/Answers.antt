use Rattle.std.proofs.lemmas.Result.{IfOk-weaker}
use Rattle.plcs_store.specs.Configuration.{plain_configuration}
use Rattle.program_run.proofs.FetchedRuns.{run_reaches}
use Rattle.program_run.proofs.running.run_by.Goals as goal

pub returns : goal.returns
returns g c =
    let counts = g.W.Work.counts in
    IfOk-weaker c.run_code.result _ _
    (λ made steps. run_reaches c.args.tree.now.items c.args.input.now c.args.steps made.ending (plain_configuration made.state)
    (counts c.args.work.now) (counts c.new.new.work) (counts c.code_of.new.work) (counts c.run_code.new.work) c.new.ensures.counts
    c.in_ok-code.ensures.counted steps)
    c.run_code.ensures
