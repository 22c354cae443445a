use Rattle.std.proofs.Common.{◌≡◌, [], Some, IfOk, OnOk, Ok, Err, subst}
use Rattle.plcs_code.specs.Gen.{PlainCode}
use Rattle.plcs_machine.specs.Enter.{Enter}
use Rattle.plcs_machine.specs.Fetched.{FetchesBy, fetches_of, result_of}
use Rattle.plcs_store.specs.Configuration.{plain_configuration}
use Rattle.program_run.specs.Private.SteppedRun.{HasBegun}
use Rattle.program_run.proofs.SteppedRuns.{begins, begun}
use Rattle.program_run.proofs.running.first_state.Goals as goal

pub start-requires : goal.start-requires
start-requires g c =
    record { begins = begins c.args.tree.now c.args.code.now c.code_begins_as_tree.ensures c.requires.tree c.requires.code }

pub returns-clause-begun : goal.returns-clause-begun
returns-clause-begun g c =
    let tree = c.args.tree.now in
    let code = c.args.code.now in
    elim c.start.result as (λ r. IfOk r (λ state. result_of (Enter code) ≡ Some (plain_configuration state))
    → IfOk r (λ state. (state.operands.values ≡ []) × (state.operands.arguments ≡ [])) → IfOk r (λ state. HasBegun tree state)) [
      | Ok state ↦ λ began ready. begun tree code state c.code_begins_as_tree.ensures c.new_runs_fit.ensures c.requires.tree c.requires.code began ready
      | Err wanted ↦ λ began ready. tt
    ] c.start.ensures.began c.start.ensures.ready

pub returns-clause-counted : goal.returns-clause-counted
returns-clause-counted g c =
    subst (λ (code : PlainCode). OnOk c.start.result (FetchesBy (fetches_of (Enter code))
    (g.W.Work.counts c.args.work.now) (g.W.Work.counts c.start.new.work)))
    c.requires.code.own c.start.ensures.counted
