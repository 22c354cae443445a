use Rattle.std.proofs.Common.{◌≡◌, Some, IfOk, OnErr, OnOk, Ok, Err, subst}
use Rattle.std.proofs.lemmas.Result.{IfOk-weaker, on_err_weaker}
use Rattle.plcs_code.specs.Gen.{PlainCode}
use Rattle.plcs_machine.specs.Exec.{Exec}
use Rattle.plcs_machine.specs.Fetched.{FetchesAtMost, FetchesBy, fetches_of, result_of}
use Rattle.plcs_machine.specs.StepMade.{NothingChanges, StepChanges, step_answered}
use Rattle.plcs_store.specs.Configuration.{plain_configuration}
use Rattle.program_run.specs.Private.SteppedRun.{RunStands}
use Rattle.program_run.proofs.SteppedRuns.{calls_in_step, has_step, stands_after, stands_kept, steps_as_tree}
use Rattle.program_run.proofs.running.make_step.Goals as goal

-- A step of the machine on the program's code is a step of its tree: so what the machine answers, changes and counts is
-- what the tree's step says, and where it breaks off for want of memory the run stands as it did.

pub step-requires-clause-defined : goal.step-requires-clause-defined
step-requires-clause-defined g c =
    has_step c.args.tree.now c.args.code.now c.args.input.now (plain_configuration c.args.state.now) c.code_steps_as_tree.ensures.defined c.requires.tree
    c.requires.code c.requires.stands.fits

pub returns-clause-answers : goal.returns-clause-answers
returns-clause-answers g c =
    IfOk-weaker c.step.result _ _
    (λ answer result. steps_as_tree c.args.tree.now c.args.code.now c.args.input.now (plain_configuration c.args.state.now)
    (step_answered answer (plain_configuration c.step.new.state)) c.code_steps_as_tree.ensures.same c.requires.tree c.requires.code
    c.requires.stands.fits result)
    c.step.ensures.answers

pub returns-clause-stands : goal.returns-clause-stands
returns-clause-stands g c =
    let tree = c.args.tree.now in
    let input = c.args.input.now in
    let old = c.args.state.now in
    let new = c.step.new.state in
    let noted = c.args.undo.now in
    let notes = c.step.new.undo in
    elim c.step.result as (λ r. IfOk r (λ answer. result_of (Exec c.args.code.now input (plain_configuration old)) ≡ Some (step_answered answer (plain_configuration new)))
    → IfOk r (λ answer. StepChanges answer (plain_configuration old) (plain_configuration new) noted notes)
    → OnErr r (NothingChanges (plain_configuration old) (plain_configuration new) noted notes) → RunStands tree new) [
      | Ok answer ↦ λ result changes refused.
          stands_after tree input old new answer noted notes c.steps_keep_fit.ensures c.requires.tree c.requires.stands
          (steps_as_tree tree c.args.code.now input (plain_configuration old) (step_answered answer (plain_configuration new)) c.code_steps_as_tree.ensures.same
          c.requires.tree c.requires.code c.requires.stands.fits result)
          changes c.step.ensures.ready
      | Err wanted ↦ λ result changes refused. stands_kept tree old new c.requires.stands refused.0 c.step.ensures.ready
    ] c.step.ensures.answers c.step.ensures.changes c.step.ensures.refused

pub returns-clause-counted : goal.returns-clause-counted
returns-clause-counted g c =
    subst (λ (code : PlainCode). OnOk c.step.result (FetchesBy (fetches_of (Exec code c.args.input.now (plain_configuration c.args.state.now)))
    (g.W.Work.counts c.args.work.now) (g.W.Work.counts c.step.new.work)))
    c.requires.code.own c.step.ensures.counted

pub returns-clause-counts : goal.returns-clause-counts
returns-clause-counts g c =
    subst (λ (code : PlainCode). FetchesAtMost (fetches_of (Exec code c.args.input.now (plain_configuration c.args.state.now)))
    (g.W.Work.counts c.args.work.now) (g.W.Work.counts c.step.new.work))
    c.requires.code.own c.step.ensures.counts

pub returns-clause-calls : goal.returns-clause-calls
returns-clause-calls g c =
    on_err_weaker c.step.result
    (calls_in_step c.args.tree.now c.args.code.now c.args.input.now (plain_configuration c.args.state.now) c.code_steps_as_tree.ensures.same
    c.requires.tree c.requires.code c.requires.stands.fits)
    c.step.ensures.memory
