use Rattle.std.proofs.Common.{◌≡◌, Some, Ok, subst}
use Rattle.plcs_machine.specs.declared.step_answer.StepAnswer.{StepAnswer}
use Rattle.plcs_machine.specs.StepMade.{step_answered}
use Rattle.plcs_store.specs.Configuration.{plain_configuration}
use Rattle.plcs_store.specs.Step.{Step}
use Rattle.program_run.specs.Private.SteppedRun.{StaysUnlessStepped}
use Rattle.program_run.proofs.FetchedRuns.{reached_next, steps_end, steps_stop, steps_want}
use Rattle.program_run.proofs.running.make_steps.Goals as goal

pub returns-in-Ok-Stopped : goal.returns-in-Ok-Stopped
returns-in-Ok-Stopped g c =
    let tree = c.args.tree.now in
    let input = c.args.input.now in
    let old = plain_configuration c.loop-made.state in
    let new = plain_configuration c.make_step.new.state in
    let counts = g.W.Work.counts in
    let at = c.in-Ok-Stopped in
    steps_stop tree input c.loop-made.made c.loop-made.state (counts c.args.work.now) (counts c.loop-made.work) c.loop-made.invariant c.args.steps
    at.reason new (counts c.make_step.new.work) c.loop-made-test.true
    (subst (λ (answer : StepAnswer). Step tree.items input old ≡ Some (step_answered answer new)) at.field-0-is at.ensures.answers)
    (subst (λ (answer : StepAnswer). StaysUnlessStepped (Ok answer) old new) at.field-0-is at.ensures.stays)
    at.ensures.counted

pub returns-in-Ok-Ended : goal.returns-in-Ok-Ended
returns-in-Ok-Ended g c =
    let tree = c.args.tree.now in
    let input = c.args.input.now in
    let old = plain_configuration c.loop-made.state in
    let new = plain_configuration c.make_step.new.state in
    let counts = g.W.Work.counts in
    let at = c.in-Ok-Ended in
    steps_end tree input c.loop-made.made c.loop-made.state (counts c.args.work.now) (counts c.loop-made.work) c.loop-made.invariant c.args.steps
    new (counts c.make_step.new.work) c.loop-made-test.true
    (subst (λ (answer : StepAnswer). Step tree.items input old ≡ Some (step_answered answer new)) at.field-0-is at.ensures.answers)
    (subst (λ (answer : StepAnswer). StaysUnlessStepped (Ok answer) old new) at.field-0-is at.ensures.stays)
    at.ensures.counted

pub returns-in-Err : goal.returns-in-Err
returns-in-Err g c =
    let counts = g.W.Work.counts in
    steps_want c.args.tree.now c.args.input.now c.loop-made.made c.loop-made.state (counts c.args.work.now) (counts c.loop-made.work)
    c.loop-made.invariant c.args.steps (plain_configuration c.make_step.new.state) (counts c.make_step.new.work) c.loop-made-test.true
    c.in-Err.ensures.calls c.in-Err.ensures.stays c.in-Err.ensures.counts

pub loop-made-preserved : goal.loop-made-preserved
loop-made-preserved g c =
    let tree = c.args.tree.now in
    let input = c.args.input.now in
    let old = plain_configuration c.loop-made.state in
    let new = plain_configuration c.make_step.new.state in
    let counts = g.W.Work.counts in
    let at = c.in-Ok-Stepped in
    reached_next tree input c.loop-made.made c.loop-made.state (counts c.args.work.now) (counts c.loop-made.work) c.loop-made.invariant
    c.make_step.new.state (counts c.make_step.new.work)
    (subst (λ (answer : StepAnswer). Step tree.items input old ≡ Some (step_answered answer new)) at.field-0-is at.ensures.answers)
    at.ensures.stands at.ensures.counted
