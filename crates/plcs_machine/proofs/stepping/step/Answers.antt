-- A step that is done is answered as it is wanted, and its record takes it back.
use Rattle.std.proofs.lemmas.Result.{IfOk-weaker}
use Rattle.plcs_store.specs.Configuration.{plain_configuration}
use Rattle.plcs_machine.specs.Exec.{Exec}
use Rattle.plcs_machine.proofs.DoneSteps.{done_answers, done_changes}
use Rattle.plcs_machine.proofs.stepping.step.Goals as goal

pub returns-clause-answers : goal.returns-clause-answers
returns-clause-answers g c =
    let before = plain_configuration c.args.state.now in
    let wanted = Exec (g.C.CodeView.code c.args.code.now) c.args.input.now before in
    IfOk-weaker c.step_through-answer.result _ _
    (λ answer is. done_answers wanted answer before (plain_configuration c.step_through-answer.new.state) c.args.undo.now c.step_through-answer.new.undo is)
    c.step_through-answer.ensures.done

pub returns-clause-changes : goal.returns-clause-changes
returns-clause-changes g c =
    let before = plain_configuration c.args.state.now in
    let wanted = Exec (g.C.CodeView.code c.args.code.now) c.args.input.now before in
    IfOk-weaker c.step_through-answer.result _ _
    (λ answer is. done_changes c.steps_taken_back.ensures wanted answer before (plain_configuration c.step_through-answer.new.state) c.args.undo.now
    c.step_through-answer.new.undo is)
    c.step_through-answer.ensures.done
