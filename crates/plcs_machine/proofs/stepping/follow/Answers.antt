-- What an instruction leads to is done behind it, and that is the whole step: each arm is the answer at what the
-- instruction led to.
use Rattle.std.proofs.Common.{◌∙◌, List, refl, sym, ap, arith, subst}
use Rattle.std.proofs.Math.Bool.{false≢true}
use Rattle.std.specs.Prelude.{IsSome, IfOk, OnErr, OnOk}
use Rattle.plcs_store.specs.declared.frame.Frame.{Frame}
use Rattle.plcs_store.specs.declared.run_state.RunState.{RunState}
use Rattle.plcs_store.specs.Configuration.{PlainConfiguration, plain_configuration, plain_place}
use Rattle.plcs_machine.specs.declared.led.Led.{Led}
use Rattle.plcs_machine.specs.declared.step_answer.StepAnswer.{StepAnswer}
use Rattle.plcs_machine.specs.Fetched.{FetchesAtMost, FetchesBy}
use Rattle.plcs_machine.specs.StepMade.{MakesFrame}
use Rattle.plcs_machine.specs.Private.DoableLead.{IsDoable}
use Rattle.plcs_machine.specs.Private.PlainLed.{plain_led}
use Rattle.plcs_machine.specs.Private.WalkedStep.{IsDone, led_answer, more_fetches}
use Rattle.plcs_machine.proofs.CountedFetches.{fetches_few, fetches_most, fetches_nothing}
use Rattle.plcs_machine.proofs.DoneSteps.{pass_done}
use Rattle.plcs_machine.proofs.NotedActs.{pass_noted, some_frame}
use Rattle.plcs_machine.proofs.stepping.follow.Goals as goal

pub unreachable-requires : goal.unreachable-requires
unreachable-requires g c =
    let code = g.C.CodeView.code c.args.code.now in
    let state = c.args.state.now in
    let left = c.args.end.left in
    false≢true (subst (λ (led : Led). IsSome (led_answer code state left led)) c.in-GoesOn.is c.requires.answered)

pub do_act-requires : goal.do_act-requires
do_act-requires g c =
    let code = g.C.CodeView.code c.args.code.now in
    let state = c.args.state.now in
    let left = c.args.end.left in
    record {
      short = c.requires.short;
      at = c.requires.at;
      can = subst (λ (led : Led). IsDoable state.frames (plain_led led state.operands.values state.operands.arguments)) c.in-Acts.is c.requires.can;
      answered = subst (λ (led : Led). IsSome (led_answer code state left led)) c.in-Acts.is c.requires.answered;
    }

pub returns-in-Acts-clause-done : goal.returns-in-Acts-clause-done
returns-in-Acts-clause-done g c =
    let code = g.C.CodeView.code c.args.code.now in
    let state = c.args.state.now in
    let left = c.args.end.left in
    subst (λ (led : Led). IsDone (led_answer code state left led) c.do_act.result state c.do_act.new.state c.args.undo.now c.do_act.new.undo)
    (sym c.in-Acts.is) c.do_act.ensures.done

pub returns-in-Acts-clause-counted : goal.returns-in-Acts-clause-counted
returns-in-Acts-clause-counted g c =
    let code = g.C.CodeView.code c.args.code.now in
    let state = c.args.state.now in
    let left = c.args.end.left in
    let counts = g.W.Work.counts in
    subst (λ (led : Led). FetchesBy (more_fetches (led_answer code state left led)) (counts c.args.work.now) (counts c.do_act.new.work))
    (sym c.in-Acts.is) c.do_act.ensures.counted

pub returns-in-Acts-clause-counts : goal.returns-in-Acts-clause-counts
returns-in-Acts-clause-counts g c =
    let code = g.C.CodeView.code c.args.code.now in
    let state = c.args.state.now in
    let left = c.args.end.left in
    let counts = g.W.Work.counts in
    let counted = subst (λ (led : Led). FetchesBy (more_fetches (led_answer code state left led)) (counts c.args.work.now) (counts c.do_act.new.work))
    (sym c.in-Acts.is) c.do_act.ensures.counted in
    let all = more_fetches (led_answer code state left c.args.led) in
    fetches_most all all (counts c.args.work.now) (counts c.do_act.new.work) (omega arith) counted

pub enter-requires : goal.enter-requires
enter-requires g c =
    let code = g.C.CodeView.code c.args.code.now in
    let state = c.args.state.now in
    let left = c.args.end.left in
    record {
      short = c.requires.short;
      at = c.requires.at;
      room = subst (λ (led : Led). IsDoable state.frames (plain_led led state.operands.values state.operands.arguments)) c.in-Enters.is c.requires.can;
      answered = subst (λ (led : Led). IsSome (led_answer code state left led)) c.in-Enters.is c.requires.answered;
    }

pub returns-in-Enters-clause-done : goal.returns-in-Enters-clause-done
returns-in-Enters-clause-done g c =
    let code = g.C.CodeView.code c.args.code.now in
    let state = c.args.state.now in
    let left = c.args.end.left in
    subst
    (λ (led : Led). IfOk c.enter.result (λ answer. IsDone (led_answer code state left led) answer state c.enter.new.state c.args.undo.now c.enter.new.undo))
    (sym c.in-Enters.is) c.enter.ensures.done

pub returns-in-Enters-clause-counted : goal.returns-in-Enters-clause-counted
returns-in-Enters-clause-counted g c =
    let code = g.C.CodeView.code c.args.code.now in
    let state = c.args.state.now in
    let left = c.args.end.left in
    let counts = g.W.Work.counts in
    subst
    (λ (led : Led). OnOk c.enter.result (FetchesBy (more_fetches (led_answer code state left led)) (counts c.args.work.now) (counts c.enter.new.work)))
    (sym c.in-Enters.is) c.enter.ensures.counted

pub returns-in-Enters-clause-counts : goal.returns-in-Enters-clause-counts
returns-in-Enters-clause-counts g c =
    let code = g.C.CodeView.code c.args.code.now in
    let state = c.args.state.now in
    let left = c.args.end.left in
    let counts = g.W.Work.counts in
    subst (λ (led : Led). FetchesAtMost (more_fetches (led_answer code state left led)) (counts c.args.work.now) (counts c.enter.new.work))
    (sym c.in-Enters.is) c.enter.ensures.counts

pub returns-in-Enters-clause-memory : goal.returns-in-Enters-clause-memory
returns-in-Enters-clause-memory g c =
    let code = g.C.CodeView.code c.args.code.now in
    let state = c.args.state.now in
    let left = c.args.end.left in
    subst (λ (led : Led). OnErr c.enter.result (MakesFrame (led_answer code state left led) (plain_configuration state))) (sym c.in-Enters.is)
    c.enter.ensures.memory

pub set_place-requires : goal.set_place-requires
set_place-requires g c =
    let code = g.C.CodeView.code c.args.code.now in
    let state = c.args.state.now in
    let left = c.args.end.left in
    record { some = some_frame state.frames (plain_place c.args.end.from) c.requires.at }

pub returns-in-Arrives-clause-done : goal.returns-in-Arrives-clause-done
returns-in-Arrives-clause-done g c =
    let code = g.C.CodeView.code c.args.code.now in
    let state = c.args.state.now in
    let left = c.args.end.left in
    let after : RunState = record state { frames = c.set_place.new.self } in
    let notes = c.note.new.undo in
    subst (λ (led : Led). IsDone (led_answer code state left led) StepAnswer.Stepped state after c.args.undo.now notes) (sym c.in-Arrives.is)
    (pass_done code (plain_configuration state) c.args.end.from c.requires.at left c.in-Arrives.landed (plain_configuration after) c.args.undo.now notes
    (ap (λ (frames : List Frame). let one : PlainConfiguration = record (plain_configuration state) { frames = frames } in one) c.set_place.ensures)
    (c.note.ensures ∙ pass_noted (plain_configuration state) c.args.end.from c.requires.at))

pub returns-in-Arrives-clause-counted : goal.returns-in-Arrives-clause-counted
returns-in-Arrives-clause-counted g c =
    let code = g.C.CodeView.code c.args.code.now in
    let state = c.args.state.now in
    let left = c.args.end.left in
    let counts = g.W.Work.counts c.args.work.now in
    subst (λ (led : Led). FetchesBy (more_fetches (led_answer code state left led)) counts counts) (sym c.in-Arrives.is) (fetches_nothing counts)

pub returns-in-Arrives-clause-counts : goal.returns-in-Arrives-clause-counts
returns-in-Arrives-clause-counts g c =
    let code = g.C.CodeView.code c.args.code.now in
    let state = c.args.state.now in
    let left = c.args.end.left in
    fetches_few (more_fetches (led_answer code state left c.args.led)) (g.W.Work.counts c.args.work.now)

pub returns-in-Ends-clause-done : goal.returns-in-Ends-clause-done
returns-in-Ends-clause-done g c =
    let code = g.C.CodeView.code c.args.code.now in
    let state = c.args.state.now in
    let left = c.args.end.left in
    subst (λ (led : Led). IsDone (led_answer code state left led) StepAnswer.Ended state state c.args.undo.now c.args.undo.now)
    (sym c.in-Ends.is) ((refl, refl), refl)

pub returns-in-Ends-clause-counted : goal.returns-in-Ends-clause-counted
returns-in-Ends-clause-counted g c =
    let code = g.C.CodeView.code c.args.code.now in
    let state = c.args.state.now in
    let left = c.args.end.left in
    let counts = g.W.Work.counts c.args.work.now in
    subst (λ (led : Led). FetchesBy (more_fetches (led_answer code state left led)) counts counts) (sym c.in-Ends.is) (fetches_nothing counts)

pub returns-in-Ends-clause-counts : goal.returns-in-Ends-clause-counts
returns-in-Ends-clause-counts g c =
    let code = g.C.CodeView.code c.args.code.now in
    let state = c.args.state.now in
    let left = c.args.end.left in
    fetches_few (more_fetches (led_answer code state left c.args.led)) (g.W.Work.counts c.args.work.now)

pub returns-in-Stops-clause-done : goal.returns-in-Stops-clause-done
returns-in-Stops-clause-done g c =
    let code = g.C.CodeView.code c.args.code.now in
    let state = c.args.state.now in
    let left = c.args.end.left in
    subst (λ (led : Led). IsDone (led_answer code state left led) (StepAnswer.Stopped c.in-Stops.reason) state state c.args.undo.now c.args.undo.now)
    (sym c.in-Stops.is) ((refl, refl), refl)

pub returns-in-Stops-clause-counted : goal.returns-in-Stops-clause-counted
returns-in-Stops-clause-counted g c =
    let code = g.C.CodeView.code c.args.code.now in
    let state = c.args.state.now in
    let left = c.args.end.left in
    let counts = g.W.Work.counts c.args.work.now in
    subst (λ (led : Led). FetchesBy (more_fetches (led_answer code state left led)) counts counts) (sym c.in-Stops.is) (fetches_nothing counts)

pub returns-in-Stops-clause-counts : goal.returns-in-Stops-clause-counts
returns-in-Stops-clause-counts g c =
    let code = g.C.CodeView.code c.args.code.now in
    let state = c.args.state.now in
    let left = c.args.end.left in
    fetches_few (more_fetches (led_answer code state left c.args.led)) (g.W.Work.counts c.args.work.now)
