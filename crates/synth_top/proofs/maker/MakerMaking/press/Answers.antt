-- The session does what the key's outcome says, by what was replied. So by whether it wanted memory, and whether a run
-- went on in it, this key was made, as a list of one, or memory ran out in its turn.
use Rattle.std.proofs.Common.{Some, ap, sym, subst, ◌∙◌}
use Rattle.std.proofs.lemmas.Result.{err_from_is_err_and}
use Rattle.synth_session.specs.Tick.{RunFits}
use Rattle.synth_top.specs.Turn.{makes_steps}
use Rattle.synth_top.proofs.MadeKeys.{press_unmade, rest_answer, run_ended, still_made, unmade_as}
use Rattle.synth_top.proofs.maker.MakerMaking.press.Goals as goal

-- the key wanted memory
pub returns-in_err-answer-clause-made : goal.returns-in_err-answer-clause-made
returns-in_err-answer-clause-made g c =
    let p = err_from_is_err_and c.from_residual.result c.from_residual.ensures.1 in
    let pressed = c.in_err-answer.ensures.pressed in
    unmade_as _ _ _ _ _ _ _ p.1 (press_unmade c.args.key pressed.reply _ _ _ _ pressed.files.can pressed.counts)

-- a run of the program goes on in it, which fits the program
pub make_steps-requires-clause-fits : goal.make_steps-requires-clause-fits
make_steps-requires-clause-fits g c =
    let pressed = c.in_ok-answer.ensures.pressed in
    subst RunFits (sym pressed.does.met.0)
    (c.running_keys_fit.ensures c.args.key pressed.reply (Some c.args.self.now.files.stored) pressed.files.can
    (sym pressed.does.met.1 ∙ c.in-Running.is))

-- a run of the program went on in it
pub returns-in-Running-clause-made : goal.returns-in-Running-clause-made
returns-in-Running-clause-made g c =
    let pressed = c.in_ok-answer.ensures.pressed in
    run_ended c.args.key pressed.reply _ _ _ _ _ _ _ _ _ _ pressed.files pressed.does.met.0 pressed.counts
    (ap makes_steps (sym pressed.does.met.1 ∙ c.in-Running.is)) _
    (ap (λ f. f.stored) c.make_steps.ensures.files) _ _ c.make_steps.result
    c.make_steps.ensures.made

-- no run went on in it
pub returns-in-Done-clause-made : goal.returns-in-Done-clause-made
returns-in-Done-clause-made g c =
    let pressed = c.in_ok-answer.ensures.pressed in
    still_made c.args.key pressed.reply _ _ _ _ _ _ _ _ _ _ pressed.files pressed.does.met.0 pressed.counts
    (sym (ap makes_steps pressed.does.met.1) ∙ rest_answer _ c.in-Done.is)
