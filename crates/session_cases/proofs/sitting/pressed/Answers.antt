use Rattle.std.proofs.Common.{sym, subst, ◌∙◌}
use Rattle.synth_session.specs.Tick.{RunFits}
use Rattle.session_cases.proofs.sitting.pressed.Goals as goal

pub returns-in-Ok-clause-fits : goal.returns-in-Ok-clause-fits
returns-in-Ok-clause-fits g c = λ running.
    let pressed = c.in-Ok.ensures.pressed in
    subst RunFits (sym pressed.does.met.0)
    (c.running_keys_fit.ensures c.args.key pressed.reply _ pressed.files.can (sym pressed.does.met.1 ∙ running))
