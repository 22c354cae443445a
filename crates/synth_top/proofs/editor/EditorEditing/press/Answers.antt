-- The session does what the key's outcome says, by what was replied; so by whether it wanted memory, whether the key
-- ended the session, whether a run of the program went on in it, and whether its screens were written, the one key was
-- wanted, quit, cut or shown, as a list of one.
use Rattle.std.proofs.Common.{ap, refl, sym, subst, ◌∙◌, arith, inl, inr}
use Rattle.synth_session.specs.PlainScreens.{PlainScreens}
use Rattle.synth_session.specs.Tick.{RunFits}
use Rattle.synth_top.specs.Turn.{makes_steps}
use Rattle.synth_top.proofs.OneKey.{one_painted, one_quit, one_ticked, one_wanted, painted_caused, painted_may_end, still_answer, ticks_may_end}
use Rattle.synth_top.proofs.editor.EditorEditing.press.Goals as goal

-- the key wanted memory
pub returns-in_default-clause-presses : goal.returns-in_default-clause-presses
returns-in_default-clause-presses g c =
    let pressed = c.in_default.ensures.pressed in
    record {
      ends = tt;
      pressed = inr (inl
          (one_wanted c.args.key _ _ c.running_keys_have_runs.ensures.still pressed.does.met.0 pressed.files pressed.does.met.1
          (record { shown = ap (λ (z : PlainScreens). z.shown) pressed.does.screens; taken = refl; wanted = refl }) pressed.counts));
      cause = record { later = omega arith; rose = λ e. absurd (cc); same = λ other. refl; last = λ e. refl };
    }

pub returns-in_default-clause-ready : goal.returns-in_default-clause-ready
returns-in_default-clause-ready g c = c.in_default.ensures.pressed.does.session

-- the key ended the session
pub returns-in-Quit-clause-presses : goal.returns-in-Quit-clause-presses
returns-in-Quit-clause-presses g c =
    let pressed = c.in-Ok.ensures.pressed in
    record {
      ends = tt;
      pressed = one_quit c.args.key c.in-Ok.answer _ _
          (record { reply = pressed.reply; files = pressed.files; session = pressed.does.met.0; answered = pressed.does.met.1 })
          (record { shown = ap (λ (z : PlainScreens). z.shown) pressed.does.screens; taken = refl; wanted = refl })
          c.running_keys_have_runs.ensures.still c.in-Quit.is pressed.counts;
      cause = record { later = omega arith; rose = λ e. absurd (cc); same = λ other. refl; last = λ e. refl };
    }

pub returns-in-Quit-clause-ready : goal.returns-in-Quit-clause-ready
returns-in-Quit-clause-ready g c = c.in-Ok.ensures.pressed.does.session

-- a run of the program goes on in it, which fits the program
pub make_steps-requires-clause-fits : goal.make_steps-requires-clause-fits
make_steps-requires-clause-fits g c =
    let pressed = c.in-Ok.ensures.pressed in
    subst RunFits (sym pressed.does.met.0)
    (c.running_keys_fit.ensures c.args.key pressed.reply _ pressed.files.can (sym pressed.does.met.1 ∙ c.in-Running.is))

-- a run of the program went on in it
pub returns-in-Running-clause-presses : goal.returns-in-Running-clause-presses
returns-in-Running-clause-presses g c =
    let pressed = c.in-Ok.ensures.pressed in
    let made = c.make_steps.ensures.made (g.F.Files.told c.press.new.files) in
    record {
      ends = ticks_may_end c.make_steps.result _ _ made;
      pressed = one_ticked c.args.key c.in-Ok.answer _ _
          (record { reply = pressed.reply; files = pressed.files; session = pressed.does.met.0; answered = pressed.does.met.1 })
          (record { shown = ap (λ (z : PlainScreens). z.shown) pressed.does.screens; taken = refl; wanted = refl })
          (ap makes_steps c.in-Running.is) pressed.counts _ c.make_steps.result made;
      cause = c.make_steps.ensures.cause;
    }

-- no run went on in it, and its screen was written, or cut short
pub returns-in-Done-clause-presses : goal.returns-in-Done-clause-presses
returns-in-Done-clause-presses g c =
    let pressed = c.in-Ok.ensures.pressed in
    let still = still_answer c.in-Ok.answer c.in-Done.is in
    let wrote = c.show.ensures.wrote in
    rw c.going_after.ensures
    (record {
      ends = painted_may_end c.show.result;
      pressed = one_painted c.args.key c.in-Ok.answer _ _
          (record { reply = pressed.reply; files = pressed.files; session = pressed.does.met.0; answered = pressed.does.met.1 })
          (record { shown = ap (λ (z : PlainScreens). z.shown) pressed.does.screens; taken = refl; wanted = refl })
          still.0 still.1 _ c.show.ensures.session refl pressed.counts c.show.ensures.counts _ _ c.show.result wrote c.show.ensures.shown;
      cause = painted_caused c.show.result _ _ wrote.cause;
    })
