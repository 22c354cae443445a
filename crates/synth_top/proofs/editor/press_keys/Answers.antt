use Rattle.synth_top.proofs.KeysInOrder.{caused_after, pressed_before, pressed_then}
use Rattle.synth_top.proofs.editor.press_keys.Goals as goal

-- the second key comes after the first
pub returns-clause-presses : goal.returns-clause-presses
returns-clause-presses g c =
    let first = c.in_default.ensures.presses in
    let second = c.press_if-2.ensures.presses in
    record {
      ends = second.ends;
      pressed = pressed_then c.press_if-2.result _ _ _ _ _ first.pressed second.pressed;
      cause = caused_after _ _ _ _ (first.cause.same (λ e. absurd (cc))) second.cause;
    }

-- the first key ended the run
pub returns-in-Over-clause-presses : goal.returns-in-Over-clause-presses
returns-in-Over-clause-presses g c =
    let first = c.in-Over.ensures.presses in
    record {
      ends = first.ends;
      pressed = pressed_before c.in-Over.status _ _ _ _ first.pressed;
      cause = first.cause;
    }
