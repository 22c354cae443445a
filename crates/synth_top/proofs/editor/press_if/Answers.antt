use Rattle.std.proofs.Common.{[], ap, sym, refl, arith}
use Rattle.std.specs.Option.{option_to_list}
use Rattle.synth_top.proofs.OneKey.{none_shown, unchanged_itself}
use Rattle.synth_top.proofs.editor.press_if.Goals as goal

-- no key was pressed
pub returns-in-None-clause-presses : goal.returns-in-None-clause-presses
returns-in-None-clause-presses g c = record {
  ends = tt;
  pressed = record {
    pressed = [];
    all = sym (ap option_to_list c.in-None.is);
    shown = none_shown _ _ (unchanged_itself _);
    wants = refl;
  };
  cause = record { later = omega arith; rose = λ e. absurd (cc); same = λ other. refl; last = λ e. refl };
}
