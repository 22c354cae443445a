-- The values of the limits that definitions take from the code: another value is refused here.
use Rattle.std.proofs.Common.{◌≡◌, refl}
use Rattle.program_run.specs.declared.asked_run.TheConstants.{FEWEST_STEPS, MOST_DIGITS, MOST_STEPS, USUAL_STEPS}
use Rattle.program_run.specs.declared.stopped_line.TheConstants.{LONGEST_SHOWN}

-- the least number of steps that words can ask for
pub fewest_steps_is : FEWEST_STEPS ≡ 1
fewest_steps_is = refl

-- the greatest number of steps that words can ask for
pub most_steps_is : MOST_STEPS ≡ 1000000000
most_steps_is = refl

-- how many steps are made at most where no words say it
pub usual_steps_is : USUAL_STEPS ≡ 100000000
usual_steps_is = refl

-- how many digits the number of steps has at most
pub most_digits_is : MOST_DIGITS ≡ 10
most_digits_is = refl

-- how many bytes of a line are shown
pub longest_shown_is : LONGEST_SHOWN ≡ 200
longest_shown_is = refl
