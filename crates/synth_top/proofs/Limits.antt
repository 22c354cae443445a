-- The values of the limits that definitions take from the code: another value is refused here.
use Rattle.std.proofs.Common.{◌≡◌, refl}
use Rattle.synth_top.specs.declared.options.TheConstants.{FEWEST_KEYS, MOST_KEYS, USUAL_ROWS, USUAL_COLS}
use Rattle.synth_top.specs.declared.task.TheConstants.{FEWEST_STATEMENTS, MOST_STATEMENTS}

-- the least number of bytes of keys that words can ask for
pub fewest_keys_is : FEWEST_KEYS ≡ 1
fewest_keys_is = refl

-- the greatest number of bytes of keys that words can ask for
pub most_keys_is : MOST_KEYS ≡ 1000000000
most_keys_is = refl

-- how many rows a screen has where no words say it
pub usual_rows_is : USUAL_ROWS ≡ 24
usual_rows_is = refl

-- how many columns a screen has where no words say it
pub usual_cols_is : USUAL_COLS ≡ 80
usual_cols_is = refl

-- the fewest statements that words can ask for in a program that is made
pub fewest_statements_is : FEWEST_STATEMENTS ≡ 1
fewest_statements_is = refl

-- the most statements that words can ask for in a program that is made
pub most_statements_is : MOST_STATEMENTS ≡ 2000
most_statements_is = refl
