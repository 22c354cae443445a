-- The values of the limits: of the typed line, of the steps that a key asks for, and of a row of code.
use Rattle.std.specs.Prelude.{◌≡◌, ◌-◌, refl}
use Rattle.screen_window.specs.declared.limit.TheConstants.{MOST_COLS, MOST_ROWS, OTHER_ROWS}
use Rattle.synth_session.specs.declared.code_rows.TheConstants.{LONGEST_CODE_ROW, MOST_CODE_ROWS}
use Rattle.synth_session.specs.declared.run_commands.TheConstants.{MOST_RUN_STEPS, MOST_TRACED_STEPS}
use Rattle.synth_session.specs.declared.typed_line.TheConstants.{LINE_LIMIT}

line_limit_is : LINE_LIMIT ≡ 200
line_limit_is = refl

most_run_steps_are : MOST_RUN_STEPS ≡ 10000
most_run_steps_are = refl

most_traced_steps_are : MOST_TRACED_STEPS ≡ 100
most_traced_steps_are = refl

longest_code_row_is : LONGEST_CODE_ROW ≡ 160
longest_code_row_is = refl

code_rows_fill_screens : LONGEST_CODE_ROW ≡ MOST_COLS
code_rows_fill_screens = refl

most_code_rows_are : MOST_CODE_ROWS ≡ MOST_ROWS - OTHER_ROWS
most_code_rows_are = refl
