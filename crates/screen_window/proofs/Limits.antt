-- The value of each limit.
use Rattle.std.specs.Prelude.{◌≡◌, ◌-◌, refl}
use Rattle.screen_window.specs.declared.limit.TheConstants.{FEWEST_ROWS, MOST_ROWS, FEWEST_COLS, MOST_COLS, OTHER_ROWS}
use Rattle.screen_window.specs.declared.line_cache.TheConstants.{MOST_LINES}
use Rattle.screen_window.specs.declared.lower_rows.TheConstants.{OUTPUT_ROWS}

fewest_rows_is : FEWEST_ROWS ≡ 12
fewest_rows_is = refl

most_rows_is : MOST_ROWS ≡ 100
most_rows_is = refl

fewest_cols_is : FEWEST_COLS ≡ 40
fewest_cols_is = refl

most_cols_is : MOST_COLS ≡ 160
most_cols_is = refl

-- the dashes, three rows of output, the message and the input
other_rows_is : OTHER_ROWS ≡ 6
other_rows_is = refl

output_rows_is : OUTPUT_ROWS ≡ 3
output_rows_is = refl

most_lines_are : MOST_LINES ≡ 94
most_lines_are = refl

-- the lines of one window have buckets of their own
lines_fill_windows : MOST_LINES ≡ MOST_ROWS - OTHER_ROWS
lines_fill_windows = refl
