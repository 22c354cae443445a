-- The rows of the window, which show the program or its code.
use Rattle.std.specs.Prelude.{ℕ, ◌+◌, Bool, false, List, [], ◌++◌, slice_get, slice_index_or, Option, Some, None}
use Rattle.plcs_base.specs.declared.place.Place.{Place}
use Rattle.template_tree.specs.Programs.PlainTree.{Forest}
use Rattle.unparse_layout.specs.LaidLine.{PlainLine, LaidLines}
use Rattle.screen_window.specs.declared.node_line.NodeLine.{NodeLine}
use Rattle.screen_window.specs.NodeLine.{is_line, place_line}
use Rattle.screen_window.specs.PlainView.{PlainView}
use Rattle.screen_window.specs.ShownRow.{margin}

-- the program's line in a row of the window, which counts from 0
abbrev pub window_line : PlainView → ℕ → Option PlainLine
window_line view row = slice_get (LaidLines view.marks view.items) (view.top + row)

-- the line at which the window shows that the run stands: that of its place, if a run stands, isn't ended, and the
-- place's slot is live
abbrev pub run_line : Forest → Option Place → Option NodeLine
run_line items None = None
run_line items (Some place) = place_line place.slot.0 place.point.0 items

-- whether a laid line that a row of the window shows is the run's line, if there is one
abbrev pub is_run_line : Option NodeLine → PlainLine → Bool
is_run_line None laid = false
is_run_line (Some line) laid = is_line line laid

-- a row of the window with a line of the program behind its margin, or nothing below the last
abbrev pub line_row : Option NodeLine → Option PlainLine → List ℕ
line_row run None = []
line_row run (Some laid) = margin (is_run_line run laid) ++ laid.cells

-- a row of the window with an instruction behind a blank margin, or nothing below the last
abbrev pub code_row : List (List ℕ) → ℕ → List ℕ
code_row rows row = margin false ++ slice_index_or rows row []

-- what stands in a row of the window: an instruction where code is shown, else a line of the program
abbrev pub window_text : Option NodeLine → Option PlainLine → Option (List (List ℕ)) → ℕ → List ℕ
window_text run laid None row = line_row run laid
window_text run laid (Some rows) row = code_row rows row

-- the row of this number of the window of a view, which counts from 0
abbrev pub window_row : PlainView → ℕ → List ℕ
window_row view row = window_text (run_line view.items view.run_place) (window_line view row) view.code row
