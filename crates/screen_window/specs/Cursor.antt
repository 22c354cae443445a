-- Where the cursor stands on the screen.
use Rattle.std.specs.Prelude.{ℕ, ◌+◌, ◌-◌, ◌*◌, min, Bool, false, ◌==◌, if◌then◌else◌, List, [], ◌∷◌, length, find, Option, Some, None}
use Rattle.std.specs.List.{range_with_len}
use Rattle.plcs_grammar.specs.Template.{row_of}
use Rattle.template_tree.specs.Positions.Path.{node_at}
use Rattle.template_tree.specs.Programs.PlainTree.{PlainNode}
use Rattle.unparse_layout.specs.declared.line.LineKind.TheVariants.{First}
use Rattle.unparse_layout.specs.LaidLine.{PlainLine}
use Rattle.unparse_layout.specs.OwnedLine.{Stretch, stretches_of}
use Rattle.screen_window.specs.declared.limit.TheConstants.{OTHER_ROWS}
use Rattle.screen_window.specs.NodeLine.{is_line}
use Rattle.screen_window.specs.LowerRows.{input_row}
use Rattle.screen_window.specs.PlainView.{PlainView}
use Rattle.screen_window.specs.Window.{window_line}

-- a place of the cursor on the screen: a row and a column, which count from 1
pub record CursorPosition : Type 0 where
  pub row : ℕ
  pub col : ℕ

-- the column in which the cursor stands on the screen, or the last but one where it lies beyond
abbrev pub cut_col : ℕ → ℕ → ℕ
cut_col cols col = min col (cols - 1)

-- ---- behind the typed line

-- the place of the cursor behind the typed line, in the last row
abbrev pub typed_position : ℕ → ℕ → PlainView → CursorPosition
typed_position rows cols view = record { row = rows; col = cut_col cols (length (input_row cols view) + 1) }

-- ---- at the stop

-- whether this is the stretch of its line in which the cursor stands on the screen: that of the part of the number, at
-- which the cursor is
abbrev pub is_part : ℕ → Option ℕ → Bool
is_part part None = false
is_part part (Some own) = own == part

-- how many bytes of the cursor's line stand before the part of the number, at which the cursor is
abbrev pub bytes_before : ℕ → List Stretch → ℕ
bytes_before part [] = 0
bytes_before part (stretch ∷ stretches) =
    if is_part part stretch.part then 0 else length stretch.bytes + bytes_before part stretches

-- how many bytes of the node's first line stand before the stop, behind the level's blanks
abbrev pub stop_offset : PlainNode → Option ℕ → ℕ
stop_offset node None = 0
stop_offset node (Some part) = bytes_before part (stretches_of 0 (row_of node.label.kind).line node.label.parts)

-- the column of the cursor at its stop: behind the margin and the blanks of the node's level, which is one less than
-- its path is long
abbrev pub stop_col : List ℕ → Option ℕ → PlainNode → ℕ
stop_col path part node = 3 + 2 * (length path - 1) + stop_offset node part

-- whether the cursor may stand in a row of the window: the program's line there, if there is one, is that of its stop,
-- the first of the node in the slot
abbrev pub begins_node : ℕ → Option PlainLine → Bool
begins_node slot None = false
begins_node slot (Some laid) = is_line record { slot = slot; kind = First } laid

-- the row of the window in which the cursor is at its stop: the first, of so many, that shows the node's first line;
-- rows count from 0
abbrev pub node_row : ℕ → PlainView → ℕ → Option ℕ
node_row window view slot = find (λ row. begins_node slot (window_line view row)) (range_with_len 0 window)

-- the place of the cursor at its stop in this row of the window; where the window doesn't show its line, the first
-- place
abbrev pub position_in_row : ℕ → ℕ → Option ℕ → CursorPosition
position_in_row cols col None = record { row = 1; col = 1 }
position_in_row cols col (Some row) = record { row = row + 1; col = cut_col cols col }

-- the place of the cursor at its stop in the node; where there is no such node, the first place
abbrev pub stop_position : (rows cols : ℕ) → PlainView → Option PlainNode → CursorPosition
stop_position rows cols view None = record { row = 1; col = 1 }
stop_position rows cols view (Some node) =
    position_in_row cols (stop_col view.stop.path view.stop.part node)
    (node_row (rows - OTHER_ROWS) view node.label.slot)

-- ---- the cursor

-- the place of the cursor: behind the typed line, or where that is empty at its stop
abbrev pub cursor_position : ℕ → ℕ → PlainView → CursorPosition
cursor_position rows cols view =
    if length view.typed == 0 then stop_position rows cols view (node_at view.items view.stop.path)
    else typed_position rows cols view
