-- The window over the program's lines, which follows the cursor.
use Rattle.std.specs.Prelude.{ℕ, ◌+◌, ◌-◌, nat_le, nat_lt, if◌then◌else◌}
use Rattle.template_tree.specs.Positions.Stop.{line_at}
use Rattle.screen_window.specs.Screen.{window_rows}
use Rattle.synth_session.specs.PlainSession.{PlainSession}

-- the number of the window's first line from which this line is seen: that line where it is above the window, the one
-- with which the line comes last where it is below, and else the one as it is
unfoldable pub top_showing : (rows top line : ℕ) → ℕ
top_showing rows top line =
    if nat_lt line top then line else (if nat_le (top + rows) line then line + 1 - rows else top)

-- the session with its window where the cursor is seen
abbrev pub with_cursor_seen : PlainSession → PlainSession
with_cursor_seen s = record s { top = top_showing (window_rows s.size.rows) s.top (line_at s.tree.items s.stop) }
