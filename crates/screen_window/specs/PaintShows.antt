-- The law of painting.
use Rattle.std.specs.Prelude.{◌≡◌}
use Rattle.screen_window.specs.PlainGrid.{PlainGrid, IsGrid}
use Rattle.screen_window.specs.PlainTerminal.{PlainTerminal, Shows}
use Rattle.screen_window.specs.Paint.{Paint}
use Rattle.screen_window.specs.Terminal.{Term}

-- a terminal that shows a grid shows another grid of the same size after the bytes that paint the other over the one
abbrev pub PaintShows : Type 0
PaintShows =
    (z : PlainTerminal) (old new : PlainGrid) → IsGrid old → IsGrid new → old.rows ≡ new.rows → old.cols ≡ new.cols
    → Shows z old → Shows (Term z (Paint old new)) new
