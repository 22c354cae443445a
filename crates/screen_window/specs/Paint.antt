-- The bytes that turn one screen into another.
use Rattle.std.specs.Prelude.{ℕ, ◌+◌, ◌%◌, ◌==◌, nat_eq, Bool, true, false, List, [], ◌∷◌, ◌++◌, codes, decimal, if◌then◌else◌}
use Rattle.std.specs.Cmp.Lexicographic.{pointwise}
use Rattle.screen_window.specs.ScreenCell.{blank, is_negative}
use Rattle.screen_window.specs.PlainGrid.{PlainGrid}

-- the bytes of a control sequence, as it paints: ESC, `[` and what it says
abbrev pub control : List ℕ → List ℕ
control what = 27 ∷ 91 ∷ what

-- the bytes that move the cursor to a row and a column, which count from 1
unfoldable pub go_to : ℕ → ℕ → List ℕ
go_to row col = control (decimal row ++ (59 ∷ (decimal col ++ codes "H")))

-- the bytes that turn negative image on or off, where it isn't so already
abbrev pub image_change : Bool → Bool → List ℕ
image_change true true = []
image_change true false = control (codes "0m")
image_change false true = control (codes "7m")
image_change false false = []

-- the bytes that paint cells, each in its image; at the end the image is the default one
abbrev pub spelled : Bool → List ℕ → List ℕ
spelled image [] = image_change image false
spelled image (cell ∷ cells) = image_change image (is_negative cell) ++ (cell % 256 ∷ spelled (is_negative cell) cells)

-- a cell that is painted before the visible ones behind it, where a blank before none falls away
abbrev pub cut_before : ℕ → List ℕ → List ℕ
cut_before cell [] = if cell == blank then [] else cell ∷ []
cut_before cell (next ∷ rest) = cell ∷ next ∷ rest

-- the visible cells of a row, which are painted: those up to the last that isn't a blank in default image
abbrev pub visible : List ℕ → List ℕ
visible [] = []
visible (cell ∷ cells) = cut_before cell (visible cells)

-- the bytes that paint one row, whose number counts from 1: the cursor goes there, its cells are written, and what is
-- behind them is blanked
unfoldable pub row_piece : ℕ → List ℕ → List ℕ
row_piece number cells = go_to number 1 ++ (spelled false (visible cells) ++ control (codes "K"))

-- the bytes that paint a row where it differs, and else none
abbrev pub row_paint : ℕ → List ℕ → List ℕ → List ℕ
row_paint number old new = if pointwise nat_eq old new then [] else row_piece number new

-- the bytes that paint the rows that differ, from the top
abbrev pub rows_paint : ℕ → List (List ℕ) → List (List ℕ) → List ℕ
rows_paint number [] news = []
rows_paint number (old ∷ olds) [] = []
rows_paint number (old ∷ olds) (new ∷ news) = row_paint number old new ++ rows_paint (number + 1) olds news

-- the bytes that turn one grid into another: they paint the rows that differ, and then the place of the cursor
unfoldable pub Paint : PlainGrid → PlainGrid → List ℕ
Paint old new = rows_paint 1 old.lines new.lines ++ go_to new.row new.col
