-- Grids of which a row was drawn.
use Rattle.std.proofs.Common.{◌≡◌, ◌<◌, ◌≤◌, ℕ, ◌+◌, ◌-◌, Bool, true, false, cond, nat_lt, IsTrue, List, [], length, map, get_or, refl, ap, sym, ◌∙◌, subst, arith}
use Rattle.std.proofs.Math.ListN.{set}
use Rattle.std.proofs.lemmas.List.{map-set, length-map, length-set, get_or-map}
use Rattle.std.proofs.lemmas.List.Elements.{All-get_or, All-set, All-same}
use Rattle.screen_window.specs.ScreenCell.{is_screen_cell}
use Rattle.screen_window.specs.Limit.{IsSize}
use Rattle.screen_window.specs.PlainGrid.{PlainGrid, IsGrid, IsRow}
use Rattle.screen_window.specs.ShownRow.{cell_in, shown_cell, shown_row}
use Rattle.screen_window.specs.Private.RowCells.{with_row}
use Rattle.screen_window.proofs.ShownRows.{length-shown_row, get_or-shown_row}

-- what is shown in a cell is one
shown_cell_is : (cell : ℕ) → IsTrue (is_screen_cell (shown_cell cell))
shown_cell_is cell = by_test (is_screen_cell cell) refl
  where
    by_test : (b : Bool) → is_screen_cell cell ≡ b → IsTrue (is_screen_cell (cond b cell 32))
    by_test true is = is
    by_test false is = refl

cell_in_is : (cols : ℕ) (cells : List ℕ) (k : ℕ) → IsTrue (is_screen_cell (cell_in cols cells k))
cell_in_is cols cells k = by_test (nat_lt (k + 1) cols)
  where
    by_test : (b : Bool) → IsTrue (is_screen_cell (cond b (shown_cell (get_or cells k 32)) 32))
    by_test true = shown_cell_is (get_or cells k 32)
    by_test false = refl

-- a row shown is a row of a grid
pub row_is : (cols : ℕ) (cells : List ℕ) → 0 < cols → IsRow cols (shown_row cols cells)
row_is cols cells some = record {
  width = length-shown_row cols cells;
  cells = λ k d below.
      ap is_screen_cell (get_or-shown_row cols cells k d (subst (λ n. k < n) (length-shown_row cols cells) below)) ∙ cell_in_is cols cells k;
  last = get_or-shown_row cols cells (cols - 1) 32 (omega (arith, some)) ∙ ap (λ b. cond b (shown_cell (get_or cells (cols - 1) 32)) 32) outside;
}
  where
    outside : nat_lt (cols - 1 + 1) cols ≡ false
    outside = grind (arith, some)

-- a grid whose lines are kept
abbrev pub kept_grid : {V : Type 0} → (V → List ℕ) → List V → ℕ → ℕ → ℕ → PlainGrid
kept_grid items lines cols row col = record { rows = length lines; cols = cols; lines = map items lines; row = row; col = col }

-- the row is as wide as the grid
width_at : {V : Type 0} (items : V → List ℕ) (lines : List V) (cols row col k : ℕ) (old : V) → IsGrid (kept_grid items lines cols row col) → k < length lines
    → old ≡ get_or lines k old → length (items old) ≡ cols
width_at items lines cols row col k old is below same =
    let within : k < length (map items lines) = subst (λ n. k < n) (sym (length-map lines items)) below in
    let row_at = All-get_or (IsRow cols) (map items lines) k [] within is.lines in
    ap (λ l. length (items l)) same ∙ ap length (sym (get_or-map items lines k old [] below)) ∙ row_at.width

-- a row was drawn on a grid: it is one again
pub grid_again : {V : Type 0} (items : V → List ℕ) (lines : List V) (cols row col k : ℕ) (old new : V) (cells : List ℕ)
    → IsGrid (kept_grid items lines cols row col) → k < length lines → old ≡ get_or lines k old → items new ≡ shown_row (length (items old)) cells
    → IsGrid (kept_grid items (set lines k new) cols row col)
grid_again items lines cols row col k old new cells is below same shown =
    let count : length lines ≡ length (set lines k new) = sym (length-set lines k new) in
    let width = width_at items lines cols row col k old is below same in
    let new_row : IsRow cols (items new) =
    subst (IsRow cols) (sym (shown ∙ ap (λ n. shown_row n cells) width)) (row_is cols cells (omega (arith, is.size.least_cols))) in
    record {
      size = subst (λ n. IsSize n cols) count is.size;
      rows = length-map (set lines k new) items;
      lines = All-same (IsRow cols) _ _ (map-set items lines k new) (All-set (IsRow cols) (map items lines) k (items new) new_row is.lines);
      least_row = is.least_row;
      most_row = subst (λ n. row ≤ n) count is.most_row;
      least_col = is.least_col;
      most_col = is.most_col;
    }

-- and it is the grid with the other row
pub row_drawn : {V : Type 0} (items : V → List ℕ) (lines : List V) (cols row col k : ℕ) (old new : V) (cells : ℕ → List ℕ)
    → IsGrid (kept_grid items lines cols row col) → k < length lines → old ≡ get_or lines k old
    → items new ≡ shown_row (length (items old)) (cells (length (items old)))
    → kept_grid items (set lines k new) cols row col ≡ with_row (kept_grid items lines cols row col) k (shown_row cols (cells cols))
row_drawn items lines cols row col k old new cells is below same shown =
    let width = width_at items lines cols row col k old is below same in
    ap (λ n. record { rows = n; cols = cols; lines = map items (set lines k new); row = row; col = col }) (length-set lines k new)
    ∙ ap (λ ls. record { rows = length lines; cols = cols; lines = ls; row = row; col = col })
    (map-set items lines k new ∙ ap (set (map items lines) k) (shown ∙ ap (λ n. shown_row n (cells n)) width))
