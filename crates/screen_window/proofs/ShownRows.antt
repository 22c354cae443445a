-- Rows that are shown: what is put into their first cells, and blanks behind it.
use Rattle.std.proofs.Common.{◌≡◌, ◌<◌, ◌≤◌, ℕ, ◌+◌, ◌-◌, min, cond, ◌⊎◌, inl, inr, List, [], ◌∷◌, ◌++◌, suc, zero, length, map, take, drop, replicate, get_or, refl, ap, ap₂, subst, sym, ◌∙◌, zero-add, take-add, arith}
use Rattle.std.proofs.Math.Seq.{get_or-append_right}
use Rattle.std.proofs.lemmas.Bool.{cases_lt, lt-ltb, le-ltb}
use Rattle.std.proofs.lemmas.List.{append-nil, drop_at, get_or-map, get_or-replicate, get_or-take, get_or_append_left, get_or_past, length-append, length-drop, length-replicate, length-take-le, map-append, take-append-le, take_all, take_at}
use Rattle.std.proofs.lemmas.List.FromFn.{fill_by_all, get_or-map-range_with_len, length-map-range_with_len}
use Rattle.screen_window.specs.ShownRow.{cell_in, shown_cell, shown_row}
use Rattle.screen_window.specs.Private.RowCells.{ShowsFront}

-- a row shown is as wide as the screen
pub length-shown_row : (cols : ℕ) (cells : List ℕ) → length (shown_row cols cells) ≡ cols
unfolding shown_row
length-shown_row cols cells = length-map-range_with_len (cell_in cols cells) 0 cols

-- its cell in a column
pub get_or-shown_row : (cols : ℕ) (cells : List ℕ) (k d : ℕ) → k < cols → get_or (shown_row cols cells) k d ≡ cell_in cols cells k
unfolding shown_row
get_or-shown_row cols cells k d below = get_or-map-range_with_len (cell_in cols cells) 0 cols k k d below (zero-add k)

-- a row of these cells is the row shown
pub row_by_cells : (cols : ℕ) (line cells : List ℕ) → length line ≡ cols → ((k : ℕ) → k < cols → get_or line k 0 ≡ cell_in cols cells k) → line ≡ shown_row cols cells
unfolding shown_row
row_by_cells cols line cells width all = fill_by_all (cell_in cols cells) line cols 0 width all

-- ---- what is put into the first cells

-- nothing was put
pub none_put : (line : List ℕ) → ShowsFront (length line) [] line 0
none_put line = record { width = refl; reach = omega arith; shown = refl }

-- what fits of more numbers, put behind those that were put: either the row was full, or the front was put whole
pub more_put : (cols : ℕ) (front more line after : List ℕ) (from count : ℕ) → ShowsFront cols front line from
    → count ≡ min (length more) (cols - 1 - from) → length after ≡ length line
    → take (from + count) after ≡ take from line ++ map shown_cell (take count more)
    → ShowsFront cols (front ++ more) after (from + count)
more_put cols front more line after from count put is_count same_width shown = record {
  width = same_width ∙ put.width;
  reach = omega (arith, put.reach, is_count, length-append front more);
  shown =
      shown ∙ ap (λ cells. cells ++ map shown_cell (take count more)) put.shown
      ∙ sym (map-append shown_cell (take from front) (take count more))
      ∙ ap (map shown_cell) (sym (by_place (cases_lt from (length front))));
}
  where
    by_place : (from < length front) ⊎ (length front ≤ from)
        → take (from + count) (front ++ more) ≡ take from front ++ take count more
    by_place (inl before) =
        let none : count ≡ 0 = omega (arith, before, put.reach, is_count) in
        let same : from + count ≡ from = omega (arith, none) in
        ap (λ n. take n (front ++ more)) same
        ∙ take-append-le from front more (omega (arith, before))
        ∙ sym (append-nil (take from front))
        ∙ ap (λ n. take from front ++ take n more) (sym none)
    by_place (inr behind) =
        let whole : length front ≡ from = omega (arith, behind, put.reach) in
        take-add from count (front ++ more)
        ∙ ap₂ (λ xs ys. xs ++ take count ys) (take_at front more from whole) (drop_at front more from whole)
        ∙ ap (λ xs. xs ++ take count more) (sym (take_all from front (omega (arith, whole))))

-- a front was put, and then more behind it
pub two_put : (first second third front more : List ℕ) (middle to : ℕ) → ShowsFront (length first) front second middle
    → (ShowsFront (length second) front second middle → ShowsFront (length second) (front ++ more) third to)
    → ShowsFront (length first) (front ++ more) third to
two_put first second third front more middle to put goes_on =
    subst (λ n. ShowsFront n (front ++ more) third to) put.width
    (goes_on (subst (λ n. ShowsFront n front second middle) (sym put.width) put))

-- the cells behind those that were put are blank
module _ (cols : ℕ) (cells line : List ℕ) (to : ℕ) (put : ShowsFront cols cells line to) where
  abbrev first : List ℕ
  first = take to line

  abbrev blanks : List ℕ
  blanks = replicate (length line - to) 32

  first_width : length first ≡ to
  first_width = length-take-le to line (omega (arith, put.reach, put.width))

  width : length (first ++ blanks) ≡ cols
  width =
      omega (
        arith,
        length-append first blanks,
        first_width,
        length-replicate {A = ℕ} (length line - to) 32,
        put.width,
        put.reach,
      )

  behind_text : (k : ℕ) → to ≤ k → (k + 1 < cols) ⊎ (cols ≤ k + 1) → 32 ≡ cell_in cols cells k
  behind_text k behind (inl inside) =
      sym (ap (λ b. cond b (shown_cell (get_or cells k 32)) 32) (lt-ltb (k + 1) cols inside)
      ∙ ap shown_cell (get_or_past cells k 32 (omega (arith, behind, inside, put.reach))))
  behind_text k behind (inr last) =
      sym (ap (λ b. cond b (shown_cell (get_or cells k 32)) 32) (le-ltb (k + 1) cols last))

  in_place : (k : ℕ) → k < cols → (k < to) ⊎ (to ≤ k) → get_or (first ++ blanks) k 0 ≡ cell_in cols cells k
  in_place k below (inl before) =
      get_or_append_left first blanks 0 k (omega (arith, before, first_width))
      ∙ ap (λ l. get_or l k 0) put.shown
      ∙ get_or-map shown_cell (take to cells) k 32 0
      (omega (arith, before, put.reach, length-take-le to cells (omega (arith, put.reach))))
      ∙ ap shown_cell (get_or-take to cells k 32 before)
      ∙ sym (ap (λ b. cond b (shown_cell (get_or cells k 32)) 32)
      (lt-ltb (k + 1) cols (omega (arith, before, put.reach))))
  in_place k below (inr behind) =
      get_or-append_right first blanks k 0 (omega (arith, behind, first_width))
      ∙ get_or-replicate (length line - to) (k - length first) 32 0
      (omega (arith, below, behind, first_width, put.width))
      ∙ behind_text k behind (cases_lt (k + 1) cols)

  pub row_ends : (after : List ℕ) → after ≡ first ++ blanks → after ≡ shown_row cols cells
  row_ends after is = is ∙ row_by_cells cols (first ++ blanks) cells width (λ k below. in_place k below (cases_lt k to))

-- a row of dashes
shown_dashes : (count : ℕ) → map shown_cell (replicate count 45) ≡ replicate count 45
shown_dashes zero = refl
shown_dashes (suc count) = ap (λ cells. 45 ∷ cells) (shown_dashes count)

pub dashes_put : (cols to : ℕ) (line after : List ℕ) → length line ≡ cols → to ≡ cols - 1
    → after ≡ replicate to 45 ++ drop to line → ShowsFront cols (replicate (cols - 1) 45) after to
dashes_put cols to line after long is_to is = record {
  width =
      ap length is
      ∙ omega (
        arith,
        length-append {A = ℕ} (replicate to 45) (drop to line),
        length-replicate {A = ℕ} to 45,
        length-drop to line,
        long,
        is_to,
      );
  reach = omega (arith, is_to, length-replicate {A = ℕ} (cols - 1) 45);
  shown =
      ap (take to) is
      ∙ take_at (replicate to 45) (drop to line) to (length-replicate to 45)
      ∙ sym (shown_dashes to)
      ∙ ap (map shown_cell) (sym (take_all to (replicate to 45) (omega (arith, length-replicate {A = ℕ} to 45))))
      ∙ ap (λ n. map shown_cell (take to (replicate n 45))) is_to;
}
