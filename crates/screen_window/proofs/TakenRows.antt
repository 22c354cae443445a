-- The rows of a grid, as a terminal takes them.
use Rattle.std.proofs.Common.{◌≡◌, ◌≤◌, ◌<◌, ℕ, ◌+◌, ◌-◌, suc, Bool, true, false, cond, eqb, IsTrue, List, [], ◌∷◌, ◌++◌, length, take, drop, get_or, replicate, refl, ap, sym, ◌∙◌, subst, append_assoc, zero-add, arith}
use Rattle.std.specs.Prelude.{All, nat_eq}
use Rattle.std.specs.Cmp.Lexicographic.{pointwise}
use Rattle.std.proofs.Math.ListN.{set}
use Rattle.std.proofs.Math.Seq.{get_or-append_seam, set-append_seam, take-append_seam}
use Rattle.std.proofs.lemmas.List.{length-append, get_or_append_left}
use Rattle.std.proofs.lemmas.Bool.{eqb-true, and_parts}
use Rattle.screen_window.specs.declared.sequence.Sequence.TheVariants.{Absent}
use Rattle.screen_window.specs.ScreenCell.{is_screen_cell}
use Rattle.screen_window.specs.Paint.{cut_before, go_to, row_piece, rows_paint, spelled, visible}
use Rattle.screen_window.specs.PlainGrid.{IsRow}
use Rattle.screen_window.specs.PlainTerminal.{PlainTerminal}
use Rattle.screen_window.specs.Terminal.{Term, nearest, with_sequence}
use Rattle.screen_window.proofs.TakenBytes.{after_none, after_both}
use Rattle.screen_window.proofs.TakenNumbers.{gone_to}
use Rattle.screen_window.proofs.TakenCells.{in_row, cells_taken}

-- a cell before others, where a blank before nothing falls away, and the blanks that fell away
cut_whole : (cell : ℕ) (vs cells : List ℕ) → vs ++ replicate (length cells - length vs) 32 ≡ cells
    → cut_before cell vs ++ replicate (suc (length cells) - length (cut_before cell vs)) 32 ≡ cell ∷ cells
cut_whole cell [] cells whole = by_test (eqb cell 32) refl
  where
    by_test : (b : Bool) → eqb cell 32 ≡ b → cond b [] (cell ∷ []) ++ replicate (suc (length cells) - length (cond b [] (cell ∷ []))) 32 ≡ cell ∷ cells
    by_test true is =
        let all : suc (length cells) - 0 ≡ suc (length cells - 0) = omega arith in
        ap (λ n. replicate {A = ℕ} n 32) all ∙ ap (λ c. c ∷ replicate (length cells - 0) 32) (sym (eqb-true cell 32 is)) ∙ ap (λ l. cell ∷ l) whole
    by_test false is =
        let less : suc (length cells) - 1 ≡ length cells - 0 = omega arith in
        ap (λ n. cell ∷ replicate n 32) less ∙ ap (λ l. cell ∷ l) whole
cut_whole cell (v ∷ vs) cells whole =
    let less : suc (length cells) - suc (suc (length vs)) ≡ length cells - suc (length vs) = omega arith in
    ap (λ n. cell ∷ v ∷ (vs ++ replicate n 32)) less ∙ ap (λ l. cell ∷ l) whole

-- what stands before the last that isn't a blank, and blanks, are the whole row
visible_whole : (cells : List ℕ) → visible cells ++ replicate (length cells - length (visible cells)) 32 ≡ cells
visible_whole [] = refl
visible_whole (cell ∷ cells) = cut_whole cell (visible cells) cells (visible_whole cells)

-- a cell more at most
cut_short : (cell : ℕ) (vs : List ℕ) → length (cut_before cell vs) ≤ suc (length vs)
cut_short cell [] = by_test (eqb cell 32)
  where
    by_test : (b : Bool) → length (cond b [] (cell ∷ [])) ≤ 1
    by_test true = omega arith
    by_test false = omega arith
cut_short cell (v ∷ vs) = omega arith

-- as many at most
visible_short : (cells : List ℕ) → length (visible cells) ≤ length cells
visible_short [] = omega arith
visible_short (cell ∷ cells) = let rest = visible_short cells in omega (arith, cut_short cell (visible cells), rest)

-- not all where the last is a blank
visible_less : (cells : List ℕ) → 0 < length cells → get_or cells (length cells - 1) 32 ≡ 32 → length (visible cells) < length cells
visible_less [] some last = absurd (omega (arith, some))
visible_less (cell ∷ []) some last = rw last (omega arith)
visible_less (cell ∷ next ∷ rest) some last =
    let here : suc (suc (length rest)) - 1 ≡ suc (length rest) = omega arith in
    let there : length rest ≡ suc (length rest) - 1 = omega arith in
    let same = ap (λ k. get_or (next ∷ rest) k 32) (sym there) ∙ ap (λ k. get_or (cell ∷ next ∷ rest) k 32) (sym here) ∙ last in
    let less = visible_less (next ∷ rest) (omega arith) same in
    omega (arith, cut_short cell (visible (next ∷ rest)), less)

-- the cells before the last that isn't a blank are cells
visible_cells : (cells : List ℕ) → All (λ cell. IsTrue (is_screen_cell cell)) cells → All (λ cell. IsTrue (is_screen_cell cell)) (visible cells)
visible_cells cells valid = λ k d below.
    let blanks = replicate (length cells - length (visible cells)) 32 in
    ap is_screen_cell (sym (get_or_append_left (visible cells) blanks d k below) ∙ ap (λ l. get_or l k d) (visible_whole cells))
    ∙ valid k d (omega (arith, below, visible_short cells))

-- blanks from the cursor on
tail_taken : (z : PlainTerminal) (aboves belows : List (List ℕ)) (front rest : List ℕ)
    → Term (in_row z aboves belows (front ++ rest) (length front) false) (27 ∷ 91 ∷ 75 ∷ [])
    ≡ in_row z aboves belows (front ++ replicate (z.cols - length front) 32) (length front) false
unfolding Term
tail_taken z aboves belows front rest =
    let lines = aboves ++ (front ++ rest) ∷ belows in
    let y = in_row z aboves belows (front ++ rest) (length front) false in
    let tail = replicate (z.cols - length front) 32 in
    ap (λ ls. record y { lines = ls })
    (ap (λ l. set lines (length aboves) (take (length front) l ++ tail)) (get_or-append_seam aboves (front ++ rest) belows [])
    ∙ ap (λ l. set lines (length aboves) (l ++ tail)) (take-append_seam front rest)
    ∙ set-append_seam aboves (front ++ rest) belows (front ++ tail))

-- one row
piece_taken : (z : PlainTerminal) (aboves belows : List (List ℕ)) (old new : List ℕ) → length aboves < z.rows → z.rows ≤ 100 → 1 ≤ z.cols
    → z.lines ≡ aboves ++ old ∷ belows → z.negative ≡ false → length old ≡ z.cols → IsRow z.cols new
    → Term (with_sequence z Absent) (row_piece (length aboves + 1) new) ≡ in_row z aboves belows new (length (visible new)) false
unfolding row_piece
piece_taken z aboves belows old new inside few some lines image width is_row =
    let shown = visible new in
    let number = length aboves + 1 in
    let below : nearest z.rows number ≡ length aboves = omega (arith, inside) in
    let first : nearest z.cols 1 ≡ 0 = omega (arith, some) in
    let less = visible_less new (omega (arith, is_row.width, some)) (ap (λ n. get_or new (n - 1) 32) is_row.width ∙ is_row.last) in
    let fits : length {A = ℕ} [] + length shown < z.cols = omega (arith, less, is_row.width) in
    let start =
    gone_to z number 1 (omega (arith, inside, few)) (omega arith)
    ∙ ap (λ n. record z { above = n; before = nearest z.cols 1; sequence = Absent }) below
    ∙ ap (λ n. record z { above = length aboves; before = n; sequence = Absent }) first
    ∙ ap (λ ls. record z { lines = ls; above = length aboves; before = 0; sequence = Absent }) lines
    ∙ ap (λ b. record z { lines = aboves ++ old ∷ belows; above = length aboves; before = 0; negative = b; sequence = Absent }) image in
    let cells = cells_taken z aboves belows [] shown old false (visible_cells new is_row.cells) fits (omega (arith, fits, width)) in
    let blanks = tail_taken z aboves belows shown (drop (length shown) old) in
    let whole : shown ++ replicate (z.cols - length shown) 32 ≡ new =
    ap (λ n. shown ++ replicate (n - length shown) 32) (sym is_row.width) ∙ visible_whole new in
    after_both _ _ _ (go_to number 1) (spelled false shown ++ (27 ∷ 91 ∷ 75 ∷ [])) start
    (after_both _ _ _ (spelled false shown) (27 ∷ 91 ∷ 75 ∷ []) (cells ∙ ap (λ n. in_row z aboves belows (shown ++ drop (length shown) old) n false) (zero-add (length shown)))
    (blanks ∙ ap (λ l. in_row z aboves belows l (length shown) false) whole))

-- rows were taken: these are the lines, the image is the default one, and no sequence is unfinished
pub record RowsTaken (z : PlainTerminal) (bytes : List ℕ) (lines : List (List ℕ)) : Type 0 where
  pub above : ℕ
  pub before : ℕ
  pub taken : Term (with_sequence z Absent) bytes ≡ record z { lines = lines; above = above; before = before; negative = false; sequence = Absent }

-- one row more stands above
one_above : (z : PlainTerminal) (aboves olds news : List (List ℕ)) (line : List ℕ)
    → RowsTaken z (rows_paint (length (aboves ++ line ∷ []) + 1) olds news) ((aboves ++ line ∷ []) ++ news)
    → RowsTaken z (rows_paint (length aboves + 1 + 1) olds news) (aboves ++ line ∷ news)
one_above z aboves olds news line rest =
    let count : length (aboves ++ line ∷ []) ≡ length aboves + 1 = length-append aboves (line ∷ []) in
    subst (RowsTaken z (rows_paint (length aboves + 1 + 1) olds news)) (append_assoc aboves (line ∷ []) news)
    (subst (λ n. RowsTaken z (rows_paint (n + 1) olds news) ((aboves ++ line ∷ []) ++ news)) count rest)

-- some bytes that give a terminal, and then rows
rows_behind : (z y : PlainTerminal) (piece bytes : List ℕ) (lines : List (List ℕ)) → z.rows ≡ y.rows → z.cols ≡ y.cols
    → Term (with_sequence z Absent) piece ≡ with_sequence y Absent → RowsTaken y bytes lines → RowsTaken z (piece ++ bytes) lines
rows_behind z y piece bytes lines rows cols first rest = record {
  above = rest.above;
  before = rest.before;
  taken =
      after_both _ _ _ piece bytes first rest.taken
      ∙ ap (λ n. record y { rows = n; lines = lines; above = rest.above; before = rest.before; negative = false; sequence = Absent }) (sym rows)
      ∙ ap (λ n. record y { rows = z.rows; cols = n; lines = lines; above = rest.above; before = rest.before; negative = false; sequence = Absent }) (sym cols);
}

-- rows in which each cell is that of the other are equal
same_rows : (olds news : List ℕ) → pointwise nat_eq olds news ≡ true → olds ≡ news
same_rows [] [] same = refl
same_rows [] (new ∷ news) same = absurd (cc)
same_rows (old ∷ olds) [] same = absurd (cc)
same_rows (old ∷ olds) (new ∷ news) same =
    let parts = and_parts (nat_eq old new) (pointwise nat_eq olds news) same in
    ap (λ c. c ∷ olds) (eqb-true old new parts.0) ∙ ap (λ cs. new ∷ cs) (same_rows olds news parts.1)

-- a row that may differ, and then others
row_by_test : (z : PlainTerminal) (old new piece bytes : List ℕ) (lines : List (List ℕ)) (b : Bool) → pointwise nat_eq old new ≡ b
    → (old ≡ new → RowsTaken z bytes lines) → RowsTaken z (piece ++ bytes) lines → RowsTaken z (cond b [] piece ++ bytes) lines
row_by_test z old new piece bytes lines true test same other = same (same_rows old new test)
row_by_test z old new piece bytes lines false test same other = other

-- the rows that differ
pub rows_taken : (z : PlainTerminal) (aboves olds news : List (List ℕ)) → length olds ≡ length news → length aboves + length olds ≡ z.rows
    → z.rows ≤ 100 → 1 ≤ z.cols → z.lines ≡ aboves ++ olds → z.negative ≡ false
    → All (λ line. length line ≡ z.cols) olds → All (IsRow z.cols) news
    → RowsTaken z (rows_paint (length aboves + 1) olds news) (aboves ++ news)
rows_taken z aboves [] [] count inside few some lines image widths are_rows = record {
  above = z.above;
  before = z.before;
  taken =
      after_none _
      ∙ ap (λ ls. record z { lines = ls; sequence = Absent }) lines
      ∙ ap (λ b. record z { lines = aboves ++ []; negative = b; sequence = Absent }) image;
}
rows_taken z aboves [] (new ∷ news) count inside few some lines image widths are_rows = absurd (omega (arith, count))
rows_taken z aboves (old ∷ olds) [] count inside few some lines image widths are_rows = absurd (omega (arith, count))
rows_taken z aboves (old ∷ olds) (new ∷ news) count inside few some lines image widths are_rows =
    let rest_widths : All (λ line. length line ≡ z.cols) olds = λ k d below. widths (suc k) d (omega (arith, below)) in
    let rest_rows : All (IsRow z.cols) news = λ k d below. are_rows (suc k) d (omega (arith, below)) in
    let longer : length (aboves ++ new ∷ []) ≡ length aboves + 1 = length-append aboves (new ∷ []) in
    let y = in_row z aboves olds new (length (visible new)) false in
    let piece = piece_taken z aboves olds old new (omega (arith, inside)) few some lines image (widths 0 [] (omega arith)) (are_rows 0 [] (omega arith)) in
    row_by_test z old new (row_piece (length aboves + 1) new) (rows_paint (length aboves + 1 + 1) olds news) (aboves ++ new ∷ news)
    (pointwise nat_eq old new) refl
    (λ same. one_above z aboves olds news new
    (rows_taken z (aboves ++ new ∷ []) olds news (omega (arith, count)) (omega (arith, longer, inside)) few some
    (lines ∙ ap (λ line. aboves ++ line ∷ olds) same ∙ sym (append_assoc aboves (new ∷ []) olds)) image rest_widths rest_rows))
    (rows_behind z y (row_piece (length aboves + 1) new) (rows_paint (length aboves + 1 + 1) olds news) (aboves ++ new ∷ news) refl refl piece
    (one_above y aboves olds news new
    (rows_taken y (aboves ++ new ∷ []) olds news (omega (arith, count)) (omega (arith, longer, inside)) few some
    (sym (append_assoc aboves (new ∷ []) olds)) refl rest_widths rest_rows)))
