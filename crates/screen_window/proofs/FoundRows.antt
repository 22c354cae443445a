-- The row of the window in which the line of the cursor's stop is, looked for row by row.
use Rattle.std.proofs.Common.{◌≡◌, ◌<◌, ◌≤◌, ℕ, ◌+◌, ◌-◌, min, suc, zero, ◌⊎◌, inl, inr, Bool, true, false, cond, nat_lt, length, Option, Some, None, refl, ap, sym, ◌∙◌, arith}
use Rattle.std.specs.Prelude.{find, option_map}
use Rattle.std.specs.List.{range_with_len}
use Rattle.std.proofs.lemmas.Bool.{cases_lt}
use Rattle.plcs_base.specs.CountLaws.{LaysAddUp}
use Rattle.plcs_base.specs.PlainCounts.{CountsNothing, LaysAtMost, PlainCounts}
use Rattle.template_tree.specs.Positions.Path.{node_at, slot_at}
use Rattle.template_tree.specs.Programs.PlainTree.{PlainNode}
use Rattle.screen_window.specs.Cursor.{cursor_position, node_row, position_in_row, stop_position}
use Rattle.screen_window.specs.PlainView.{PlainView}
use Rattle.screen_window.specs.Window.{window_line}
use Rattle.screen_window.specs.Private.Drawing.{begins_stop, found_before, found_or, row_from, row_line}

-- one row of the window more
found_inside : (view : PlainView) (slot : Option ℕ) (window row : ℕ) (found : Option ℕ) → row < window
    → found_before found (row_from view slot row (window - row))
    ≡ found_before (found_or found (begins_stop slot (window_line view row)) row) (row_from view slot (row + 1) (window - (row + 1)))
found_inside view slot window row found below =
    let one : window - row ≡ suc (window - (row + 1)) = omega (arith, below) in
    ap (λ n. found_before found (row_from view slot row n)) one
    ∙ by_test found (begins_stop slot (window_line view row)) (row_from view slot (row + 1) (window - (row + 1)))
  where
    by_test : (found : Option ℕ) (b : Bool) (rest : Option ℕ) → found_before found (cond b (Some row) rest) ≡ found_before (found_or found b row) rest
    by_test None true rest = refl
    by_test None false rest = refl
    by_test (Some other) true rest = refl
    by_test (Some other) false rest = refl

-- a row below the window
found_below : (view : PlainView) (slot : Option ℕ) (window row : ℕ) (found : Option ℕ) → window ≤ row
    → found_before found (row_from view slot row (window - row))
    ≡ found_before (found_or found (begins_stop slot None) row) (row_from view slot (row + 1) (window - (row + 1)))
found_below view slot window row found below =
    let none : window - row ≡ 0 = omega (arith, below) in
    let none_more : 0 ≡ window - (row + 1) = omega (arith, below) in
    ap (λ n. found_before found (row_from view slot row n)) none
    ∙ by_case slot found
    ∙ ap (λ n. found_before (found_or found (begins_stop slot None) row) (row_from view slot (row + 1) n)) none_more
  where
    by_case : (slot found : Option ℕ) → found_before found None ≡ found_before (found_or found (begins_stop slot None) row) None
    by_case None None = refl
    by_case None (Some other) = refl
    by_case (Some node) None = refl
    by_case (Some node) (Some other) = refl

-- one row of the screen more
pub found_more : (view : PlainView) (slot : Option ℕ) (window row : ℕ) (found whole : Option ℕ) → whole ≡ found_before found (row_from view slot row (window - row))
    → whole ≡ found_before (found_or found (begins_stop slot (row_line window view row)) row) (row_from view slot (row + 1) (window - (row + 1)))
found_more view slot window row found whole so_far = so_far ∙ by_place (cases_lt row window)
  where
    goes_on : Bool → Option ℕ
    goes_on b = found_before (found_or found (begins_stop slot (cond b (window_line view row) None)) row) (row_from view slot (row + 1) (window - (row + 1)))

    by_place : (row < window) ⊎ (window ≤ row) → found_before found (row_from view slot row (window - row))
        ≡ found_before (found_or found (begins_stop slot (row_line window view row)) row) (row_from view slot (row + 1) (window - (row + 1)))
    by_place (inl below) =
        let is : nat_lt row window ≡ true = grind (arith, below) in
        found_inside view slot window row found below
        ∙ ap (λ b. found_before (found_or found (begins_stop slot (cond b (window_line view row) None)) row) (row_from view slot (row + 1) (window - (row + 1)))) (sym is)
    by_place (inr behind) =
        let is : nat_lt row window ≡ false = grind (arith, behind) in
        found_below view slot window row found behind
        ∙ ap (λ b. found_before (found_or found (begins_stop slot (cond b (window_line view row) None)) row) (row_from view slot (row + 1) (window - (row + 1)))) (sym is)

-- all rows
pub found_all : (view : PlainView) (slot : Option ℕ) (window row : ℕ) (found whole : Option ℕ) → window ≤ row
    → whole ≡ found_before found (row_from view slot row (window - row)) → found ≡ whole
found_all view slot window row found whole below so_far =
    let none : window - row ≡ 0 = omega (arith, below) in
    sym (so_far ∙ ap (λ n. found_before found (row_from view slot row n)) none ∙ by_case found)
  where
    by_case : (found : Option ℕ) → found_before found None ≡ found
    by_case None = refl
    by_case (Some other) = refl

-- a number that is found in a range lies in it
found_within : (test : ℕ → Bool) (from count row : ℕ) → Some row ≡ find test (range_with_len from count) → row < from + count
found_within test from zero row found = absurd (cc)
found_within test from (suc count) row found =
    by_test (test from) found (λ rest. found_within test (from + 1) count row rest)
  where
    by_test : (b : Bool) → Some row ≡ cond b (Some from) (find test (range_with_len (from + 1) count))
        → (Some row ≡ find test (range_with_len (from + 1) count) → row < from + 1 + count) → row < from + suc count
    by_test true here later = let same : row ≡ from = cc in omega (arith, same)
    by_test false there later = let within = later there in omega (arith, within)

-- the row found lies in the window
pub row_within : (view : PlainView) (slot : Option ℕ) (window row : ℕ) → Some row ≡ row_from view slot 0 window → row < window
row_within view slot window row found =
    let within = found_within (λ r. begins_stop slot (window_line view r)) 0 window row found in omega (arith, within)

-- the cursor stands in the row found
at_row : (cols col row : ℕ) (o : Option ℕ) → Some row ≡ o → row + 1 ≡ (position_in_row cols col o).row
at_row cols col row None found = absurd (cc)
at_row cols col row (Some other) found = let same : row ≡ other = cc in ap (λ n. n + 1) same

at_stop : (rows cols : ℕ) (view : PlainView) (node : PlainNode) (row : ℕ) (o : Option PlainNode) → Some node ≡ o
    → Some row ≡ row_from view (option_map (λ n. n.label.slot) o) 0 (rows - 6) → row + 1 ≡ (stop_position rows cols view o).row
at_stop rows cols view node row None there found = absurd (cc)
at_stop rows cols view node row (Some other) there found = at_row cols _ row (node_row (rows - 6) view other.label.slot) found

pub cursor_row : (rows cols : ℕ) (view : PlainView) (node : PlainNode) (row : ℕ) → length view.typed ≡ 0 → Some node ≡ node_at view.items view.stop.path
    → Some row ≡ row_from view (slot_at view.items view.stop.path) 0 (rows - 6) → row + 1 ≡ (cursor_position rows cols view).row
cursor_row rows cols view node row empty there found = rw empty (at_stop rows cols view node row (node_at view.items view.stop.path) there found)

-- a line of the window is laid, and no other
pub laid_more : (row window : ℕ) (first before now : PlainCounts) → LaysAddUp → LaysAtMost (min row window) first before
    → (row < window → LaysAtMost 1 before now) → (window ≤ row → CountsNothing before now) → LaysAtMost (min (row + 1) window) first now
laid_more row window first before now laws so_far lays still = by_place (cases_lt row window)
  where
    by_place : (row < window) ⊎ (window ≤ row) → LaysAtMost (min (row + 1) window) first now
    by_place (inl below) =
        laws.joined (min row window) 1 (min (row + 1) window) first before now (omega (arith, below)) so_far (lays below)
    by_place (inr behind) =
        laws.joined (min row window) 0 (min (row + 1) window) first before now (omega (arith, behind)) so_far (laws.none 0 before now (still behind))

-- at last, no more lines than the window has rows
pub laid_all : (row window : ℕ) (first now : PlainCounts) → LaysAddUp → LaysAtMost (min row window) first now → LaysAtMost window first now
laid_all row window first now laws so_far =
    laws.joined (min row window) 0 window first now now (omega arith) so_far (laws.none 0 now now refl)
