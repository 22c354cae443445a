-- Numbers that are shown in a row from a column on: one more, several more, and 8 at once.
use Rattle.std.proofs.Common.{◌≡◌, ◌<◌, ◌≤◌, ℕ, ◌+◌, ◌-◌, Bool, true, false, ◌&&◌, ◌||◌, cond, leb, List, [], ◌∷◌, ◌++◌, length, map, take, drop, replicate, set, get_or, refl, ap, ap₂, sym, ◌∙◌, append_assoc, take-add, suc, bit_and, bit_or, arith}
use Rattle.std.proofs.lemmas.List.{length-drop, length-take-le, map-append, map_more, take_all, take_more_set}
use lib.Lanes.{sel_l, top}
use Rattle.screen_window.specs.ScreenCell.{is_screen_cell}
use Rattle.screen_window.specs.ShownRow.{shown_cell}

-- one number more is shown
pub one_more : (line old cells : List ℕ) (from k cell : ℕ) → cell ≡ shown_cell (get_or cells k 0)
    → take (from + k) line ≡ take from old ++ map shown_cell (take k cells) → from + k < length line → k < length cells
    → take (from + (k + 1)) (set line (from + k) cell) ≡ take from old ++ map shown_cell (take (k + 1) cells)
one_more line old cells from k cell is so_far in_line in_cells =
    let next : from + (k + 1) ≡ from + k + 1 = omega arith in
    ap (λ n. take n (set line (from + k) cell)) next
    ∙ take_more_set line (from + k) cell in_line
    ∙ ap₂ (λ l c. l ++ c ∷ []) so_far is
    ∙ append_assoc (take from old) (map shown_cell (take k cells)) (shown_cell (get_or cells k 0) ∷ [])
    ∙ ap (λ l. take from old ++ l) (sym (map_more shown_cell cells k 0 in_cells))

-- several numbers more are shown
pub several_more : (line after old cells : List ℕ) (from at count : ℕ)
    → take (from + at) line ≡ take from old ++ map shown_cell (take at cells)
    → take (from + at + count) after ≡ take (from + at) line ++ map shown_cell (take count (drop at cells))
    → take (from + (at + count)) after ≡ take from old ++ map shown_cell (take (at + count) cells)
several_more line after old cells from at count so_far shown =
    let next : from + (at + count) ≡ from + at + count = omega arith in
    let more = take count (drop at cells) in
    ap (λ n. take n after) next ∙ shown
    ∙ ap (λ l. l ++ map shown_cell more) so_far
    ∙ append_assoc (take from old) (map shown_cell (take at cells)) (map shown_cell more)
    ∙ ap (λ l. take from old ++ l) (sym (map-append shown_cell (take at cells) more))
    ∙ ap (λ l. take from old ++ map shown_cell l) (sym (take-add at count cells))

-- all that are left are shown
pub rest_shown : (line after old cells : List ℕ) (from at : ℕ) → at ≤ length cells
    → take (from + at) line ≡ take from old ++ map shown_cell (take at cells)
    → take (from + at + length (take (length cells - at) (drop at cells))) after
    ≡ take (from + at) line ++ map shown_cell (take (length cells - at) (drop at cells))
    → take (from + length cells) after ≡ take from old ++ map shown_cell cells
rest_shown line after old cells from at within so_far shown =
    let count = length cells - at in
    let long : length (take count (drop at cells)) ≡ count =
    length-take-le count (drop at cells) (omega (arith, length-drop at cells)) in
    let all : at + count ≡ length cells = omega (arith, within) in
    ap (λ n. take (from + n) after) (sym all)
    ∙ several_more line after old cells from at count so_far (ap (λ n. take (from + at + n) after) (sym long) ∙ shown)
    ∙ ap (λ n. take from old ++ map shown_cell (take n cells)) all
    ∙ ap (λ l. take from old ++ map shown_cell l) (take_all (length cells) cells (omega arith))

-- ---- 8 at once

-- of two vectors the lanes that a test sets are chosen
chosen : (lane : ℕ → ℕ) (numbers : List ℕ) (other : ℕ)
    → sel_l (map (top 15) (map lane numbers)) numbers (replicate (length numbers) other)
    ≡ map (λ x. cond (top 15 (lane x)) x other) numbers
chosen lane [] other = refl
chosen lane (x ∷ xs) other = ap (λ l. cond (top 15 (lane x)) x other ∷ l) (chosen lane xs other)

-- what the comparisons of a number with the borders of the two images leave in its lane
abbrev pub lane_of : ℕ → ℕ
lane_of x =
    bit_or (bit_and (cond (leb 32 x) 65535 0) (cond (leb x 126) 65535 0))
    (bit_and (cond (leb 288 x) 65535 0) (cond (leb x 382) 65535 0))

-- a lane is set as the tests say
set_as : (a b c d : Bool)
    → top 15 (bit_or (bit_and (cond a 65535 0) (cond b 65535 0)) (bit_and (cond c 65535 0) (cond d 65535 0)))
    ≡ ((a && b) || (c && d))
set_as true true true true = refl
set_as true true true false = refl
set_as true true false true = refl
set_as true true false false = refl
set_as true false true true = refl
set_as true false true false = refl
set_as true false false true = refl
set_as true false false false = refl
set_as false true true true = refl
set_as false true true false = refl
set_as false true false true = refl
set_as false true false false = refl
set_as false false true true = refl
set_as false false true false = refl
set_as false false false true = refl
set_as false false false false = refl

-- the second image begins 256 above the first
above : (least x : ℕ) → leb (256 + suc least) x ≡ leb (suc least) (x - 256)
above least x = grind arith

below : (most x : ℕ) → leb x (256 + most) ≡ leb (x - 256) most
below most x = grind arith

is_set : (x : ℕ) → top 15 (lane_of x) ≡ is_screen_cell x
is_set x =
    set_as (leb 32 x) (leb x 126) (leb 288 x) (leb x 382)
    ∙ ap₂ (λ c d. (leb 32 x && leb x 126) || (c && d)) (above 31 x) (below 126 x)

-- 8 numbers are shown
pub lanes_shown : (numbers mask : List ℕ) → length numbers ≡ 8 → mask ≡ map lane_of numbers
    → sel_l (map (top 15) mask) numbers (replicate 8 32) ≡ map shown_cell numbers
lanes_shown numbers mask long is =
    ap₂ (λ m n. sel_l (map (top 15) m) numbers (replicate n 32)) is (sym long)
    ∙ chosen lane_of numbers 32
    ∙ (λ i. map (λ x. cond (is_set x i) x 32) numbers)
