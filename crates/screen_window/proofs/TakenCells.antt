-- The cells of a row, as a terminal takes them.
use Rattle.std.proofs.Common.{◌≡◌, ◌≤◌, ◌<◌, ℕ, ◌+◌, ◌-◌, ◌%◌, suc, min, Bool, true, false, eqb, nat_le, ◌⊎◌, inl, inr, IsTrue, List, [], ◌∷◌, ◌++◌, length, drop, get_or, refl, ap, sym, ◌∙◌, append_assoc, arith}
use Rattle.std.specs.Prelude.{All}
use Rattle.std.proofs.Math.ListN.{set}
use Rattle.std.proofs.Math.Nat.{mod-eq_of_lt, mod-eq-sub-mod}
use Rattle.std.proofs.lemmas.Bool.{or_cases, and_parts, leb-true, le-leb}
use Rattle.std.proofs.lemmas.List.{length-append}
use Rattle.std.proofs.Math.Seq.{get_or-append_seam, set-append_seam}
use Rattle.plcs_base.specs.Byte.{is_printable}
use Rattle.screen_window.specs.declared.sequence.Sequence.TheVariants.{Absent}
use Rattle.unparse_layout.specs.LaidLine.{screen_cell}
use Rattle.screen_window.specs.ScreenCell.{is_screen_cell, is_negative}
use Rattle.screen_window.specs.Paint.{image_change, spelled}
use Rattle.screen_window.specs.PlainTerminal.{PlainTerminal}
use Rattle.screen_window.specs.Terminal.{Term, terminal_after, typed}
use Rattle.screen_window.proofs.TakenBytes.{after_both}

-- a terminal with its cursor in a row between others
abbrev pub in_row : PlainTerminal → List (List ℕ) → List (List ℕ) → List ℕ → ℕ → Bool → PlainTerminal
in_row z aboves belows line before negative = record z {
  lines = aboves ++ line ∷ belows;
  above = length aboves;
  before = before;
  negative = negative;
  sequence = Absent;
}

-- the image changes
image_taken : (z : PlainTerminal) (aboves belows : List (List ℕ)) (line : List ℕ) (before : ℕ) (image negative : Bool)
    → Term (in_row z aboves belows line before image) (image_change image negative) ≡ in_row z aboves belows line before negative
unfolding Term
image_taken z aboves belows line before true true = refl
image_taken z aboves belows line before true false = refl
image_taken z aboves belows line before false true = refl
image_taken z aboves belows line before false false = refl

-- a printable byte sets the cell at the cursor
byte_taken : (z : PlainTerminal) (aboves belows : List (List ℕ)) (front rest : List ℕ) (old byte : ℕ) (image : Bool)
    → is_printable byte ≡ true → length front + 1 < z.cols
    → Term (in_row z aboves belows (front ++ old ∷ rest) (length front) image) (byte ∷ [])
    ≡ in_row z aboves belows (front ++ screen_cell image byte ∷ rest) (length front + 1) image
unfolding Term
byte_taken z aboves belows front rest old byte image printable room =
    let y = in_row z aboves belows (front ++ old ∷ rest) (length front) image in
    let other : eqb byte 27 ≡ false = grind (arith, printable) in
    let plain : terminal_after y byte ≡ typed y byte = rw (other, printable) refl in
    let right : min (length front + 1) (z.cols - 1) ≡ length front + 1 = omega (arith, room) in
    let row : set (aboves ++ (front ++ old ∷ rest) ∷ belows) (length aboves) (set (get_or (aboves ++ (front ++ old ∷ rest) ∷ belows) (length aboves) []) (length front) (screen_cell image byte))
    ≡ aboves ++ (front ++ screen_cell image byte ∷ rest) ∷ belows =
    ap (λ l. set (aboves ++ (front ++ old ∷ rest) ∷ belows) (length aboves) (set l (length front) (screen_cell image byte))) (get_or-append_seam aboves (front ++ old ∷ rest) belows [])
    ∙ set-append_seam aboves (front ++ old ∷ rest) belows (set (front ++ old ∷ rest) (length front) (screen_cell image byte))
    ∙ ap (λ l. aboves ++ l ∷ belows) (set-append_seam front old rest (screen_cell image byte)) in
    plain ∙ ap (λ n. record y { lines = set (aboves ++ (front ++ old ∷ rest) ∷ belows) (length aboves) (set (get_or (aboves ++ (front ++ old ∷ rest) ∷ belows) (length aboves) []) (length front) (screen_cell image byte)); before = n }) right
    ∙ ap (λ ls. record y { lines = ls; before = length front + 1 }) row

-- a printable byte lies in its range
printable_is : (byte : ℕ) → is_printable byte ≡ true → (32 ≤ byte) × (byte ≤ 126)
printable_is byte printable = let parts = and_parts (nat_le 32 byte) (nat_le byte 126) printable in (leb-true 32 byte parts.0, leb-true byte 126 parts.1)

-- a byte in default image, or in negative image
by_image : (cell : ℕ) → (is_printable cell ≡ true) ⊎ (is_printable (cell - 256) ≡ true)
    → (is_printable (cell % 256) ≡ true) × (screen_cell (is_negative cell) (cell % 256) ≡ cell)
by_image cell (inl default) =
    let range = printable_is cell default in
    let same : cell % 256 ≡ cell = mod-eq_of_lt (omega (arith, range.1)) in
    let positive : nat_le 256 cell ≡ false = grind (arith, range.1) in
    (ap is_printable same ∙ default, ap (λ b. screen_cell b (cell % 256)) positive ∙ same)
by_image cell (inr negative) =
    let range = printable_is (cell - 256) negative in
    let from : 256 ≤ cell = omega (arith, range.0) in
    let same : cell % 256 ≡ cell - 256 = mod-eq-sub-mod from ∙ mod-eq_of_lt (omega (arith, range.1)) in
    let whole : cell - 256 + 256 ≡ cell = omega (arith, from) in
    (ap is_printable same ∙ negative, ap (λ b. screen_cell b (cell % 256)) (le-leb 256 cell from) ∙ ap (λ n. n + 256) same ∙ whole)

-- a cell is a printable byte in its image
cell_is : (cell : ℕ) → IsTrue (is_screen_cell cell) → (is_printable (cell % 256) ≡ true) × (screen_cell (is_negative cell) (cell % 256) ≡ cell)
cell_is cell valid = by_image cell (or_cases (is_printable cell) (is_printable (cell - 256)) valid)

-- cells that are spelled, one after the other
pub cells_taken : (z : PlainTerminal) (aboves belows : List (List ℕ)) (front cells olds : List ℕ) (image : Bool)
    → All (λ cell. IsTrue (is_screen_cell cell)) cells → length front + length cells < z.cols → length cells ≤ length olds
    → Term (in_row z aboves belows (front ++ olds) (length front) image) (spelled image cells)
    ≡ in_row z aboves belows (front ++ (cells ++ drop (length cells) olds)) (length front + length cells) false
cells_taken z aboves belows front [] olds image valid room within =
    let none : length front ≡ length front + 0 = omega arith in
    image_taken z aboves belows (front ++ olds) (length front) image false ∙ ap (λ n. in_row z aboves belows (front ++ olds) n false) none
cells_taken z aboves belows front (cell ∷ cells) [] image valid room within = absurd (omega (arith, within))
cells_taken z aboves belows front (cell ∷ cells) (old ∷ olds) image valid room within =
    let negative = is_negative cell in
    let is = cell_is cell (valid 0 0 (omega arith)) in
    let longer : length (front ++ cell ∷ []) ≡ length front + 1 = length-append front (cell ∷ []) in
    let here = byte_taken z aboves belows front olds old (cell % 256) negative is.0 (omega (arith, room)) in
    let rest =
    cells_taken z aboves belows (front ++ cell ∷ []) cells olds negative (λ k d below. valid (suc k) d (omega (arith, below))) (omega (arith, longer, room)) (omega (arith, within)) in
    let count : length (front ++ cell ∷ []) + length cells ≡ length front + suc (length cells) = omega (arith, longer) in
    let goes_on = spelled negative cells in
    after_both _ _ _ (image_change image negative) (cell % 256 ∷ goes_on)
    (image_taken z aboves belows (front ++ old ∷ olds) (length front) image negative)
    (after_both _ _ _ (cell % 256 ∷ []) goes_on here
    (ap (λ c. Term (in_row z aboves belows (front ++ c ∷ olds) (length front + 1) negative) goes_on) is.1
    ∙ ap (λ l. Term (in_row z aboves belows l (length front + 1) negative) goes_on) (sym (append_assoc front (cell ∷ []) olds))
    ∙ ap (λ n. Term (in_row z aboves belows ((front ++ cell ∷ []) ++ olds) n negative) goes_on) (sym longer)
    ∙ rest
    ∙ ap (λ l. in_row z aboves belows l (length (front ++ cell ∷ []) + length cells) false) (append_assoc front (cell ∷ []) (cells ++ drop (length cells) olds))
    ∙ ap (λ n. in_row z aboves belows (front ++ cell ∷ (cells ++ drop (length cells) olds)) n false) count))
