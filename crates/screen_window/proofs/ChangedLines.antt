-- Rows of cells, one of which is changed.
use Rattle.std.proofs.Common.{◌≡◌, ◌<◌, ℕ, ◌+◌, ◌-◌, suc, List, [], ◌∷◌, ◌++◌, length, map, replicate, take, drop, get_or, ap, sym, ◌∙◌, subst, append_assoc, add-one, arith}
use Rattle.std.specs.Prelude.{All}
use Rattle.std.proofs.Math.ListN.{set}
use Rattle.std.proofs.lemmas.List.Elements.{All-set, All-same}
use Rattle.std.proofs.Math.Seq.{drop-cons, set-append_seam}
use Rattle.std.proofs.lemmas.List.{map-set, length-map, get_or-map, length-replicate, replicate-append-replicate}

-- a row that is kept is changed: so is the row that it stands for
pub changed_line : {V : Type 0} (items : V → List ℕ) (lines : List V) (row : ℕ) (old new : V) (change : List ℕ → List ℕ) → row < length (map items lines)
    → old ≡ get_or lines row old → items new ≡ change (items old)
    → map items (set lines row new) ≡ set (map items lines) row (change (get_or (map items lines) row []))
changed_line items lines row old new change below same changed =
    let within : row < length lines = subst (λ n. row < n) (length-map lines items) below in
    map-set items lines row new
    ∙ ap (set (map items lines) row) (changed ∙ ap change (ap items same ∙ sym (get_or-map items lines row old [] within)))

-- one more of the rows is the same row
pub same_more : (line : List ℕ) (lines : List (List ℕ)) (row : ℕ) → row < length lines
    → set (replicate row line ++ drop row lines) row line ≡ replicate (row + 1) line ++ drop (row + 1) lines
same_more line lines row below =
    let front = replicate row line in
    ap (λ ls. set (front ++ ls) row line) (drop-cons lines row [] below)
    ∙ ap (λ n. set (front ++ get_or lines row [] ∷ drop (suc row) lines) n line) (sym (length-replicate row line))
    ∙ set-append_seam front (get_or lines row []) (drop (suc row) lines) line
    ∙ sym (append_assoc front (line ∷ []) (drop (suc row) lines))
    ∙ ap (λ ls. ls ++ drop (suc row) lines) (replicate-append-replicate row 1 line)
    ∙ ap (λ n. replicate (row + 1) line ++ drop n lines) (sym (add-one row))

-- one more of the rows is blank
pub blank_more : (lines olds : List (List ℕ)) (row cols : ℕ) → lines ≡ replicate row (replicate cols 32) ++ drop row olds → row < length olds
    → length (get_or lines row []) ≡ cols
    → set lines row (take 0 (get_or lines row []) ++ replicate (length (get_or lines row []) - 0) 32)
    ≡ replicate (row + 1) (replicate cols 32) ++ drop (row + 1) olds
blank_more lines olds row cols so_far below width =
    let all : length (get_or lines row []) - 0 ≡ cols = omega (arith, width) in
    ap (λ n. set lines row (replicate n 32)) all
    ∙ ap (λ ls. set ls row (replicate cols 32)) so_far
    ∙ same_more (replicate cols 32) olds row below

-- and all rows stay of one width
pub widths_more : (lines news : List (List ℕ)) (row cols : ℕ) (line : List ℕ) → news ≡ set lines row line → length line ≡ cols
    → All (λ l. length l ≡ cols) lines → All (λ l. length l ≡ cols) news
widths_more lines news row cols line same width widths =
    All-same (λ l. length l ≡ cols) news (set lines row line) same (All-set (λ l. length l ≡ cols) lines row line width widths)
