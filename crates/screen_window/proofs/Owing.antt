-- Bytes that a sink takes piece by piece.
use Rattle.std.proofs.Common.{◌≡◌, ◌<◌, ℕ, ◌+◌, ◌-◌, suc, List, [], ◌∷◌, ◌++◌, Option, length, drop, get_or, sym, ap, ◌∙◌, subst, append_assoc, add-one, arith}
use Rattle.std.proofs.Math.Seq.{drop-cons}
use Rattle.std.proofs.KnownBytes.{Appends-trans}
use Rattle.std.specs.Io.KnownBytes.{Appends}
use Rattle.synth_outside.specs.Sink.{AppendsFront}
use Rattle.screen_window.specs.Paint.{row_paint, rows_paint}
use Rattle.screen_window.proofs.Fronts.{AppendsFront-append, AppendsFront-first}

-- the sink took some bytes, which are the whole together with the rest
pub record Owes (before now : Option (List ℕ)) (rest whole : List ℕ) : Type 0 where
  pub done : List ℕ
  pub taken : Appends before now done
  pub joined : done ++ rest ≡ whole

-- one more piece was taken
pub owes_more : (a b c : Option (List ℕ)) (piece rest whole : List ℕ) → Owes a b (piece ++ rest) whole → Appends b c piece → Owes a c rest whole
owes_more a b c piece rest whole owed taken = record {
  done = owed.done ++ piece;
  taken = Appends-trans a b c owed.done piece owed.taken taken;
  joined = append_assoc owed.done piece rest ∙ owed.joined;
}

-- of the next piece a front was taken
pub owes_failed : (a b c : Option (List ℕ)) (piece rest whole : List ℕ) → Owes a b (piece ++ rest) whole → AppendsFront b c piece → AppendsFront a c whole
owes_failed a b c piece rest whole owed front =
    subst (AppendsFront a c) owed.joined (AppendsFront-append a b c owed.done (piece ++ rest) owed.taken (AppendsFront-first b c piece rest front))

-- the rows from a place on are the row there and those behind it
pub rows_paint-drop : (number row : ℕ) (olds news : List (List ℕ)) → row < length olds → row < length news
    → rows_paint number (drop row olds) (drop row news)
    ≡ row_paint number (get_or olds row []) (get_or news row []) ++ rows_paint (number + 1) (drop (row + 1) olds) (drop (row + 1) news)
rows_paint-drop number row olds news in_olds in_news =
    ap (λ xs. rows_paint number xs (drop row news)) (drop-cons olds row [] in_olds)
    ∙ ap (λ ys. rows_paint number (get_or olds row [] ∷ drop (suc row) olds) ys) (drop-cons news row [] in_news)
    ∙ ap (λ n. row_paint number (get_or olds row []) (get_or news row []) ++ rows_paint (number + 1) (drop n olds) (drop n news)) (sym (add-one row))

-- the row at a place comes next
pub owes_row : (a b : Option (List ℕ)) (number row : ℕ) (olds news : List (List ℕ)) (old new whole : List ℕ) → row < length olds → row < length news
    → old ≡ get_or olds row [] → new ≡ get_or news row [] → Owes a b (rows_paint number (drop row olds) (drop row news)) whole
    → Owes a b (row_paint number old new ++ rows_paint (number + 1) (drop (row + 1) olds) (drop (row + 1) news)) whole
owes_row a b number row olds news old new whole in_olds in_news is_old is_new owed =
    let rest = rows_paint (number + 1) (drop (row + 1) olds) (drop (row + 1) news) in
    let next : rows_paint number (drop row olds) (drop row news) ≡ row_paint number old new ++ rest =
    rows_paint-drop number row olds news in_olds in_news
    ∙ sym (ap (λ xs. row_paint number xs new ++ rest) is_old ∙ ap (λ ys. row_paint number (get_or olds row []) ys ++ rest) is_new) in
    subst (λ l. Owes a b l whole) next owed

-- the row of the number that counts from 1
pub row_again : (lines : List (List ℕ)) (row : ℕ) {line : List ℕ} → line ≡ get_or lines (row + 1 - 1) [] → line ≡ get_or lines row []
row_again lines row same = let again : row + 1 - 1 ≡ row = omega arith in same ∙ ap (λ n. get_or lines n []) again
