-- Where the lines of a text start, and what is left of it behind the first.
use Rattle.std.specs.Prelude.{◌≡◌, refl, ℕ, zero, suc, ◌+◌, ◌-◌, ◌≤◌, ◌<◌, List, [], ◌∷◌, ◌++◌, length, take, drop, cond, count_by}
use Rattle.std.proofs.Common.{ap, ap₂, sym, ◌∙◌, arith, append_assoc, subst}
use Rattle.std.proofs.lemmas.List.{length-append, take_at}
use Rattle.std.proofs.lemmas.List.Sums.{sum_by-append}
use Rattle.lane_rows.specs.TextByte.{is_line_end}
use Rattle.file_store.specs.Loaded.{HasNoEnd}
use Rattle.file_store.specs.Private.LineStarts.{AreStarts}

-- the starts that were found, with those that are to be found in what is left, are those of the text
abbrev pub Lead : List ℕ → List ℕ → List ℕ → Type 0
Lead text found rest = (starts : List ℕ) → AreStarts rest starts → AreStarts text (found ++ starts)

pub lead_on : (text found rest line more : List ℕ) → Lead text found rest → rest ≡ line ++ (10 ∷ more) → HasNoEnd line
    → Lead text (found ++ (length more ∷ [])) more
lead_on text found rest line more lead is noend starts are =
    subst (AreStarts text) (sym (append_assoc found (length more ∷ []) starts))
    (lead (length more ∷ starts) (line, more, is, noend, refl, are))

-- a line end is one of those that are counted
pub counted : (rest line more : List ℕ) → rest ≡ line ++ (10 ∷ more) → 1 + count_by is_line_end more ≤ count_by is_line_end rest
counted rest line more is =
    omega (arith, ap (count_by is_line_end) is, count_append line (10 ∷ more), count_append (10 ∷ []) more)
  where
    count_append : (a b : List ℕ) → count_by is_line_end (a ++ b) ≡ count_by is_line_end a + count_by is_line_end b
    count_append a b = sum_by-append (λ x. cond (is_line_end x) 1 0) a b

-- what stands before the place where a text's line end stands, and behind it
pub before_end : (text line more : List ℕ) (start : ℕ) → text ≡ line ++ (10 ∷ more) → start ≡ length more
    → take (length text - start - 1) text ≡ line
before_end text line more start is e =
    let end : length line ≡ length text - start - 1 = omega (arith, ap length is, length-append line (10 ∷ more), e) in
    ap (take (length text - start - 1)) is ∙ take_at line (10 ∷ more) (length text - start - 1) end

drop_behind : (line : List ℕ) (byte : ℕ) (more : List ℕ) (n : ℕ) → n ≡ suc (length line) → drop n (line ++ (byte ∷ more)) ≡ more
drop_behind line byte more n e = ap (λ k. drop k (line ++ (byte ∷ more))) e ∙ go line
  where
    go : (line : List ℕ) → drop (suc (length line)) (line ++ (byte ∷ more)) ≡ more
    go [] = refl
    go (first ∷ line) = go line

pub behind_end : (text line more : List ℕ) (start : ℕ) → text ≡ line ++ (10 ∷ more) → start ≡ length more
    → drop (length text - start - 1 + 1) text ≡ more
behind_end text line more start is e =
    ap (drop (length text - start - 1 + 1)) is
    ∙ drop_behind line 10 more (length text - start - 1 + 1) (omega (arith, ap length is, length-append line (10 ∷ more), e))

-- the first of the starts is within the text
pub within : (text : List ℕ) (start : ℕ) (starts : List ℕ) → AreStarts text (start ∷ starts) → start + 1 ≤ length text
within text start starts h = omega (arith, ap length h.2, length-append h.0 (10 ∷ h.1), h.4)

-- the first line of a text, as its start behind it tells it
pub first_line : (text : List ℕ) (start : ℕ) (starts : List ℕ) → AreStarts text (start ∷ starts)
    → (text ≡ take (length text - start - 1) text ++ (10 ∷ drop (length text - start - 1 + 1) text))
    × HasNoEnd (take (length text - start - 1) text)
    × AreStarts (drop (length text - start - 1 + 1) text) starts
first_line text start starts h =
    let before = before_end text h.0 h.1 start h.2 h.4 in
    let behind = behind_end text h.0 h.1 start h.2 h.4 in (
      h.2 ∙ ap₂ (λ line more. line ++ (10 ∷ more)) (sym before) (sym behind),
      subst HasNoEnd (sym before) h.3,
      subst (λ more. AreStarts more starts) (sym behind) h.5,
    )
