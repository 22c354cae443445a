-- The sequence that moves the cursor, as a terminal takes it.
use Rattle.std.proofs.Common.{◌≡◌, ◌≤◌, ◌<◌, ℕ, ◌+◌, ◌-◌, ◌*◌, ◌^◌, true, List, [], ◌∷◌, ◌++◌, length, decimal, refl, ap, sym, ◌∙◌, append_assoc, zero-add, arith}
use Rattle.std.proofs.lemmas.Fmt.{digits_decimal, digits_value-decimal, decimal_is_IsNumeral}
use Rattle.std.proofs.lemmas.Str.Parse.{FoldsDigits, IsNumeralModel, numerals_by_fold, tells_digits, digit_from_value}
use Rattle.std.specs.Str.Parse.{AllDigits}
use Rattle.plcs_base.specs.Byte.{is_digit}
use Rattle.screen_window.specs.declared.sequence.Sequence.TheVariants.{Absent, Behind}
use Rattle.screen_window.specs.declared.sequence.Gathered.{Gathered}
use Rattle.screen_window.specs.declared.sequence.Gathered.TheVariants.{Nothing, Digit, Number, Row, Position}
use Rattle.screen_window.specs.Paint.{go_to}
use Rattle.screen_window.specs.PlainTerminal.{PlainTerminal}
use Rattle.screen_window.specs.Terminal.{Term, terminal_after, longer, with_cursor_at, with_digit, with_sequence}
use Rattle.screen_window.proofs.TakenBytes.{after_none, after_byte, after_both}

-- the number that digits write behind a number
after10 : ℕ → List ℕ → ℕ
after10 n [] = n
after10 n (c ∷ cs) = after10 (n * 10 + (c - 48)) cs

folds : FoldsDigits after10
unfolding after10
folds = record { empty = λ n. refl; more = λ n c cs digit. refl }

model : IsNumeralModel (AllDigits 10) (after10 0)
model = numerals_by_fold (AllDigits 10) tells_digits after10 folds

-- no digit makes a number less
after10-grows : (n : ℕ) (ds : List ℕ) → n ≤ after10 n ds
unfolding after10
after10-grows n [] = omega arith
after10-grows n (c ∷ cs) = let rest = after10-grows (n * 10 + (c - 48)) cs in omega (arith, rest)

-- a number below the cap
longer_is : (value digit most : ℕ) → value * 10 + digit ≤ most → most ≤ 9999 → longer value digit ≡ value * 10 + digit
longer_is value digit most below cap = omega (arith, below, cap)

-- a digit is one
digit_is : (c : ℕ) (cs : List ℕ) → AllDigits 10 (c ∷ cs) → is_digit c ≡ true
digit_is c cs digits = let range = digit_from_value c digits.0 in grind (arith, range.0, range.1)

-- a digit behind what was gathered
digit_taken : (z : PlainTerminal) (gathered : Gathered) (c : ℕ) (cs ds : List ℕ) → AllDigits 10 (c ∷ cs)
    → Term (with_sequence z (Behind gathered)) (c ∷ ds) ≡ Term (with_sequence z (Behind (with_digit gathered (c - 48)))) ds
digit_taken z gathered c cs ds digits =
    let stepped : terminal_after (with_sequence z (Behind gathered)) c ≡ with_sequence z (Behind (with_digit gathered (c - 48))) = rw (digit_is c cs digits) refl in
    after_byte (with_sequence z (Behind gathered)) c ds ∙ ap (λ t. Term t ds) stepped

-- the further digits of the first number
row_digits : (z : PlainTerminal) (value : ℕ) (ds : List ℕ) → AllDigits 10 ds → after10 value ds ≤ 9999
    → Term (with_sequence z (Behind (Number value))) ds ≡ with_sequence z (Behind (Number (after10 value ds)))
unfolding after10
row_digits z value [] digits cap = after_none _
row_digits z value (c ∷ cs) digits cap =
    let next = value * 10 + (c - 48) in
    let grows = after10-grows next cs in
    digit_taken z (Number value) c cs cs digits
    ∙ ap (λ n. Term (with_sequence z (Behind (Number n))) cs) (longer_is value (c - 48) (after10 next cs) grows cap)
    ∙ row_digits z next cs digits.1 cap

-- the further digits of the second number
col_digits : (z : PlainTerminal) (row value : ℕ) (ds : List ℕ) → AllDigits 10 ds → after10 value ds ≤ 9999
    → Term (with_sequence z (Behind (Position row value))) ds ≡ with_sequence z (Behind (Position row (after10 value ds)))
unfolding after10
col_digits z row value [] digits cap = after_none _
col_digits z row value (c ∷ cs) digits cap =
    let next = value * 10 + (c - 48) in
    let grows = after10-grows next cs in
    digit_taken z (Position row value) c cs cs digits
    ∙ ap (λ n. Term (with_sequence z (Behind (Position row n))) cs) (longer_is value (c - 48) (after10 next cs) grows cap)
    ∙ col_digits z row next cs digits.1 cap

-- the first number and its `;`
row_taken : (z : PlainTerminal) (ds : List ℕ) → 0 < length ds → AllDigits 10 ds → after10 0 ds ≤ 9999
    → Term (with_sequence z (Behind Nothing)) (ds ++ 59 ∷ []) ≡ with_sequence z (Behind (Row (after10 0 ds)))
unfolding after10 Term
row_taken z [] some digits cap = absurd (omega (arith, some))
row_taken z (c ∷ []) some digits cap =
    digit_taken z Nothing c [] (59 ∷ []) digits ∙ ap (λ n. with_sequence z (Behind (Row n))) (sym (zero-add (c - 48)))
row_taken z (c ∷ c' ∷ cs) some digits cap =
    let first = 0 * 10 + (c - 48) in
    let next = first * 10 + (c' - 48) in
    let grows = after10-grows next cs in
    digit_taken z Nothing c (c' ∷ cs) (c' ∷ (cs ++ 59 ∷ [])) digits
    ∙ digit_taken z (Digit (c - 48)) c' cs (cs ++ 59 ∷ []) digits.1
    ∙ ap (λ n. Term (with_sequence z (Behind (Number (longer n (c' - 48))))) (cs ++ 59 ∷ [])) (sym (zero-add (c - 48)))
    ∙ ap (λ n. Term (with_sequence z (Behind (Number n))) (cs ++ 59 ∷ [])) (longer_is first (c' - 48) (after10 next cs) grows cap)
    ∙ after_both _ _ _ cs (59 ∷ []) (row_digits z next cs digits.1.1 cap) refl

-- the second number and the `H` that ends the sequence
col_taken : (z : PlainTerminal) (row : ℕ) (ds : List ℕ) → 0 < length ds → AllDigits 10 ds → after10 0 ds ≤ 9999
    → Term (with_sequence z (Behind (Row row))) (ds ++ 72 ∷ []) ≡ with_sequence (with_cursor_at z row (after10 0 ds)) Absent
unfolding after10 Term
col_taken z row [] some digits cap = absurd (omega (arith, some))
col_taken z row (c ∷ cs) some digits cap =
    let first = 0 * 10 + (c - 48) in
    digit_taken z (Row row) c cs (cs ++ 72 ∷ []) digits
    ∙ ap (λ n. Term (with_sequence z (Behind (Position row n))) (cs ++ 72 ∷ [])) (sym (zero-add (c - 48)))
    ∙ after_both _ _ _ cs (72 ∷ []) (col_digits z row first cs digits.1 cap) refl

-- a sequence begins
begun : (z : PlainTerminal) → Term (with_sequence z Absent) (27 ∷ 91 ∷ []) ≡ with_sequence z (Behind Nothing)
unfolding Term
begun z = refl

-- the cursor goes where the sequence says
pub gone_to : (z : PlainTerminal) (row col : ℕ) → row ≤ 999 → col ≤ 999
    → Term (with_sequence z Absent) (go_to row col) ≡ with_sequence (with_cursor_at z row col) Absent
unfolding go_to
gone_to z row col few_rows few_cols =
    let row_fits : row < 2 ^ 64 = omega (arith, few_rows) in
    let col_fits : col < 2 ^ 64 = omega (arith, few_cols) in
    let row_is = digits_value-decimal model row row_fits in
    let col_is = digits_value-decimal model col col_fits in
    let row_part =
    row_taken z (decimal row) (decimal_is_IsNumeral row row_fits).0.0 (digits_decimal model row row_fits) (omega (arith, row_is, few_rows))
    ∙ ap (λ n. with_sequence z (Behind (Row n))) row_is in
    let col_part =
    col_taken z row (decimal col) (decimal_is_IsNumeral col col_fits).0.0 (digits_decimal model col col_fits) (omega (arith, col_is, few_cols))
    ∙ ap (λ n. with_sequence (with_cursor_at z row n) Absent) col_is in
    after_both _ _ _ (27 ∷ 91 ∷ []) (decimal row ++ (59 ∷ (decimal col ++ 72 ∷ []))) (begun z)
    (ap (Term (with_sequence z (Behind Nothing))) (sym (append_assoc (decimal row) (59 ∷ []) (decimal col ++ 72 ∷ [])))
    ∙ after_both _ _ _ (decimal row ++ 59 ∷ []) (decimal col ++ 72 ∷ []) row_part col_part)
