-- The line that is cut out of a listing while that is put.
use Rattle.std.proofs.Common.{◌≡◌, refl, ℕ, zero, suc, ◌-◌, ◌≤◌, ◌<◌, Bool, true, false, List, [], ◌∷◌, ◌++◌, length, map, take, Option, Some, None, ap, sym, ◌∙◌, arith}
use Rattle.std.specs.Prelude.{◌==◌, if◌then◌else◌, nat_lt, option_map, slice_get}
use Rattle.std.proofs.lemmas.Bool.Decides.{Decides-eqb, Decides-ltb, not_from_Decides}
use Rattle.std.proofs.lemmas.List.{length-append, length-take, take_all, take-append-le}
use Rattle.plcs_base.specs.Put.{PutsAll, puts_nothing, puts_next}
use Rattle.template_tree.specs.Listings.Line.{Line, line_bytes}
use Rattle.template_tree.specs.Listings.Listing.{split_at_ends}
use Rattle.program_run.specs.declared.stopped_line.TheConstants.{LONGEST_SHOWN}
use Rattle.program_run.specs.Private.CutLine.{PlainLineCut, PutsCut, cut_after, line_ended, with_shown}

-- what is cut out once these bytes were put
abbrev cut_behind : PlainLineCut → List ℕ → PlainLineCut
cut_behind cut [] = cut
cut_behind cut (byte ∷ bytes) = cut_behind (cut_after cut byte) bytes

pub all_cut : {before after : PlainLineCut} {bytes : List ℕ} → PutsAll PutsCut before bytes after → after ≡ cut_behind before bytes
all_cut (puts_nothing) = refl
all_cut (puts_next {byte = byte} {bytes = bytes} one rest) = all_cut rest ∙ ap (λ (cut : PlainLineCut). cut_behind cut bytes) one

-- the line that was cut out, if its end came
abbrev pub seen : PlainLineCut → Option (List ℕ)
seen cut = if cut.over then Some cut.text else None

-- once it came, nothing more is changed
cut_over : (text bytes : List ℕ) (ends : ℕ) → cut_behind (record { ends = ends; over = true; text = text }) bytes ≡ record { ends = ends; over = true; text = text }
cut_over text [] ends = refl
cut_over text (byte ∷ bytes) ends = cut_over text bytes ends

-- the piece of this number among those of a text, of which the last has no end
abbrev piece : List (List ℕ) → ℕ → Option (List ℕ)
piece [] k = None
piece (last ∷ []) k = None
piece (first ∷ second ∷ rest) zero = Some (take LONGEST_SHOWN first)
piece (first ∷ second ∷ rest) (suc k) = piece (second ∷ rest) k

-- the pieces of a text are one at least
record IsSome (pieces : List (List ℕ)) : Type 0 where
  first : List ℕ
  rest : List (List ℕ)
  is : pieces ≡ first ∷ rest

some_pieces : (front x : List ℕ) → IsSome (split_at_ends front x)
some_pieces front [] = record { first = front; rest = []; is = refl }
some_pieces front (byte ∷ x) = by_end (byte == 10) (some_pieces (front ++ (byte ∷ [])) x) where
  by_end : (test : Bool) → IsSome (split_at_ends (front ++ (byte ∷ [])) x)
      → IsSome (if test then front ∷ split_at_ends [] x else split_at_ends (front ++ (byte ∷ [])) x)
  by_end true longer = record { first = front; rest = split_at_ends [] x; is = refl }
  by_end false longer = longer

first_piece : (front x : List ℕ) → piece (front ∷ split_at_ends [] x) zero ≡ Some (take LONGEST_SHOWN front)
first_piece front x = let some = some_pieces [] x in ap (λ (pieces : List (List ℕ)). piece (front ∷ pieces) zero) some.is

later_piece : (front x : List ℕ) (k : ℕ) → piece (front ∷ split_at_ends [] x) (suc k) ≡ piece (split_at_ends [] x) k
later_piece front x k =
    let some = some_pieces [] x in
    ap (λ (pieces : List (List ℕ)). piece (front ∷ pieces) (suc k)) some.is ∙ sym (ap (λ (pieces : List (List ℕ)). piece pieces k) some.is)

-- a front that isn't short is full
is_full : (n : ℕ) (xs : List ℕ) → (length (take n xs) < n → ⊥) → n ≤ length xs
is_full zero xs none = omega arith
is_full (suc n) [] none = absurd (none (omega arith))
is_full (suc n) (x ∷ xs) none =
    let rest = is_full n xs (λ less. none (omega (arith, less))) in
    omega (arith, rest)

-- a byte that is shown, and one that isn't
take_more : (n : ℕ) (xs : List ℕ) (y : ℕ) → (if nat_lt (length (take n xs)) n then take n xs ++ (y ∷ []) else take n xs) ≡ take n (xs ++ (y ∷ []))
take_more n xs y = by_test (nat_lt (length (take n xs)) n) refl where
  by_test : (test : Bool) → nat_lt (length (take n xs)) n ≡ test → (if test then take n xs ++ (y ∷ []) else take n xs) ≡ take n (xs ++ (y ∷ []))
  by_test true is =
      let less : length (take n xs) < n = (Decides-ltb (length (take n xs)) n).0 is in
      let short : length xs < n = omega (arith, less, length-take n xs) in
      ap (λ zs. zs ++ (y ∷ [])) (take_all n xs (omega (arith, short)))
      ∙ sym (take_all n (xs ++ (y ∷ [])) (omega (arith, short, length-append xs (y ∷ []))))
  by_test false is =
      let full = is_full n xs (λ less. not_from_Decides (nat_lt (length (take n xs)) n) (Decides-ltb (length (take n xs)) n) is less) in
      sym (take-append-le n xs (y ∷ []) full)

-- the line before whose end these bytes stand
abbrev at_line : (shown : List ℕ) → PlainLineCut
at_line shown = record { ends = 0; over = false; text = shown }

abbrev pub before_line : ℕ → PlainLineCut
before_line k = record { ends = k; over = false; text = [] }

shown_more : (front : List ℕ) (byte : ℕ) → with_shown byte (at_line (take LONGEST_SHOWN front)) ≡ at_line (take LONGEST_SHOWN (front ++ (byte ∷ [])))
shown_more front byte =
    by_test (nat_lt (length (take LONGEST_SHOWN front)) LONGEST_SHOWN) ∙ ap at_line (take_more LONGEST_SHOWN front byte)
  where
    by_test : (test : Bool)
        → (if test then at_line (take LONGEST_SHOWN front ++ (byte ∷ [])) else at_line (take LONGEST_SHOWN front))
        ≡ at_line (if test then take LONGEST_SHOWN front ++ (byte ∷ []) else take LONGEST_SHOWN front)
    by_test true = refl
    by_test false = refl

-- in the line itself
in_line : (front x : List ℕ) → seen (cut_behind (at_line (take LONGEST_SHOWN front)) x) ≡ piece (split_at_ends front x) zero
in_line front [] = refl
in_line front (byte ∷ x) = by_end (byte == 10) (in_line (front ++ (byte ∷ [])) x) where
  by_end : (test : Bool) → seen (cut_behind (at_line (take LONGEST_SHOWN (front ++ (byte ∷ [])))) x) ≡ piece (split_at_ends (front ++ (byte ∷ [])) x) zero
      → seen (cut_behind (if test then line_ended (at_line (take LONGEST_SHOWN front)) else with_shown byte (at_line (take LONGEST_SHOWN front))) x)
      ≡ piece (if test then front ∷ split_at_ends [] x else split_at_ends (front ++ (byte ∷ [])) x) zero
  by_end true longer = ap seen (cut_over (take LONGEST_SHOWN front) x 0) ∙ sym (first_piece front x)
  by_end false longer = ap (λ (cut : PlainLineCut). seen (cut_behind cut x)) (shown_more front byte) ∙ longer

-- line ends that are still to come
some_ends : (k : ℕ) → (suc k == 0) ≡ false
some_ends k = by_test (suc k == 0) (Decides-eqb (suc k) 0).0 where
  by_test : (test : Bool) → (test ≡ true → suc k ≡ 0) → test ≡ false
  by_test true same = let is : suc k ≡ 0 = same refl in absurd (omega (arith, is))
  by_test false same = refl

ended_before : (k : ℕ) → line_ended (before_line (suc k)) ≡ before_line k
ended_before k =
    ap (λ (b : Bool). if b then record { ends = suc k; over = true; text = [] } else before_line (suc k - 1)) (some_ends k)
    ∙ ap before_line (let less : suc k - 1 ≡ k = omega arith in less)

kept_before : (k byte : ℕ) → (if suc k == 0 then with_shown byte (before_line (suc k)) else before_line (suc k)) ≡ before_line (suc k)
kept_before k byte = ap (λ (b : Bool). if b then with_shown byte (before_line (suc k)) else before_line (suc k)) (some_ends k)

-- in a line before it, where it is known what comes of the lines behind
in_lines : (k : ℕ) → ((x : List ℕ) → seen (cut_behind (before_line k) x) ≡ piece (split_at_ends [] x) k)
    → (front x : List ℕ) → seen (cut_behind (before_line (suc k)) x) ≡ piece (split_at_ends front x) (suc k)
in_lines k later front [] = refl
in_lines k later front (byte ∷ x) = by_end (byte == 10) (in_lines k later (front ++ (byte ∷ [])) x) (later x) where
  by_end : (test : Bool) → seen (cut_behind (before_line (suc k)) x) ≡ piece (split_at_ends (front ++ (byte ∷ [])) x) (suc k)
      → seen (cut_behind (before_line k) x) ≡ piece (split_at_ends [] x) k
      → seen (cut_behind (if test then line_ended (before_line (suc k))
      else (if suc k == 0 then with_shown byte (before_line (suc k)) else before_line (suc k))) x)
      ≡ piece (if test then front ∷ split_at_ends [] x else split_at_ends (front ++ (byte ∷ [])) x) (suc k)
  by_end true here next = ap (λ (cut : PlainLineCut). seen (cut_behind cut x)) (ended_before k) ∙ next ∙ sym (later_piece front x k)
  by_end false here next = ap (λ (cut : PlainLineCut). seen (cut_behind cut x)) (kept_before k byte) ∙ here

pub cut_is_piece : (k : ℕ) (x : List ℕ) → seen (cut_behind (before_line k) x) ≡ piece (split_at_ends [] x) k
cut_is_piece zero x = in_line [] x
cut_is_piece (suc k) x = in_lines k (cut_is_piece k) [] x

-- the pieces of a listing are its lines
pub piece_of_lines : (lines : List Line) (k : ℕ)
    → piece (map line_bytes lines ++ ([] ∷ [])) k ≡ option_map (λ (line : Line). take LONGEST_SHOWN (line_bytes line)) (slice_get lines k)
piece_of_lines [] k = refl
piece_of_lines (line ∷ []) zero = refl
piece_of_lines (line ∷ []) (suc k) = refl
piece_of_lines (line ∷ next ∷ lines) zero = refl
piece_of_lines (line ∷ next ∷ lines) (suc k) = piece_of_lines (next ∷ lines) k

-- the line that was cut out of a listing
pub line_cut_out : (lines : List Line) (x : List ℕ) (k : ℕ) (cut : PlainLineCut) → split_at_ends [] x ≡ map line_bytes lines ++ ([] ∷ [])
    → PutsAll PutsCut (before_line k) x cut → seen cut ≡ option_map (λ (line : Line). take LONGEST_SHOWN (line_bytes line)) (slice_get lines k)
line_cut_out lines x k cut pieces puts =
    ap seen (all_cut puts) ∙ cut_is_piece k x ∙ ap (λ (all : List (List ℕ)). piece all k) pieces ∙ piece_of_lines lines k
