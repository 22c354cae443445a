-- What the check finds is so.
use Rattle.std.proofs.Common.{◌≡◌, refl, ℕ, true, cond, ltb, lit≤, map, List, [], ◌∷◌, ◌++◌, Option, Some, None, ap, sym, subst, ◌∙◌, append_assoc, append-nil}
use Rattle.std.specs.Option.{option_or}
use Rattle.std.proofs.lemmas.Bool.{cond_both}
use Rattle.plcs_grammar.specs.declared.category.Category.{Category}
use Rattle.plcs_grammar.specs.Token.{Token}
use Rattle.plcs_grammar.specs.Cuts.{Piece, tokens_of}
use Rattle.plcs_grammar.specs.PlainPhrase.{PlainPhrase}
use Rattle.plcs_grammar.specs.PhraseForm.{Form, Begins}
use Rattle.plcs_grammar.specs.SyntaxOffset.{GoesWrong}
use Rattle.plcs_grammar.specs.Limit.{greatest_number, greatest_nesting, IsWithinLimits}
use Rattle.plcs_grammar.specs.OpenedLevel.{phrase_opened_levels}
use Rattle.plcs_grammar.specs.OverLimit.{OverLimit, is_too_large, first_over, over_at}
use Rattle.phrase_parser.specs.Private.Recognizer.{Shape, class_of, next, next_if, follow, first_shape, may_end, level_of, follow_levels}
use Rattle.phrase_parser.specs.Private.Findings.{Finding, finding_of, found_at, found_at_end, seen_of, is_large, seen_over, findings}
use Rattle.phrase_parser.proofs.Findings.KeptNumbers.{kept_above}
use Rattle.phrase_parser.proofs.Machine.Limits.{none_over}
use Rattle.phrase_parser.proofs.Findings.RecognizedTokens.{classes_of, taken_begins, refused_begins, whole_form, part_form, levels_over}

-- the shape after the pieces, if they can stand there
abbrev pub follow_pieces : List Piece → Option Shape → Option Shape
follow_pieces pieces shape = follow (classes_of (tokens_of pieces)) shape

-- the first piece that goes past a limit
abbrev pub over_pieces : List Piece → Option Shape → Option OverLimit
over_pieces pieces shape = first_over pieces (follow_levels (classes_of (tokens_of pieces)) shape)

-- the shape after one more piece
pub follow_last : (front : List Piece) (piece : Piece) (s : Option Shape)
    → follow_pieces (front ++ (piece ∷ [])) s ≡ next_if (follow_pieces front s) (class_of piece.token)
follow_last [] piece s = refl
follow_last (x ∷ xs) piece s = follow_last xs piece (next_if s (class_of x.token))

-- which of three limits is past first doesn't depend on which two are looked at together
pub option_or_assoc : (a b c : Option OverLimit) → option_or (option_or a b) c ≡ option_or a (option_or b c)
option_or_assoc None b c = refl
option_or_assoc (Some o) b c = refl

-- a token as it is kept goes past the same limit
seen_large : (k : Token) → is_large (class_of k) ≡ is_too_large k
seen_large (Token.number n) = kept_above n greatest_number (lit≤ tt)
seen_large (Token.name name) = refl
seen_large (Token.keyword word) = refl
seen_large (Token.text value) = refl
seen_large (Token.bit value) = refl
seen_large (Token.sign sign) = refl

-- the limit that a token goes past is that of the piece
pub seen_as : (piece : Piece) (level : ℕ) → seen_over (seen_of piece) level ≡ over_at piece level
seen_as piece level =
    ap (λ b. cond b (Some (OverLimit.number_too_large piece.start)) (cond (ltb greatest_nesting level) (Some (OverLimit.too_deep piece.start)) None))
    (seen_large piece.token)

-- the pieces lead from the shape to one that may end, and this goes past a limit first
pub record Ends (pieces : List Piece) (stop : Option ℕ) (shape : Shape) (found first : Option OverLimit) : Type 0 where
  pub end : Shape
  pub stops : stop ≡ None
  pub leads : follow_pieces pieces (Some shape) ≡ Some end
  pub may : may_end end ≡ true
  pub over : option_or found (over_pieces pieces (Some shape)) ≡ first

module _ (c : Category) (stop : Option ℕ) (end : ℕ) where
  -- what a finding says of the pieces that follow a shape
  abbrev pub SaysOfRest : List Piece → List Piece → Shape → Option OverLimit → Finding → Type 0
  SaysOfRest front pieces shape found Finding.fine = Ends pieces stop shape found None
  SaysOfRest front pieces shape found (Finding.syntax_at place) = GoesWrong c (front ++ pieces) end stop place
  SaysOfRest front pieces shape found (Finding.over o) = Ends pieces stop shape found (Some o)

says_found : (c : Category) (end : ℕ) (front : List Piece) (shape : Shape) (found : Option OverLimit) → may_end shape ≡ true
    → SaysOfRest c None end front [] shape found (finding_of found)
says_found c end front shape None m = record { end = shape; stops = refl; leads = refl; may = m; over = refl }
says_found c end front shape (Some o) m = record { end = shape; stops = refl; leads = refl; may = m; over = refl }

begins_all : (c : Category) (front : List Piece) → Begins c (tokens_of front) → Begins c (tokens_of (front ++ []))
begins_all c front h = subst (λ z. Begins c (tokens_of z)) (sym (append-nil front)) h

says_end : (c : Category) (stop : Option ℕ) (end : ℕ) (front : List Piece) (shape : Shape) (found : Option OverLimit)
    → follow_pieces front (first_shape c) ≡ Some shape
    → SaysOfRest c stop end front [] shape found (found_at_end stop end shape found)
says_end c (Some stop) end front shape found e =
    GoesWrong.at_byte stop (begins_all c front (taken_begins c (tokens_of front) shape e))
says_end c None end front shape found e =
    cond_both (may_end shape) (finding_of found) (Finding.syntax_at end) (SaysOfRest c None end front [] shape found)
    (λ m. says_found c end front shape found m)
    (λ m. GoesWrong.at_end (begins_all c front (taken_begins c (tokens_of front) shape e))
    (λ p f. part_form c (tokens_of front) shape e m p (subst (λ z. Form c (tokens_of z) p) (append-nil front) f)))

ends_more : (piece : Piece) (pieces : List Piece) (stop : Option ℕ) (shape z : Shape) (found first : Option OverLimit)
    → next shape (class_of piece.token) ≡ Some z
    → Ends pieces stop z (option_or found (seen_over (seen_of piece) (level_of shape (class_of piece.token)))) first
    → Ends (piece ∷ pieces) stop shape found first
ends_more piece pieces stop shape z found first e h = record {
  end = h.end;
  stops = h.stops;
  leads = ap (follow_pieces pieces) e ∙ h.leads;
  may = h.may;
  over = ap (λ o. option_or found (option_or o (over_pieces pieces (next shape (class_of piece.token)))))
      (sym (seen_as piece (level_of shape (class_of piece.token))))
      ∙ ap (λ o. option_or found (option_or (seen_over (seen_of piece) (level_of shape (class_of piece.token))) (over_pieces pieces o))) e
      ∙ sym (option_or_assoc found (seen_over (seen_of piece) (level_of shape (class_of piece.token))) (over_pieces pieces (Some z)))
      ∙ h.over;
}

says_more : (c : Category) (stop : Option ℕ) (end : ℕ) (front : List Piece) (piece : Piece) (pieces : List Piece)
    (shape z : Shape) (found : Option OverLimit) (r : Finding) → next shape (class_of piece.token) ≡ Some z
    → SaysOfRest c stop end (front ++ (piece ∷ [])) pieces z (option_or found (seen_over (seen_of piece) (level_of shape (class_of piece.token)))) r
    → SaysOfRest c stop end front (piece ∷ pieces) shape found r
says_more c stop end front piece pieces shape z found Finding.fine e h = ends_more piece pieces stop shape z found None e h
says_more c stop end front piece pieces shape z found (Finding.syntax_at place) e h =
    subst (λ ps. GoesWrong c ps end stop place) (append_assoc front (piece ∷ []) pieces) h
says_more c stop end front piece pieces shape z found (Finding.over o) e h = ends_more piece pieces stop shape z found (Some o) e h

says_next : (c : Category) (stop : Option ℕ) (end : ℕ) (front : List Piece) (piece : Piece) (pieces : List Piece)
    (shape : Shape) (found : Option OverLimit) (r : Option Shape) (behind : Shape → Finding)
    → next shape (class_of piece.token) ≡ r → follow_pieces front (first_shape c) ≡ Some shape
    → ((z : Shape) → follow_pieces (front ++ (piece ∷ [])) (first_shape c) ≡ Some z
    → SaysOfRest c stop end (front ++ (piece ∷ [])) pieces z (option_or found (seen_over (seen_of piece) (level_of shape (class_of piece.token)))) (behind z))
    → SaysOfRest c stop end front (piece ∷ pieces) shape found (found_at r piece.start behind)
says_next c stop end front piece pieces shape found None behind n e go =
    GoesWrong.at_token front piece pieces refl (taken_begins c (tokens_of front) shape e)
    (refused_begins c (tokens_of (front ++ (piece ∷ [])))
    (follow_last front piece (first_shape c) ∙ ap (λ s. next_if s (class_of piece.token)) e ∙ n))
says_next c stop end front piece pieces shape found (Some z) behind n e go =
    says_more c stop end front piece pieces shape z found (behind z) n
    (go z (follow_last front piece (first_shape c) ∙ ap (λ s. next_if s (class_of piece.token)) e ∙ n))

-- what is found in the pieces behind others is so
pub says : (c : Category) (stop : Option ℕ) (end : ℕ) (pieces front : List Piece) (shape : Shape) (found : Option OverLimit)
    → follow_pieces front (first_shape c) ≡ Some shape
    → SaysOfRest c stop end front pieces shape found (findings (map seen_of pieces) stop end shape found)
says c stop end [] front shape found e = says_end c stop end front shape found e
says c stop end (piece ∷ pieces) front shape found e =
    says_next c stop end front piece pieces shape found (next shape (class_of piece.token))
    (λ z. findings (map seen_of pieces) stop end z (option_or found (seen_over (seen_of piece) (level_of shape (class_of piece.token)))))
    refl e
    (λ z f. says c stop end pieces (front ++ (piece ∷ [])) z
    (option_or found (seen_over (seen_of piece) (level_of shape (class_of piece.token)))) f)

-- what a finding says of all pieces of a text
abbrev pub SaysOfPieces : Category → List Piece → Option ℕ → ℕ → Finding → Type 0
SaysOfPieces c pieces stop end Finding.fine = (stop ≡ None) × (p : PlainPhrase) × Form c (tokens_of pieces) p × IsWithinLimits p
SaysOfPieces c pieces stop end (Finding.syntax_at place) = GoesWrong c pieces end stop place
SaysOfPieces c pieces stop end (Finding.over o) =
    (stop ≡ None) × (p : PlainPhrase) × Form c (tokens_of pieces) p × (first_over pieces (phrase_opened_levels p) ≡ Some o)

ends_form : (c : Category) (pieces : List Piece) (stop : Option ℕ) (shape : Shape) (first : Option OverLimit)
    → first_shape c ≡ Some shape → Ends pieces stop shape None first
    → (p : PlainPhrase) × Form c (tokens_of pieces) p × (first_over pieces (phrase_opened_levels p) ≡ first)
ends_form c pieces stop shape first e h =
    let r = whole_form c (tokens_of pieces) h.end (ap (follow_pieces pieces) e ∙ h.leads) h.may in
    (r.0, r.1, sym (levels_over c pieces r.0 r.1) ∙ ap (over_pieces pieces) e ∙ h.over)

means_if : (c : Category) (pieces : List Piece) (stop : Option ℕ) (end : ℕ) (shape : Shape) (r : Finding)
    → first_shape c ≡ Some shape → SaysOfRest c stop end [] pieces shape None r → SaysOfPieces c pieces stop end r
means_if c pieces stop end shape Finding.fine e h =
    let f = ends_form c pieces stop shape None e h in
    (h.stops, f.0, f.1, none_over c pieces f.0 f.1 f.2)
means_if c pieces stop end shape (Finding.syntax_at place) e h = h
means_if c pieces stop end shape (Finding.over o) e h =
    let f = ends_form c pieces stop shape (Some o) e h in
    (h.stops, f.0, f.1, f.2)

-- what is found in all pieces of a text is so
pub found_means : (c : Category) (pieces : List Piece) (stop : Option ℕ) (end : ℕ) (shape : Shape) → first_shape c ≡ Some shape
    → SaysOfPieces c pieces stop end (findings (map seen_of pieces) stop end shape None)
found_means c pieces stop end shape e =
    means_if c pieces stop end shape (findings (map seen_of pieces) stop end shape None) e (says c stop end pieces [] shape None e)
