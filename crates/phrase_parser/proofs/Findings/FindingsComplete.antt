-- What is so of the tokens of a text, the check finds.
use Rattle.std.proofs.Common.{◌≡◌, refl, ℕ, false, map, List, [], ◌∷◌, ◌++◌, Option, Some, None, ap, sym, ◌∙◌, append-nil}
use Rattle.std.specs.Option.{option_or}
use Rattle.std.proofs.lemmas.Bool.{cond-true, cond-false, false_from_ne_true}
use Rattle.plcs_grammar.specs.declared.category.Category.{Category}
use Rattle.plcs_grammar.specs.Cuts.{Piece, tokens_of}
use Rattle.plcs_grammar.specs.PlainPhrase.{PlainPhrase}
use Rattle.plcs_grammar.specs.PhraseForm.{Form}
use Rattle.plcs_grammar.specs.SyntaxOffset.{GoesWrong}
use Rattle.plcs_grammar.specs.Limit.{IsWithinLimits}
use Rattle.plcs_grammar.specs.OpenedLevel.{phrase_opened_levels}
use Rattle.plcs_grammar.specs.OverLimit.{OverLimit, first_over, over_at}
use Rattle.phrase_parser.specs.Private.Recognizer.{Shape, class_of, next, next_if, first_shape, may_end, level_of}
use Rattle.phrase_parser.specs.Private.Findings.{Finding, finding_of, found_at, found_at_end, seen_of, seen_over, findings}
use Rattle.phrase_parser.proofs.Machine.Limits.{within}
use Rattle.phrase_parser.proofs.Findings.RecognizedTokens.{classes_of, follow_none, taken_begins, whole_form, levels_over, begins_taken, form_taken}
use Rattle.phrase_parser.proofs.Findings.FindingsSound.{follow_pieces, over_pieces, follow_last, option_or_assoc, seen_as}

-- the check has come to a shape after pieces, with what went past a limit first in them
abbrev Comes : List Piece → List Piece → Option ℕ → ℕ → Shape → Shape → Option OverLimit → Type 0
Comes front rest stop end shape z found =
    findings (map seen_of (front ++ rest)) stop end shape found
    ≡ findings (map seen_of rest) stop end z (option_or found (over_pieces front (Some shape)))

none_behind : (found : Option OverLimit) → found ≡ option_or found None
none_behind None = refl
none_behind (Some o) = refl

comes_next : (piece : Piece) (front rest : List Piece) (stop : Option ℕ) (end : ℕ) (shape z : Shape) (found : Option OverLimit)
    (r : Option Shape) → next shape (class_of piece.token) ≡ r → follow_pieces front r ≡ Some z
    → ((y : Shape) (o : Option OverLimit) → follow_pieces front (Some y) ≡ Some z → Comes front rest stop end y z o)
    → Comes (piece ∷ front) rest stop end shape z found
comes_next piece front rest stop end shape z found None n e go =
    let d = follow_none (classes_of (tokens_of front)) in absurd (cc)
comes_next piece front rest stop end shape z found (Some y) n e go =
    let level = level_of shape (class_of piece.token) in
    ap (λ w. found_at w piece.start (λ x. findings (map seen_of (front ++ rest)) stop end x (option_or found (seen_over (seen_of piece) level)))) n
    ∙ go y (option_or found (seen_over (seen_of piece) level)) e
    ∙ ap (λ o. findings (map seen_of rest) stop end z o)
    (option_or_assoc found (seen_over (seen_of piece) level) (over_pieces front (Some y))
    ∙ ap (λ o. option_or found (option_or o (over_pieces front (Some y)))) (seen_as piece level)
    ∙ sym (ap (λ w. option_or found (option_or (over_at piece level) (over_pieces front w))) n))

comes : (front rest : List Piece) (stop : Option ℕ) (end : ℕ) (shape z : Shape) (found : Option OverLimit)
    → follow_pieces front (Some shape) ≡ Some z → Comes front rest stop end shape z found
comes [] rest stop end shape z found e =
    let same : shape ≡ z = cc in
    ap (λ w. findings (map seen_of rest) stop end w found) same
    ∙ ap (λ o. findings (map seen_of rest) stop end z o) (none_behind found)
comes (piece ∷ front) rest stop end shape z found e =
    comes_next piece front rest stop end shape z found (next shape (class_of piece.token)) refl e
    (λ y o f. comes front rest stop end y z o f)

comes_all : (pieces : List Piece) (stop : Option ℕ) (end : ℕ) (shape z : Shape) → follow_pieces pieces (Some shape) ≡ Some z
    → findings (map seen_of pieces) stop end shape None ≡ found_at_end stop end z (over_pieces pieces (Some shape))
comes_all pieces stop end shape z e =
    ap (λ ps. findings (map seen_of ps) stop end shape None) (sym (append-nil pieces)) ∙ comes pieces [] stop end shape z None e

finds_end : (c : Category) (pieces : List Piece) (end : ℕ) (shape : Shape) (p : PlainPhrase) → first_shape c ≡ Some shape
    → Form c (tokens_of pieces) p
    → findings (map seen_of pieces) None end shape None ≡ finding_of (first_over pieces (phrase_opened_levels p))
finds_end c pieces end shape p e f =
    let r = form_taken c (tokens_of pieces) p f in
    comes_all pieces None end shape r.0 (sym (ap (follow_pieces pieces) e) ∙ r.1)
    ∙ cond-true (may_end r.0) (finding_of (over_pieces pieces (Some shape))) (Finding.syntax_at end) r.2
    ∙ ap finding_of (sym (ap (over_pieces pieces) e) ∙ levels_over c pieces p f)

-- a phrase within the limits is found fine
pub finds_fine : (c : Category) (pieces : List Piece) (end : ℕ) (shape : Shape) (p : PlainPhrase) → first_shape c ≡ Some shape
    → Form c (tokens_of pieces) p → IsWithinLimits p → findings (map seen_of pieces) None end shape None ≡ Finding.fine
finds_fine c pieces end shape p e f w = finds_end c pieces end shape p e f ∙ ap finding_of (within c pieces p f w)

-- the first token of a phrase that goes past a limit is found
pub finds_over : (c : Category) (pieces : List Piece) (end : ℕ) (shape : Shape) (p : PlainPhrase) (o : OverLimit)
    → first_shape c ≡ Some shape → Form c (tokens_of pieces) p → first_over pieces (phrase_opened_levels p) ≡ Some o
    → findings (map seen_of pieces) None end shape None ≡ Finding.over o
finds_over c pieces end shape p o e f w = finds_end c pieces end shape p e f ∙ ap finding_of w

finds_token : (piece : Piece) (back : List Piece) (stop : Option ℕ) (end : ℕ) (shape : Shape) (found : Option OverLimit)
    (r : Option Shape) → next shape (class_of piece.token) ≡ r → ((y : Shape) → r ≡ Some y → ⊥)
    → findings (map seen_of (piece ∷ back)) stop end shape found ≡ Finding.syntax_at piece.start
finds_token piece back stop end shape found None n no_next =
    ap (λ w. found_at w piece.start (λ x. findings (map seen_of back) stop end x (option_or found (seen_over (seen_of piece) (level_of shape (class_of piece.token)))))) n
finds_token piece back stop end shape found (Some y) n no_next = absurd (no_next y refl)

-- the place where the text goes wrong is found
pub finds_wrong : (c : Category) (pieces : List Piece) (stop : Option ℕ) (end : ℕ) (shape : Shape) (place : ℕ)
    → first_shape c ≡ Some shape → GoesWrong c pieces end stop place
    → findings (map seen_of pieces) stop end shape None ≡ Finding.syntax_at place
finds_wrong c pieces stop end shape place e (GoesWrong.at_token front piece back is begins ends) =
    let r = begins_taken c (tokens_of front) begins in
    let dead = λ (y : Shape) (n : next r.0 (class_of piece.token) ≡ Some y).
    ends (taken_begins c (tokens_of (front ++ (piece ∷ []))) y
    (follow_last front piece (first_shape c) ∙ ap (λ s. next_if s (class_of piece.token)) r.1 ∙ n)) in
    ap (λ ps. findings (map seen_of ps) stop end shape None) is
    ∙ comes front (piece ∷ back) stop end shape r.0 None (sym (ap (follow_pieces front) e) ∙ r.1)
    ∙ finds_token piece back stop end r.0 (over_pieces front (Some shape)) (next r.0 (class_of piece.token)) refl dead
finds_wrong c pieces stop end shape place e (GoesWrong.at_byte at begins) =
    let r = begins_taken c (tokens_of pieces) begins in
    comes_all pieces (Some at) end shape r.0 (sym (ap (follow_pieces pieces) e) ∙ r.1)
finds_wrong c pieces stop end shape place e (GoesWrong.at_end begins none) =
    let r = begins_taken c (tokens_of pieces) begins in
    let part : may_end r.0 ≡ false = false_from_ne_true (may_end r.0)
    (λ m. let f = whole_form c (tokens_of pieces) r.0 r.1 m in none f.0 f.1) in
    comes_all pieces None end shape r.0 (sym (ap (follow_pieces pieces) e) ∙ r.1)
    ∙ cond-false (may_end r.0) (finding_of (over_pieces pieces (Some shape))) (Finding.syntax_at end) part
