-- What the check finds in the tokens of a text says what the text is.
use Rattle.std.proofs.Common.{◌≡◌, inl, inr, refl, ℕ, List, map, Option, Some, None, ap, sym, subst, ◌∙◌, length}
use Rattle.plcs_grammar.specs.declared.category.Category.{Category}
use Rattle.plcs_grammar.specs.PlainPhrase.{PlainPhrase}
use Rattle.plcs_grammar.specs.Cuts.{Piece, Cuts, tokens_of}
use Rattle.plcs_grammar.specs.PhraseForm.{Form}
use Rattle.plcs_grammar.specs.OpenedLevel.{phrase_opened_levels}
use Rattle.plcs_grammar.specs.OverLimit.{OverLimit, first_over}
use Rattle.plcs_grammar.specs.Reads.{Outline, Reads, IsOver}
use Rattle.plcs_grammar.specs.SyntaxOffset.{GoesWrong}
use Rattle.phrase_parser.specs.declared.fault.PhraseFault.TheVariants.{Syntax}
use Rattle.phrase_parser.specs.Private.Machine.{shift_all, start_state, phrase_of_if}
use Rattle.phrase_parser.specs.Private.Recognizer.{Shape, first_shape}
use Rattle.phrase_parser.specs.Private.Findings.{Finding, seen_of, findings}
use Rattle.phrase_parser.specs.Answers.{FaultSays, over_fault}
use Rattle.phrase_parser.proofs.Tokens.OneCut.{one_cut}
use Rattle.phrase_parser.proofs.Machine.Completeness.{complete}
use Rattle.phrase_parser.proofs.Machine.Limits.{none_over}
use Rattle.phrase_parser.proofs.Findings.FindingsSound.{SaysOfPieces, found_means}
use Rattle.phrase_parser.proofs.Findings.PlacedTokens.{AllFit, form_fit}
use Rattle.phrase_parser.proofs.Findings.FindingsComplete.{finds_fine, finds_over, finds_wrong}

-- what is found in a phrase is no place of wrong syntax
form_found : (c : Category) (pieces : List Piece) (end place : ℕ) (shape : Shape) (p : PlainPhrase) (over : Option OverLimit)
    → first_shape c ≡ Some shape → Form c (tokens_of pieces) p → first_over pieces (phrase_opened_levels p) ≡ over
    → findings (map seen_of pieces) None end shape None ≡ Finding.syntax_at place → ⊥
form_found c pieces end place shape p None e f o w =
    let k = finds_fine c pieces end shape p e f (none_over c pieces p f o) in absurd (cc)
form_found c pieces end place shape p (Some over) e f o w =
    let k = finds_over c pieces end shape p over e f o in absurd (cc)

-- tokens that go wrong somewhere are those of no text with a reading
no_outline : (c : Category) (x : List ℕ) (pieces : List Piece) (stop : Option ℕ) (shape : Shape) (place : ℕ)
    → first_shape c ≡ Some shape → Cuts pieces 0 x stop → GoesWrong c pieces (length x) stop place → Outline c x → ⊥
no_outline c x pieces stop shape place e cut h (p, inl (qs, q)) =
    let same = one_cut pieces qs 0 x stop None cut q.cuts in
    let wrong : findings (map seen_of qs) None (length x) shape None ≡ Finding.syntax_at place =
    ap (λ z. findings (map seen_of qs) z (length x) shape None) (sym same.1)
    ∙ ap (λ z. findings (map seen_of z) stop (length x) shape None) (sym same.0)
    ∙ finds_wrong c pieces stop (length x) shape place e h in
    form_found c qs (length x) place shape p (first_over qs (phrase_opened_levels p)) e q.form refl wrong
no_outline c x pieces stop shape place e cut h (p, inr k) =
    let a = sym e ∙ ap first_shape k.category_is in absurd (cc)

-- what a finding says of the text
abbrev pub SaysOfText : Category → List ℕ → List Piece → Finding → Type 0
SaysOfText c x pieces Finding.fine = (p : PlainPhrase) × (phrase_of_if (shift_all (tokens_of pieces) (start_state c)) ≡ Some p) × Reads c x p × AllFit pieces
SaysOfText c x pieces (Finding.syntax_at place) = FaultSays c x (Syntax place)
SaysOfText c x pieces (Finding.over o) = FaultSays c x (over_fault o)

says_over : (c : Category) (x : List ℕ) (o : OverLimit) → IsOver c x o → FaultSays c x (over_fault o)
says_over c x (OverLimit.number_too_large place) h = h
says_over c x (OverLimit.too_deep place) h = h

says_if : (c : Category) (x : List ℕ) (pieces : List Piece) (stop : Option ℕ) (shape : Shape) (found : Finding)
    → first_shape c ≡ Some shape → Cuts pieces 0 x stop → SaysOfPieces c pieces stop (length x) found → SaysOfText c x pieces found
says_if c x pieces stop shape Finding.fine e cut (none, p, form, fits) =
    let whole = subst (λ z. Cuts pieces 0 x z) none cut in
    (p, complete c (tokens_of pieces) p form, (inl (pieces, record { cuts = whole; form = form }), fits), form_fit c pieces p form fits)
says_if c x pieces stop shape (Finding.syntax_at place) e cut h =
    (no_outline c x pieces stop shape place e cut h, inl (pieces, stop, cut, h))
says_if c x pieces stop shape (Finding.over o) e cut (none, p, form, first) =
    let whole = subst (λ z. Cuts pieces 0 x z) none cut in
    says_over c x o (pieces, p, record { cuts = whole; form = form }, first)

-- what is found in the pieces of a text says what the text is
pub finding_says : (c : Category) (x : List ℕ) (pieces : List Piece) (stop : Option ℕ) (shape : Shape) → first_shape c ≡ Some shape
    → Cuts pieces 0 x stop → SaysOfText c x pieces (findings (map seen_of pieces) stop (length x) shape None)
finding_says c x pieces stop shape e cut =
    says_if c x pieces stop shape (findings (map seen_of pieces) stop (length x) shape None) e cut (found_means c pieces stop (length x) shape e)
