-- The tokens of a text stand in it where they are kept.
use Rattle.std.proofs.Common.{◌≡◌, refl, ℕ, ◌+◌, ◌≤◌, min, length, map, drop, List, [], ◌∷◌, Option, ap, sym, subst, ◌∙◌, arith, All}
use Rattle.std.specs.Prelude.{slice_range}
use Rattle.std.specs.List.{AllByRecursion}
use Rattle.std.proofs.lemmas.List.{length-map}
use Rattle.std.proofs.lemmas.List.Elements.{All-from_recursion}
use Rattle.plcs_grammar.specs.declared.category.Category.{Category}
use Rattle.plcs_base.specs.Name.{IsName}
use Rattle.plcs_grammar.specs.Token.{Token, IsToken}
use Rattle.plcs_grammar.specs.PlainPhrase.{PlainPhrase}
use Rattle.plcs_grammar.specs.Cuts.{Piece, Cuts, tokens_of}
use Rattle.plcs_grammar.specs.PhraseForm.{Form}
use Rattle.plcs_grammar.specs.Limit.{IsWithinLimits, greatest_number}
use Rattle.plcs_grammar.specs.OpenedLevel.{phrase_opened_levels}
use Rattle.phrase_parser.specs.Private.PlacedToken.{kept_kind, placed_of, greatest_kept}
use Rattle.phrase_parser.specs.Private.Recognizer as model
use Rattle.phrase_parser.specs.Private.Findings.{seen_of}
use Rattle.phrase_parser.specs.Private.Shapes.{class_from, seen_in}
use Rattle.phrase_parser.specs.Private.TokenIn.{token_from, token_in, IsOfKind, IsPlacedIn, between_quotes, LiesIn}
use Rattle.phrase_parser.proofs.Machine.Limits.{NumberFits, AllFine, within, none_fine}
use Rattle.phrase_parser.proofs.Tokens.CutPieces.{InOrder, cut_in_order, StandIn, cut_stands}
use Rattle.phrase_parser.proofs.Tokens.ConstantValues.{undoubled_between}
use Rattle.phrase_parser.specs.Private.Unquoted.{undoubled}

-- what the check looks at of a token is what is kept of it
kind_as : (token : Token) (bytes behind : List ℕ) → IsToken token bytes behind → class_from (kept_kind token) bytes ≡ model.class_of token
kind_as (Token.name n) bytes behind is = ap (λ z. class_from (kept_kind (Token.name n)) z) is.0
kind_as (Token.keyword word) bytes behind is = refl
kind_as (Token.number n) bytes behind is = refl
kind_as (Token.text value) bytes behind is = refl
kind_as (Token.bit value) bytes behind is = refl
kind_as (Token.sign s) bytes behind is = refl

seen_as_kept : (text : List ℕ) (pieces : List Piece) → StandIn text pieces → map (seen_in text) (map placed_of pieces) ≡ map seen_of pieces
seen_as_kept text [] h = refl
seen_as_kept text (piece ∷ pieces) h =
    ap (λ k. record { class = k; start = piece.start } ∷ map (seen_in text) (map placed_of pieces))
    (kind_as piece.token (slice_range text piece.start piece.end) (drop piece.end text) h.0)
    ∙ ap (λ z. seen_of piece ∷ z) (seen_as_kept text pieces h.1)

pub cut_seen : (text : List ℕ) (pieces : List Piece) (stop : Option ℕ) → Cuts pieces 0 text stop
    → map (seen_in text) (map placed_of pieces) ≡ map seen_of pieces
cut_seen text pieces stop cut = seen_as_kept text pieces (cut_stands text pieces 0 text stop refl cut)

-- the pieces' tokens lie in the text, and are no more than its bytes
in_order_lie : (text : List ℕ) (pieces : List Piece) (place : ℕ) → InOrder place pieces (length text)
    → AllByRecursion (LiesIn text) (map placed_of pieces) × (place + length pieces ≤ length text)
in_order_lie text [] place h = (tt, omega (arith, h))
in_order_lie text (piece ∷ pieces) place h =
    let r = in_order_lie text pieces piece.end h.2 in (
      (record { ordered = omega (arith, h.1); within = omega (arith, r.1) }, r.0),
      omega (arith, h.0, h.1, r.1),
    )

pub cut_lies : (text : List ℕ) (pieces : List Piece) (stop : Option ℕ) → Cuts pieces 0 text stop → All (LiesIn text) (map placed_of pieces)
cut_lies text pieces stop cut =
    All-from_recursion _ (map placed_of pieces) (in_order_lie text pieces 0 (subst (λ n. InOrder 0 pieces n) (omega arith) (cut_in_order pieces 0 text stop cut))).0

pub cut_few : (text : List ℕ) (pieces : List Piece) (stop : Option ℕ) → Cuts pieces 0 text stop → length (map placed_of pieces) ≤ length text
cut_few text pieces stop cut =
    omega (arith, length-map pieces placed_of, (in_order_lie text pieces 0 (subst (λ n. InOrder 0 pieces n) (omega arith) (cut_in_order pieces 0 text stop cut))).1)

-- a number that an expression can hold is kept as it is
abbrev pub AllFit : List Piece → Type 0
AllFit pieces = AllByRecursion (λ piece. NumberFits piece.token) pieces

small_kept : (n : ℕ) → n ≤ greatest_number → min n greatest_kept ≡ n
small_kept n h = omega (arith, h)

token_as : (token : Token) (bytes behind : List ℕ) → IsToken token bytes behind → NumberFits token → token_from (kept_kind token) bytes ≡ token
token_as (Token.name n) bytes behind is f = ap Token.name is.0
token_as (Token.keyword word) bytes behind is f = ap Token.keyword is.0
token_as (Token.number n) bytes behind is f = ap Token.number (small_kept n f)
token_as (Token.text value) bytes behind is f = ap Token.text (ap (λ (b : List ℕ). undoubled (between_quotes b)) is.0 ∙ undoubled_between value)
token_as (Token.bit value) bytes behind is f = refl
token_as (Token.sign s) bytes behind is f = refl

kind_stands : (token : Token) (bytes behind : List ℕ) → IsToken token bytes behind → NumberFits token → IsOfKind (kept_kind token) bytes
kind_stands (Token.name n) bytes behind is f = subst IsName (sym is.0) is.1
kind_stands (Token.keyword word) bytes behind is f = tt
kind_stands (Token.number n) bytes behind is f = omega (arith, f)
kind_stands (Token.text value) bytes behind is f = record { value = value; whole = is.0; content = is.1 }
kind_stands (Token.bit value) bytes behind is f = tt
kind_stands (Token.sign s) bytes behind is f = tt

tokens_as : (text : List ℕ) (pieces : List Piece) → StandIn text pieces → AllFit pieces → map (token_in text) (map placed_of pieces) ≡ tokens_of pieces
tokens_as text [] h f = refl
tokens_as text (piece ∷ pieces) h f =
    ap (λ k. k ∷ map (token_in text) (map placed_of pieces))
    (token_as piece.token (slice_range text piece.start piece.end) (drop piece.end text) h.0 f.0)
    ∙ ap (λ z. piece.token ∷ z) (tokens_as text pieces h.1 f.1)

pub cut_tokens : (text : List ℕ) (pieces : List Piece) (stop : Option ℕ) → Cuts pieces 0 text stop → AllFit pieces
    → map (token_in text) (map placed_of pieces) ≡ tokens_of pieces
cut_tokens text pieces stop cut f = tokens_as text pieces (cut_stands text pieces 0 text stop refl cut) f

placed_in : (text : List ℕ) (pieces : List Piece) → StandIn text pieces → AllByRecursion (LiesIn text) (map placed_of pieces) → AllFit pieces
    → AllByRecursion (IsPlacedIn text) (map placed_of pieces)
placed_in text [] h l f = tt
placed_in text (piece ∷ pieces) h l f = (
  record {
    lies = l.0;
    kind = kind_stands piece.token (slice_range text piece.start piece.end) (drop piece.end text) h.0 f.0;
  },
  placed_in text pieces h.1 l.1 f.1,
)

pub cut_placed : (text : List ℕ) (pieces : List Piece) (stop : Option ℕ) → Cuts pieces 0 text stop → AllFit pieces
    → All (IsPlacedIn text) (map placed_of pieces)
cut_placed text pieces stop cut f =
    All-from_recursion _ (map placed_of pieces)
    (placed_in text pieces (cut_stands text pieces 0 text stop refl cut)
    (in_order_lie text pieces 0 (subst (λ n. InOrder 0 pieces n) (omega arith) (cut_in_order pieces 0 text stop cut))).0 f)

-- the numbers of a phrase within the limits fit
fine_fit : (pieces : List Piece) (levels : List ℕ) → AllFine (tokens_of pieces) levels → AllFit pieces
fine_fit [] levels h = tt
fine_fit (piece ∷ pieces) [] h = (h.0, fine_fit pieces [] h.1)
fine_fit (piece ∷ pieces) (level ∷ levels) h = (h.0, fine_fit pieces levels h.2)

pub form_fit : (c : Category) (pieces : List Piece) (p : PlainPhrase) → Form c (tokens_of pieces) p → IsWithinLimits p → AllFit pieces
form_fit c pieces p form fits = fine_fit pieces (phrase_opened_levels p) (none_fine pieces (phrase_opened_levels p) (within c pieces p form fits))
