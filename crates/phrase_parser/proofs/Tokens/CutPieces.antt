-- What the cut of a text says of its pieces: they stand in order, and the bytes between their places are their tokens.
use Rattle.std.proofs.Common.{◌≡◌, ℕ, ◌+◌, ◌-◌, ◌<◌, ◌≤◌, List, [], ◌∷◌, ◌++◌, length, take, drop, refl, sym, ap, ◌∙◌, subst, arith, Option, Some}
use Rattle.std.specs.Prelude.{IsTrue, slice_range}
use Rattle.std.specs.List.{AllByRecursion}
use Rattle.std.proofs.lemmas.List.{take_at, drop_at, drop-drop, length-append, length-drop}
use Rattle.std.proofs.lemmas.List.Sums.{prefix_len-le-length}
use Rattle.plcs_base.specs.Name.{IsName, is_keyword}
use Rattle.plcs_grammar.specs.Token.{Token, IsToken, IsConstantText}
use Rattle.plcs_base.specs.Byte.{is_blank}
use Rattle.plcs_grammar.specs.Cuts.{Piece, Cuts, blanks, unblanked, tokens_of}
use Rattle.phrase_parser.proofs.Tokens.OneCut.{token_not_empty}

-- what a token of a text is, whatever stands round it: a name is a name, and a constant can be a value
abbrev pub IsSound : Token → Type 0
IsSound (Token.name n) = IsName n
IsSound (Token.keyword word) = IsTrue (is_keyword word)
IsSound (Token.number n) = Unit {0}
IsSound (Token.text value) = IsConstantText value
IsSound (Token.bit value) = Unit {0}
IsSound (Token.sign s) = Unit {0}

-- each token of a list is sound
abbrev pub AllSound : List Token → Type 0
AllSound tokens = AllByRecursion IsSound tokens

-- a token that bytes make is sound
pub token_sound : (token : Token) (bytes behind : List ℕ) → IsToken token bytes behind → IsSound token
token_sound (Token.name n) bytes behind is = is.1
token_sound (Token.keyword word) bytes behind is = is.1
token_sound (Token.number n) bytes behind is = tt
token_sound (Token.text value) bytes behind is = is.1
token_sound (Token.bit value) bytes behind is = tt
token_sound (Token.sign s) bytes behind is = tt

-- the names of a text are names, and its constants can be values
pub cut_sound : (pieces : List Piece) (place : ℕ) (x : List ℕ) (stop : Option ℕ) → Cuts pieces place x stop
    → AllSound (tokens_of pieces)
cut_sound [] place x stop cuts = tt
cut_sound (piece ∷ pieces) place x stop (bytes, behind, first, start, end, rest) =
    (token_sound piece.token bytes behind first.is_token, cut_sound pieces piece.end behind stop rest)

-- the pieces stand in order between the two places, each of them not empty
abbrev pub InOrder : ℕ → List Piece → ℕ → Type 0
InOrder place [] last = place ≤ last
InOrder place (piece ∷ pieces) last = (place ≤ piece.start) × (piece.start < piece.end) × InOrder piece.end pieces last

length_unblanked : (x : List ℕ) → blanks x + length (unblanked x) ≡ length x
length_unblanked x = omega (arith, length-drop (blanks x) x, prefix_len-le-length is_blank x)

-- the pieces of a text stand in order within it
pub cut_in_order : (pieces : List Piece) (place : ℕ) (x : List ℕ) (stop : Option ℕ) → Cuts pieces place x stop
    → InOrder place pieces (place + length x)
cut_in_order [] place x stop cuts = omega arith
cut_in_order (piece ∷ pieces) place x stop (bytes, behind, first, start, end, rest) =
    let some : 1 ≤ length bytes = token_not_empty piece.token bytes behind first.is_token in
    let last : piece.end + length behind ≡ place + length x =
    omega (arith, start, end, length_unblanked x, ap length first.whole, length-append bytes behind) in (
      omega (arith, start),
      omega (arith, end, some),
      subst (λ (n : ℕ). InOrder piece.end pieces n) last (cut_in_order pieces piece.end behind stop rest),
    )

not_empty : (x : List ℕ) → (x ≡ [] → ⊥) → 1 ≤ length x
not_empty [] h = absurd (h refl)
not_empty (byte ∷ rest) h = omega arith

-- the place where a text stops being tokens is within it
pub stop_within : (pieces : List Piece) (place : ℕ) (x : List ℕ) (stop : ℕ) → Cuts pieces place x (Some stop)
    → (place ≤ stop) × (stop < place + length x)
stop_within [] place x stop cuts =
    let more : 1 ≤ length (unblanked x) = not_empty (unblanked x) cuts.0 in
    (omega (arith, cuts.2), omega (arith, cuts.2, more, length_unblanked x))
stop_within (piece ∷ pieces) place x stop (bytes, behind, first, start, end, rest) =
    let further = stop_within pieces piece.end behind stop rest in (
      omega (arith, start, end, further.0),
      omega (arith, start, end, further.1, length_unblanked x, ap length first.whole, length-append bytes behind),
    )

-- the bytes of the text between the places of each piece are its token, with what stands behind it
abbrev pub StandIn : List ℕ → List Piece → Type 0
StandIn text [] = Unit {0}
StandIn text (piece ∷ pieces) =
    IsToken piece.token (slice_range text piece.start piece.end) (drop piece.end text) × StandIn text pieces

-- the bytes of a text between the places of its pieces are their tokens
pub cut_stands : (text : List ℕ) (pieces : List Piece) (place : ℕ) (x : List ℕ) (stop : Option ℕ) → x ≡ drop place text
    → Cuts pieces place x stop → StandIn text pieces
cut_stands text [] place x stop at cuts = tt
cut_stands text (piece ∷ pieces) place x stop at (bytes, behind, first, start, end, rest) =
    let from : drop piece.start text ≡ bytes ++ behind =
    ap (λ (n : ℕ). drop n text) start ∙ sym (drop-drop (blanks x) place text)
    ∙ ap (λ (y : List ℕ). drop (blanks x) y) (sym at) ∙ first.whole in
    let size : piece.end - piece.start ≡ length bytes = omega (arith, end) in
    let there : slice_range text piece.start piece.end ≡ bytes =
    ap (λ (n : ℕ). take n (drop piece.start text)) size ∙ ap (λ (y : List ℕ). take (length bytes) y) from ∙ take_at bytes behind (length bytes) refl in
    let after : behind ≡ drop piece.end text =
    sym (drop_at bytes behind (length bytes) refl) ∙ ap (λ (y : List ℕ). drop (length bytes) y) (sym from)
    ∙ drop-drop (length bytes) piece.start text ∙ ap (λ (n : ℕ). drop n text) (sym end) in (
      subst (λ (b : List ℕ). IsToken piece.token b (drop piece.end text)) (sym there)
          (subst (λ (y : List ℕ). IsToken piece.token bytes y) after first.is_token),
      cut_stands text pieces piece.end behind stop after rest,
    )
