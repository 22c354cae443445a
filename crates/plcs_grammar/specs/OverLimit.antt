-- The first token of a text that goes past a limit.
use Rattle.std.specs.Prelude.{ℕ, Bool, false, nat_lt, if◌then◌else◌, List, [], ◌∷◌, Option, Some, None}
use Rattle.std.specs.Option.{option_or}
use Rattle.plcs_grammar.specs.Token.{Token}
use Rattle.plcs_grammar.specs.Cuts.{Piece}
use Rattle.plcs_grammar.specs.Limit.{greatest_number, greatest_nesting}

-- what of a text goes past its limit, a number or the nesting, and the place of it
pub data OverLimit : Type 0 where
  number_too_large : ℕ → OverLimit
  too_deep : ℕ → OverLimit

-- whether a token is a number over the greatest one that a phrase may have
abbrev pub is_too_large : Token → Bool
is_too_large (Token.number n) = nat_lt greatest_number n
is_too_large (Token.name n) = false
is_too_large (Token.keyword word) = false
is_too_large (Token.text value) = false
is_too_large (Token.bit value) = false
is_too_large (Token.sign s) = false

-- the limit that a piece of a text goes past, if it does one; the level is the one that its token opens, or 0
abbrev pub over_at : Piece → ℕ → Option OverLimit
over_at piece level =
    if is_too_large piece.token then Some (OverLimit.number_too_large piece.start)
    else (if nat_lt greatest_nesting level then Some (OverLimit.too_deep piece.start) else None)

-- the first of a text's pieces that goes past a limit, where each opens the level beside it
abbrev pub first_over : List Piece → List ℕ → Option OverLimit
first_over [] levels = None
first_over (piece ∷ pieces) [] = option_or (over_at piece 0) (first_over pieces [])
first_over (piece ∷ pieces) (level ∷ levels) = option_or (over_at piece level) (first_over pieces levels)
