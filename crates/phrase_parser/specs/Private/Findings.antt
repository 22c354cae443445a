-- What the check of the tokens of a text finds, without trees.
use Rattle.std.specs.Prelude.{ℕ, Bool, false, nat_lt, if◌then◌else◌, List, [], ◌∷◌, Option, Some, None}
use Rattle.std.specs.Option.{option_or}
use Rattle.plcs_grammar.specs.Cuts.{Piece}
use Rattle.plcs_grammar.specs.Limit.{greatest_number, greatest_nesting}
use Rattle.plcs_grammar.specs.OverLimit.{OverLimit}
use Rattle.phrase_parser.specs.declared.check.token_class.TokenClass.{TokenClass}
use Rattle.phrase_parser.specs.Private.Recognizer.{Shape, class_of, next, may_end, level_of}

-- a finding: nothing, the place where the text goes wrong, or what goes past a limit first
pub data Finding : Type 0 where
  fine : Finding
  syntax_at : ℕ → Finding
  over : OverLimit → Finding

-- the finding where the tokens are a phrase: nothing, or what goes past a limit first
abbrev pub finding_of : Option OverLimit → Finding
finding_of None = fine
finding_of (Some o) = over o

-- what the check finds behind the last token: the text ends there, or no further token can be made
abbrev pub found_at_end : Option ℕ → ℕ → Shape → Option OverLimit → Finding
found_at_end (Some stop) end shape found = syntax_at stop
found_at_end None end shape found = if may_end shape then finding_of found else syntax_at end

-- what the check finds at a token with this place, and else behind it
abbrev pub found_at : Option Shape → ℕ → (Shape → Finding) → Finding
found_at None place behind = syntax_at place
found_at (Some shape) place behind = behind shape

-- a token as the check sees it: its class and the place where it stands
pub record Seen : Type 0 where
  pub class : TokenClass
  pub start : ℕ

-- what the check of the tokens of a text sees of a piece, to find what is wrong: the class of its token and the place
abbrev pub seen_of : Piece → Seen
seen_of piece = record { class = class_of piece.token; start = piece.start }

-- whether the check of tokens finds a number that is too large at one of this class
abbrev pub is_large : TokenClass → Bool
is_large (TokenClass.Number n) = nat_lt greatest_number n
is_large (TokenClass.Name is_builtin) = false
is_large TokenClass.Keyword = false
is_large TokenClass.Constant = false
is_large (TokenClass.Sign s) = false

-- the limit that a token as the check sees it goes past, if it does one; the level is the one that it opens, or 0
abbrev pub seen_over : Seen → ℕ → Option OverLimit
seen_over seen level =
    if is_large seen.class then Some (OverLimit.number_too_large seen.start)
    else (if nat_lt greatest_nesting level then Some (OverLimit.too_deep seen.start) else None)

-- what the check finds in the tokens that follow a shape, where this went past a limit first before them; the text is
-- cut up to its end, or up to a place where no token can be made
abbrev pub findings : List Seen → Option ℕ → ℕ → Shape → Option OverLimit → Finding
findings [] stop end shape found = found_at_end stop end shape found
findings (seen ∷ rest) stop end shape found =
    found_at (next shape seen.class) seen.start
    (λ z. findings rest stop end z (option_or found (seen_over seen (level_of shape seen.class))))
