-- A state that has taken one more token.
use Rattle.std.proofs.Common.{◌≡◌, List, [], ◌∷◌, ◌++◌, Option, Some, None, sym, ◌∙◌, append_assoc}
use Rattle.plcs_grammar.specs.declared.sign.Sign.{Sign}
use Rattle.plcs_grammar.specs.Token.{Token}
use Rattle.phrase_parser.specs.Private.Machine.{ParseState}
use Rattle.phrase_parser.proofs.Machine.ConsumedTokens.{flat, Sound, state_category}

-- the token that is a comma
abbrev pub comma : Token
comma = Token.sign Sign.Comma

-- the token that is a closing parenthesis
abbrev pub close : Token
close = Token.sign Sign.CloseParenthesis

-- the token that is an opening parenthesis
abbrev pub open_ : Token
open_ = Token.sign Sign.OpenParenthesis

-- a state after one more token
pub record After (s : ParseState) (k : Token) (z : ParseState) : Type 0 where
  pub sound : Sound z
  pub tokens : flat z ≡ flat s ++ (k ∷ [])
  pub category : state_category z ≡ state_category s

-- the token stops the machine, or is one more that it has read
abbrev pub AfterIf : ParseState → Token → Option ParseState → Type 0
AfterIf s k None = Unit {0}
AfterIf s k (Some z) = After s k z

-- lists in four parts are one list, however they are grouped
pub regroup : {X : Type 0} (a b c d : List X) → a ++ (b ++ (c ++ d)) ≡ ((a ++ b) ++ c) ++ d
regroup a b c d = sym (append_assoc a b (c ++ d)) ∙ sym (append_assoc (a ++ b) c d)
