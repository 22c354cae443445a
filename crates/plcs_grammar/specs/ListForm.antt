-- Which tokens are a list: the form of what is joined by commas, for elements whose own form is given.
use Rattle.std.specs.Prelude.{◌≡◌, List, [], ◌∷◌, ◌++◌}
use Rattle.plcs_grammar.specs.declared.sign.Sign.{Sign}
use Rattle.plcs_grammar.specs.Token.{Token}

module _ {X : Type 0} (Is : X → List Token → Type 0) where
  -- the tokens are the rest of a list, each element behind a comma
  abbrev pub IsMoreOf : List X → List Token → Type 0
  IsMoreOf [] tokens = tokens ≡ []
  IsMoreOf (x ∷ xs) tokens =
      (left right : List Token) × (tokens ≡ Token.sign Sign.Comma ∷ (left ++ right)) × Is x left × IsMoreOf xs right

  -- the tokens are a list of one element or more, joined by commas
  abbrev pub IsListOf : List X → List Token → Type 0
  IsListOf [] tokens = ⊥
  IsListOf (x ∷ xs) tokens = (left right : List Token) × (tokens ≡ left ++ right) × Is x left × IsMoreOf xs right
