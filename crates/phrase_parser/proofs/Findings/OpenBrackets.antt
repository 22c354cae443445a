-- The open parentheses of the check, of which the innermost is the last.
use Rattle.std.proofs.Common.{◌≡◌, List, [], ◌∷◌, ◌++◌, reverse}
use Rattle.std.proofs.lemmas.List.{reverse-append}
use Rattle.phrase_parser.specs.declared.check.nesting.Bracket.{Bracket}

-- the last of the open parentheses is the first of those turned round
pub brackets_push : (brackets : List Bracket) (bracket : Bracket) → reverse (brackets ++ (bracket ∷ [])) ≡ bracket ∷ reverse brackets
brackets_push brackets bracket = reverse-append brackets (bracket ∷ [])
