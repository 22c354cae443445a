-- Whether a sign is an operator is all that the machine without trees asks.
use Rattle.std.proofs.Common.{◌≡◌, refl, ℕ, ◌+◌, cond, List, Option, Some, None}
use Rattle.std.specs.Prelude.{is_some}
use Rattle.plcs_grammar.specs.declared.operator.PrefixOp.{PrefixOp}
use Rattle.plcs_grammar.specs.declared.operator.InfixOp.{InfixOp}
use Rattle.phrase_parser.specs.declared.check.ground.Ground.{Ground}
use Rattle.phrase_parser.specs.declared.check.nesting.Bracket.{Bracket}
use Rattle.phrase_parser.specs.Private.Recognizer.{Shape, levels_inside, next_prefix, next_infix}

pub prefix_if : (g : Ground) (brackets : List Bracket) (level : ℕ) (op : Option PrefixOp)
    → next_prefix g brackets level op ≡ cond (is_some op) (Some (Shape.wanted g brackets (level + 1))) None
prefix_if g brackets level None = refl
prefix_if g brackets level (Some op) = refl

pub infix_if : (g : Ground) (brackets : List Bracket) (op : Option InfixOp)
    → next_infix g brackets op ≡ cond (is_some op) (Some (Shape.wanted g brackets (levels_inside g brackets))) None
infix_if g brackets None = refl
infix_if g brackets (Some op) = refl
