-- What is left to do with an operand and the frame around it.
use Rattle.std.specs.Prelude.{ℕ}
use Rattle.plcs_grammar.specs.PlainPhrase.{plain_expr}
use Rattle.phrase_parser.specs.Private.Machine.{ParseStack, Operand, reduced}
use Rattle.phrase_parser.specs.declared.builder.stack.Joined.{Joined}
use Rattle.phrase_parser.specs.declared.builder.stack.Joined.TheVariants as joined
use Rattle.phrase_parser.specs.Private.Views.{pushed}

-- what is left to do with what the builder joined: an operand is joined further with the frame around it, and a frame
-- that stays open ends it
abbrev pub rest_of : Joined → ParseStack → ℕ → Operand
rest_of (joined.Operand t) s level = reduced s level (plain_expr t)
rest_of (joined.Open f t) s level = (pushed f s, plain_expr t)
