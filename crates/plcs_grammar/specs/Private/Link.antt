-- A chain of operators, taken apart from its last operator on.
use Rattle.std.specs.Prelude.{List, [], ◌∷◌}
use Rattle.plcs_grammar.specs.declared.expr_copy.Link.{Link}
use Rattle.plcs_grammar.specs.PlainPhrase.{PlainExpr, plain_expr}

-- the chain that an operand begins and these operators go on, the last one first
abbrev pub linked : PlainExpr → List Link → PlainExpr
linked operand [] = operand
linked operand (link ∷ links) = PlainExpr.binary link.op (linked operand links) (plain_expr link.right)
