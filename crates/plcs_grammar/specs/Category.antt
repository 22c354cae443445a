-- Categories told apart: which are the same.
use Rattle.std.specs.Prelude.{ℕ, Bool, ◌==◌}
use Rattle.plcs_grammar.specs.declared.category.Category.{Category}
use Rattle.plcs_grammar.specs.declared.category.Category.TheVariants.{Assignment, Condition, Expression, ExpressionList, VariableList, Variable, CallRef, DeclaredList, ProcedureName, NameList, Length, CommentText}

-- the number of a category, by which categories are told apart
abbrev pub category_number : Category → ℕ
category_number Assignment = 0
category_number Condition = 1
category_number Expression = 2
category_number ExpressionList = 3
category_number VariableList = 4
category_number Variable = 5
category_number CallRef = 6
category_number DeclaredList = 7
category_number ProcedureName = 8
category_number NameList = 9
category_number Length = 10
category_number CommentText = 11

-- whether two categories are one
abbrev pub same_category : Category → Category → Bool
same_category one other = category_number one == category_number other
