-- What is written where a part is empty.
use Rattle.std.specs.Prelude.{ℕ, ◌-◌, List, length, take, drop, codes}
use Rattle.plcs_grammar.specs.declared.category.Category.{Category}
use Rattle.plcs_grammar.specs.declared.category.Category.TheVariants.{Assignment, Condition, Expression, ExpressionList, VariableList, Variable, CallRef, DeclaredList, ProcedureName, NameList, Length, CommentText}

-- what is written where a part of the category is empty: its placeholder; for an assignment, the statement hole in
-- which it is typed
abbrev pub placeholder : Category → List ℕ
placeholder Assignment = codes "{statement}"
placeholder Condition = codes "{condition}"
placeholder Expression = codes "{expression}"
placeholder ExpressionList = codes "{expressions}"
placeholder VariableList = codes "{variables}"
placeholder Variable = codes "{variable}"
placeholder CallRef = codes "{call}"
placeholder DeclaredList = codes "{names}"
placeholder ProcedureName = codes "{name}"
placeholder NameList = codes "{parameters}"
placeholder Length = codes "{length}"
placeholder CommentText = codes "{comment}"

-- the word of a category's placeholder, without the braces
abbrev pub placeholder_word : Category → List ℕ
placeholder_word category = let whole = placeholder category in take (length whole - 2) (drop 1 whole)
