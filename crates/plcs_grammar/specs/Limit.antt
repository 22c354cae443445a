-- The limits of numbers and of nesting.
use Rattle.std.specs.Prelude.{ℕ, ◌+◌, ◌≤◌, max, nat_abs, List, [], ◌∷◌, ◌++◌, flat_map, Option, Some, None, All}
use Rattle.plcs_grammar.specs.declared.limit.TheConstants.{GREATEST_NUMBER, GREATEST_NESTING}
use Rattle.plcs_grammar.specs.PlainPhrase.{PlainExpr, PlainExprs, PlainVarRef, PlainPhrase}

-- the greatest number that a phrase may have
abbrev pub greatest_number : ℕ
greatest_number = GREATEST_NUMBER

-- how deep a phrase may be nested
abbrev pub greatest_nesting : ℕ
greatest_nesting = GREATEST_NESTING

abbrev mutual
  -- how deep an expression is nested
  pub nesting : PlainExpr → ℕ
  nesting (PlainExpr.number z) = 0
  nesting (PlainExpr.text value) = 0
  nesting (PlainExpr.bit value) = 0
  nesting (PlainExpr.variable reference) = reference_nesting reference
  nesting (PlainExpr.unary op a) = nesting a + 1
  nesting (PlainExpr.binary op a b) = max (nesting a) (nesting b)
  nesting (PlainExpr.builtin function arguments) = deepest arguments + 1
  nesting (PlainExpr.parenthesized a) = nesting a + 1

  -- how deep a variable is nested: its subscript is one level in
  pub reference_nesting : PlainVarRef → ℕ
  reference_nesting (PlainVarRef.simple name) = 0
  reference_nesting (PlainVarRef.subscripted name index) = nesting index + 1

  -- how deep the deepest of some expressions is nested
  pub deepest : PlainExprs → ℕ
  deepest PlainExprs.nil = 0
  deepest (PlainExprs.cons a rest) = max (nesting a) (deepest rest)

-- how deep the deepest of some variables is nested
abbrev pub deepest_reference : List PlainVarRef → ℕ
deepest_reference [] = 0
deepest_reference (reference ∷ rest) = max (reference_nesting reference) (deepest_reference rest)

-- how deep a call is nested: its arguments stand one level in, where there are some
abbrev pub arguments_nesting : PlainExprs → ℕ
arguments_nesting PlainExprs.nil = 0
arguments_nesting (PlainExprs.cons a rest) = deepest (PlainExprs.cons a rest) + 1

-- how deep a phrase is nested; the sizes of arrays open no level
abbrev pub phrase_nesting : PlainPhrase → ℕ
phrase_nesting (PlainPhrase.assignment target value) = max (reference_nesting target) (nesting value)
phrase_nesting (PlainPhrase.condition e) = nesting e
phrase_nesting (PlainPhrase.expression e) = nesting e
phrase_nesting (PlainPhrase.expression_list es) = deepest es
phrase_nesting (PlainPhrase.variable_list targets) = deepest_reference targets
phrase_nesting (PlainPhrase.variable_name name) = 0
phrase_nesting (PlainPhrase.call name arguments) = arguments_nesting arguments
phrase_nesting (PlainPhrase.declared_list items) = 0
phrase_nesting (PlainPhrase.procedure_name name) = 0
phrase_nesting (PlainPhrase.name_list names) = 0
phrase_nesting (PlainPhrase.greatest_length n) = 0
phrase_nesting (PlainPhrase.comment bytes) = 0

abbrev mutual
  -- the numbers in an expression, in order, each of which has a limit
  pub numbers : PlainExpr → List ℕ
  numbers (PlainExpr.number z) = nat_abs z ∷ []
  numbers (PlainExpr.text value) = []
  numbers (PlainExpr.bit value) = []
  numbers (PlainExpr.variable reference) = reference_numbers reference
  numbers (PlainExpr.unary op a) = numbers a
  numbers (PlainExpr.binary op a b) = numbers a ++ numbers b
  numbers (PlainExpr.builtin function arguments) = numbers_of_all arguments
  numbers (PlainExpr.parenthesized a) = numbers a

  -- the numbers in a variable's subscript, in order, each of which has a limit
  pub reference_numbers : PlainVarRef → List ℕ
  reference_numbers (PlainVarRef.simple name) = []
  reference_numbers (PlainVarRef.subscripted name index) = numbers index

  -- the numbers in a list of expressions, in order, to each of which the limit of numbers applies
  pub numbers_of_all : PlainExprs → List ℕ
  numbers_of_all PlainExprs.nil = []
  numbers_of_all (PlainExprs.cons a rest) = numbers a ++ numbers_of_all rest

-- the number in a declared item, which has a limit: the size of an array, if the item is one
abbrev pub size_numbers : Option ℕ → List ℕ
size_numbers None = []
size_numbers (Some size) = size ∷ []

-- the numbers in a phrase, in order, each of which has a limit
abbrev pub phrase_numbers : PlainPhrase → List ℕ
phrase_numbers (PlainPhrase.assignment target value) = reference_numbers target ++ numbers value
phrase_numbers (PlainPhrase.condition e) = numbers e
phrase_numbers (PlainPhrase.expression e) = numbers e
phrase_numbers (PlainPhrase.expression_list es) = numbers_of_all es
phrase_numbers (PlainPhrase.variable_list targets) = flat_map reference_numbers targets
phrase_numbers (PlainPhrase.variable_name name) = []
phrase_numbers (PlainPhrase.call name arguments) = numbers_of_all arguments
phrase_numbers (PlainPhrase.declared_list items) = flat_map (λ item. size_numbers item.size) items
phrase_numbers (PlainPhrase.procedure_name name) = []
phrase_numbers (PlainPhrase.name_list names) = []
phrase_numbers (PlainPhrase.greatest_length n) = n ∷ []
phrase_numbers (PlainPhrase.comment bytes) = []

-- the phrase keeps both limits
pub record IsWithinLimits (phrase : PlainPhrase) : Type 0 where
  pub numbers_fit : All (λ n. n ≤ greatest_number) (phrase_numbers phrase)
  pub nesting_fits : phrase_nesting phrase ≤ greatest_nesting
