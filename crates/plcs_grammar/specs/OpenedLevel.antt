-- Which token opens which level of nesting: a level is opened by its parenthesis or by its prefix operator. Levels
-- count from 1.
use Rattle.std.specs.Prelude.{ℕ, ◌+◌, List, [], ◌∷◌, ◌++◌}
use Rattle.plcs_grammar.specs.PlainPhrase.{PlainExpr, PlainExprs, PlainVarRef, PlainPhrase}

abbrev mutual
  -- for each token of an expression that stands so many levels in, the level that it opens, or 0
  pub opened_levels : PlainExpr → ℕ → List ℕ
  opened_levels (PlainExpr.number z) outside = 0 ∷ []
  opened_levels (PlainExpr.text value) outside = 0 ∷ []
  opened_levels (PlainExpr.bit value) outside = 0 ∷ []
  opened_levels (PlainExpr.variable reference) outside = reference_opened_levels reference outside
  opened_levels (PlainExpr.unary op a) outside = (outside + 1) ∷ opened_levels a (outside + 1)
  opened_levels (PlainExpr.binary op a b) outside = opened_levels a outside ++ (0 ∷ opened_levels b outside)
  opened_levels (PlainExpr.builtin function arguments) outside =
      0 ∷ (outside + 1) ∷ (opened_levels_of_all arguments (outside + 1) ++ (0 ∷ []))
  opened_levels (PlainExpr.parenthesized a) outside = (outside + 1) ∷ (opened_levels a (outside + 1) ++ (0 ∷ []))

  -- for each token of a variable that stands so many levels in, the level that it opens, or 0
  pub reference_opened_levels : PlainVarRef → ℕ → List ℕ
  reference_opened_levels (PlainVarRef.simple name) outside = 0 ∷ []
  reference_opened_levels (PlainVarRef.subscripted name index) outside =
      0 ∷ (outside + 1) ∷ (opened_levels index (outside + 1) ++ (0 ∷ []))

  -- for each token of expressions joined by commas, the level that it opens, or 0
  pub opened_levels_of_all : PlainExprs → ℕ → List ℕ
  opened_levels_of_all PlainExprs.nil outside = []
  opened_levels_of_all (PlainExprs.cons a rest) outside = opened_levels a outside ++ opened_levels_behind rest outside

  -- for each token of expressions that stand each behind a comma, the level that it opens, or 0
  pub opened_levels_behind : PlainExprs → ℕ → List ℕ
  opened_levels_behind PlainExprs.nil outside = []
  opened_levels_behind (PlainExprs.cons a rest) outside =
      0 ∷ (opened_levels a outside ++ opened_levels_behind rest outside)

-- for each token of variables that stand each behind a comma, the level that it opens, or 0
abbrev pub opened_levels_of_more_references : List PlainVarRef → List ℕ
opened_levels_of_more_references [] = []
opened_levels_of_more_references (reference ∷ rest) =
    0 ∷ (reference_opened_levels reference 0 ++ opened_levels_of_more_references rest)

-- for each token of one variable or more, joined by commas, the level that it opens, or 0
abbrev pub opened_levels_of_references : List PlainVarRef → List ℕ
opened_levels_of_references [] = []
opened_levels_of_references (reference ∷ rest) =
    reference_opened_levels reference 0 ++ opened_levels_of_more_references rest

-- for each token of a call, whose arguments stand one level in, the level that it opens, or 0
abbrev pub opened_levels_of_call : PlainExprs → List ℕ
opened_levels_of_call PlainExprs.nil = 0 ∷ []
opened_levels_of_call (PlainExprs.cons a rest) = 0 ∷ 1 ∷ (opened_levels_of_all (PlainExprs.cons a rest) 1 ++ (0 ∷ []))

-- for each token of a phrase, the level that it opens, or 0; tokens that the list doesn't come to open no level
abbrev pub phrase_opened_levels : PlainPhrase → List ℕ
phrase_opened_levels (PlainPhrase.assignment target value) =
    reference_opened_levels target 0 ++ (0 ∷ opened_levels value 0)
phrase_opened_levels (PlainPhrase.condition e) = opened_levels e 0
phrase_opened_levels (PlainPhrase.expression e) = opened_levels e 0
phrase_opened_levels (PlainPhrase.expression_list es) = opened_levels_of_all es 0
phrase_opened_levels (PlainPhrase.variable_list targets) = opened_levels_of_references targets
phrase_opened_levels (PlainPhrase.variable_name name) = []
phrase_opened_levels (PlainPhrase.call name arguments) = opened_levels_of_call arguments
phrase_opened_levels (PlainPhrase.declared_list items) = []
phrase_opened_levels (PlainPhrase.procedure_name name) = []
phrase_opened_levels (PlainPhrase.name_list names) = []
phrase_opened_levels (PlainPhrase.greatest_length n) = []
phrase_opened_levels (PlainPhrase.comment bytes) = []
