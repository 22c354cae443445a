-- The code of phrases: that of the operands from left to right, and then the operator; parentheses add nothing.
-- Also the expressions and variables of a phrase from which its code is made.
use Rattle.std.specs.Prelude.{ℕ, ◌+◌, List, [], ◌∷◌, ◌++◌, Option, Some, None}
use Rattle.plcs_grammar.specs.PlainPhrase.{PlainExpr, PlainExprs, PlainVarRef, PlainPhrase}
use Rattle.template_tree.specs.Positions.Place.{place_at}
use Rattle.plcs_code.specs.PlainInstr.{PlainInstr}

-- how many expressions stand in a list of which the code is made
abbrev pub expr_count : PlainExprs → ℕ
expr_count PlainExprs.nil = 0
expr_count (PlainExprs.cons e es) = expr_count es + 1

-- the instruction for a variable in the code of a phrase: the one of its name, or the other one of its name where it
-- has a subscript
abbrev pub variable_instr : (simple subscripted : List ℕ → PlainInstr) → PlainVarRef → PlainInstr
variable_instr simple subscripted (PlainVarRef.simple name) = simple name
variable_instr simple subscripted (PlainVarRef.subscripted name index) = subscripted name

abbrev mutual
  -- the code of an expression
  pub expr_instrs : PlainExpr → List PlainInstr
  expr_instrs (PlainExpr.number z) = PlainInstr.push_number z ∷ []
  expr_instrs (PlainExpr.text value) = PlainInstr.push_text value ∷ []
  expr_instrs (PlainExpr.bit value) = PlainInstr.push_bit value ∷ []
  expr_instrs (PlainExpr.variable reference) =
      index_instrs reference ++ (variable_instr PlainInstr.load PlainInstr.load_at reference ∷ [])
  expr_instrs (PlainExpr.unary op a) = expr_instrs a ++ (PlainInstr.unary op ∷ [])
  expr_instrs (PlainExpr.binary op a b) = expr_instrs a ++ (expr_instrs b ++ (PlainInstr.binary op ∷ []))
  expr_instrs (PlainExpr.builtin function arguments) =
      exprs_instrs arguments ++ (PlainInstr.builtin function (expr_count arguments) ∷ [])
  expr_instrs (PlainExpr.parenthesized a) = expr_instrs a

  -- the code of a variable's subscript: none where it has none
  pub index_instrs : PlainVarRef → List PlainInstr
  index_instrs (PlainVarRef.simple name) = []
  index_instrs (PlainVarRef.subscripted name index) = expr_instrs index

  -- the code of expressions, one after the other
  pub exprs_instrs : PlainExprs → List PlainInstr
  exprs_instrs PlainExprs.nil = []
  exprs_instrs (PlainExprs.cons a rest) = expr_instrs a ++ exprs_instrs rest

-- the code of an argument of a call: a variable without parentheses is passed by reference, and the value of any other
-- expression by a dummy
abbrev pub argument_instrs : PlainExpr → List PlainInstr
argument_instrs (PlainExpr.variable reference) =
    index_instrs reference ++ (variable_instr PlainInstr.reference PlainInstr.reference_at reference ∷ [])
argument_instrs other = expr_instrs other ++ (PlainInstr.dummy ∷ [])

-- the code of the arguments of a call
abbrev pub arguments_instrs : PlainExprs → List PlainInstr
arguments_instrs PlainExprs.nil = []
arguments_instrs (PlainExprs.cons a rest) = argument_instrs a ++ arguments_instrs rest

-- the code of the phrase of a GET in a slot, from the item of this number on: that of each item is a step of its own
abbrev pub items_instrs : (slot k : ℕ) → List PlainVarRef → List PlainInstr
items_instrs slot k [] = []
items_instrs slot k (target ∷ targets) =
    PlainInstr.place (place_at slot k)
    ∷ (index_instrs target
    ++ (variable_instr PlainInstr.get PlainInstr.get_at target ∷ items_instrs slot (k + 1) targets))

-- the code of a phrase: of an assignment, of an expression or of several, or of a call. The variables of a GET and of a
-- loop have none of their own, and nor has what is no part of a run
abbrev pub phrase_instrs : PlainPhrase → List PlainInstr
phrase_instrs (PlainPhrase.assignment target value) =
    index_instrs target
    ++ (expr_instrs value ++ (variable_instr PlainInstr.store PlainInstr.store_at target ∷ []))
phrase_instrs (PlainPhrase.condition e) = expr_instrs e
phrase_instrs (PlainPhrase.expression e) = expr_instrs e
phrase_instrs (PlainPhrase.expression_list es) = exprs_instrs es
phrase_instrs (PlainPhrase.variable_list targets) = []
phrase_instrs (PlainPhrase.variable_name name) = []
phrase_instrs (PlainPhrase.call name arguments) =
    arguments_instrs arguments ++ (PlainInstr.call name (expr_count arguments) ∷ [])
phrase_instrs (PlainPhrase.declared_list items) = []
phrase_instrs (PlainPhrase.procedure_name name) = []
phrase_instrs (PlainPhrase.name_list names) = []
phrase_instrs (PlainPhrase.greatest_length n) = []
phrase_instrs (PlainPhrase.comment bytes) = []

-- the code of what stands in a part: that of the phrase, or none
abbrev pub part_instrs : Option PlainPhrase → List PlainInstr
part_instrs None = []
part_instrs (Some phrase) = phrase_instrs phrase

-- the expressions of which the code of a phrase is made that is a list: none where no list stands in the part
abbrev pub listed_exprs : Option PlainPhrase → PlainExprs
listed_exprs (Some (PlainPhrase.expression_list es)) = es
listed_exprs other = PlainExprs.nil

-- the code of expressions, and behind it the instruction for as many of them
abbrev pub listed_instrs : (make : ℕ → PlainInstr) → PlainExprs → List PlainInstr
listed_instrs make es = exprs_instrs es ++ (make (expr_count es) ∷ [])

-- the variables of a phrase, the list of a GET, from which the code of that phrase is made: none where no list stands
-- in the part
abbrev pub get_targets : Option PlainPhrase → List PlainVarRef
get_targets (Some (PlainPhrase.variable_list targets)) = targets
get_targets other = []

-- the variable with which a loop counts, from which the code of the phrase in a part is made, if it is there
abbrev pub counter_name : Option PlainPhrase → Option (List ℕ)
counter_name (Some (PlainPhrase.variable_name name)) = Some name
counter_name other = None
