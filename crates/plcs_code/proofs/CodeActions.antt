-- The code of phrases neither jumps nor ends a step: it only works on values. So each jump and each place of a node's
-- code is one that its row of the table says.
use Rattle.std.proofs.Common.{◌≡◌, ℕ, Bool, true, false, List, [], ◌∷◌, ◌++◌, Option, Some, None, refl}
use Rattle.std.specs.Prelude.{bytes_eq, flat_map, if◌then◌else◌, ◌==◌}
use Rattle.std.specs.List.{list_any}
use Rattle.plcs_base.specs.Mark.{MarkMap}
use Rattle.plcs_base.specs.declared.declared.Declared.{Declared}
use Rattle.plcs_grammar.specs.PlainPhrase.{PlainExpr, PlainExprs, PlainPhrase, PlainVarRef}
use Rattle.template_tree.specs.Checks.Environment.{item_named}
use Rattle.plcs_code.specs.ExprCode.{argument_instrs, arguments_instrs, expr_count, expr_instrs, exprs_instrs, index_instrs, listed_instrs, part_instrs, phrase_instrs, variable_instr}
use Rattle.plcs_code.specs.Pieces.{cell_instr, has_empty, has_marked_part, new_parameter, parameter_instr, parameters_instrs, suspension}
use Rattle.plcs_code.specs.PlainInstr.{PlainInstr}

-- whether the instruction neither jumps nor ends a step
abbrev pub is_action : PlainInstr → Bool
is_action (PlainInstr.place at) = false
is_action (PlainInstr.jump d) = false
is_action (PlainInstr.jump_false d) = false
is_action (PlainInstr.for_enter slot name d) = false
is_action (PlainInstr.for_next slot name d) = false
is_action other = true

-- each of the instructions neither jumps nor ends a step
abbrev pub AreActions : List PlainInstr → Type 0
AreActions [] = Unit {0}
AreActions (instr ∷ code) = (is_action instr ≡ true) × AreActions code

pub actions_append : (one other : List PlainInstr) → AreActions one → AreActions other → AreActions (one ++ other)
actions_append [] other first second = second
actions_append (instr ∷ one) other first second = (first.0, actions_append one other first.1 second)

-- code and one more instruction behind it
actions_then : (code : List PlainInstr) (instr : PlainInstr) → AreActions code → is_action instr ≡ true → AreActions (code ++ (instr ∷ []))
actions_then code instr first last = actions_append code (instr ∷ []) first (last, tt)

-- an instruction or none
actions_if : (b : Bool) (instr : PlainInstr) → is_action instr ≡ true → AreActions (if b then instr ∷ [] else [])
actions_if true instr is = (is, tt)
actions_if false instr is = tt

actions_unless : (b : Bool) (code : List PlainInstr) → AreActions code → AreActions (if b then [] else code)
actions_unless true code are = tt
actions_unless false code are = are

-- ---- phrases

variable_action : (simple subscripted : List ℕ → PlainInstr) (reference : PlainVarRef)
    → ((name : List ℕ) → is_action (simple name) ≡ true) → ((name : List ℕ) → is_action (subscripted name) ≡ true)
    → is_action (variable_instr simple subscripted reference) ≡ true
variable_action simple subscripted (PlainVarRef.simple name) one other = one name
variable_action simple subscripted (PlainVarRef.subscripted name index) one other = other name

mutual
  expr_actions : (e : PlainExpr) → AreActions (expr_instrs e)
  expr_actions (PlainExpr.number z) = (refl, tt)
  expr_actions (PlainExpr.text value) = (refl, tt)
  expr_actions (PlainExpr.bit value) = (refl, tt)
  expr_actions (PlainExpr.variable reference) =
      actions_then (index_instrs reference) (variable_instr PlainInstr.load PlainInstr.load_at reference) (index_actions reference)
      (variable_action PlainInstr.load PlainInstr.load_at reference (λ _. refl) (λ _. refl))
  expr_actions (PlainExpr.unary op a) = actions_then (expr_instrs a) (PlainInstr.unary op) (expr_actions a) refl
  expr_actions (PlainExpr.binary op a b) =
      actions_append (expr_instrs a) (expr_instrs b ++ (PlainInstr.binary op ∷ [])) (expr_actions a)
      (actions_then (expr_instrs b) (PlainInstr.binary op) (expr_actions b) refl)
  expr_actions (PlainExpr.builtin function arguments) =
      actions_then (exprs_instrs arguments) (PlainInstr.builtin function (expr_count arguments)) (exprs_actions arguments) refl
  expr_actions (PlainExpr.parenthesized a) = expr_actions a

  index_actions : (reference : PlainVarRef) → AreActions (index_instrs reference)
  index_actions (PlainVarRef.simple name) = tt
  index_actions (PlainVarRef.subscripted name index) = expr_actions index

  exprs_actions : (es : PlainExprs) → AreActions (exprs_instrs es)
  exprs_actions PlainExprs.nil = tt
  exprs_actions (PlainExprs.cons a rest) = actions_append (expr_instrs a) (exprs_instrs rest) (expr_actions a) (exprs_actions rest)

-- the code of the subscript of a variable, and an instruction for that
pub target_actions : (simple subscripted : List ℕ → PlainInstr) (reference : PlainVarRef)
    → ((name : List ℕ) → is_action (simple name) ≡ true) → ((name : List ℕ) → is_action (subscripted name) ≡ true)
    → AreActions (index_instrs reference) × (is_action (variable_instr simple subscripted reference) ≡ true)
target_actions simple subscripted reference one other = (index_actions reference, variable_action simple subscripted reference one other)

argument_actions : (e : PlainExpr) → AreActions (argument_instrs e)
argument_actions (PlainExpr.variable reference) =
    actions_then (index_instrs reference) (variable_instr PlainInstr.reference PlainInstr.reference_at reference) (index_actions reference)
    (variable_action PlainInstr.reference PlainInstr.reference_at reference (λ _. refl) (λ _. refl))
argument_actions (PlainExpr.number z) = (refl, (refl, tt))
argument_actions (PlainExpr.text value) = (refl, (refl, tt))
argument_actions (PlainExpr.bit value) = (refl, (refl, tt))
argument_actions (PlainExpr.unary op a) =
    actions_then (expr_instrs (PlainExpr.unary op a)) PlainInstr.dummy (expr_actions (PlainExpr.unary op a)) refl
argument_actions (PlainExpr.binary op a b) =
    actions_then (expr_instrs (PlainExpr.binary op a b)) PlainInstr.dummy (expr_actions (PlainExpr.binary op a b)) refl
argument_actions (PlainExpr.builtin function arguments) =
    actions_then (expr_instrs (PlainExpr.builtin function arguments)) PlainInstr.dummy
    (expr_actions (PlainExpr.builtin function arguments)) refl
argument_actions (PlainExpr.parenthesized a) = actions_then (expr_instrs a) PlainInstr.dummy (expr_actions a) refl

arguments_actions : (es : PlainExprs) → AreActions (arguments_instrs es)
arguments_actions PlainExprs.nil = tt
arguments_actions (PlainExprs.cons a rest) =
    actions_append (argument_instrs a) (arguments_instrs rest) (argument_actions a) (arguments_actions rest)

phrase_actions : (phrase : PlainPhrase) → AreActions (phrase_instrs phrase)
phrase_actions (PlainPhrase.assignment target value) =
    actions_append (index_instrs target) (expr_instrs value ++ (variable_instr PlainInstr.store PlainInstr.store_at target ∷ []))
    (index_actions target)
    (actions_then (expr_instrs value) (variable_instr PlainInstr.store PlainInstr.store_at target) (expr_actions value)
    (variable_action PlainInstr.store PlainInstr.store_at target (λ _. refl) (λ _. refl)))
phrase_actions (PlainPhrase.condition e) = expr_actions e
phrase_actions (PlainPhrase.expression e) = expr_actions e
phrase_actions (PlainPhrase.expression_list es) = exprs_actions es
phrase_actions (PlainPhrase.variable_list targets) = tt
phrase_actions (PlainPhrase.variable_name name) = tt
phrase_actions (PlainPhrase.call name arguments) =
    actions_then (arguments_instrs arguments) (PlainInstr.call name (expr_count arguments)) (arguments_actions arguments) refl
phrase_actions (PlainPhrase.declared_list items) = tt
phrase_actions (PlainPhrase.procedure_name name) = tt
phrase_actions (PlainPhrase.name_list names) = tt
phrase_actions (PlainPhrase.greatest_length n) = tt
phrase_actions (PlainPhrase.comment bytes) = tt

-- the code of what stands in a part
pub part_actions : (part : Option PlainPhrase) → AreActions (part_instrs part)
part_actions None = tt
part_actions (Some phrase) = phrase_actions phrase

-- the code of a list of expressions
pub listed_actions : (make : ℕ → PlainInstr) (es : PlainExprs) → ((n : ℕ) → is_action (make n) ≡ true) → AreActions (listed_instrs make es)
listed_actions make es is = actions_then (exprs_instrs es) (make (expr_count es)) (exprs_actions es) (is (expr_count es))

-- ---- what stops a run

-- what stops a run, if something does
abbrev pub IsStop : Option PlainInstr → Type 0
IsStop None = Unit {0}
IsStop (Some stop) = is_action stop ≡ true

suspension_is : (empty marked : Bool)
    → IsStop (if empty then Some PlainInstr.suspend_placeholder else (if marked then Some PlainInstr.suspend_marked else None))
suspension_is true marked = refl
suspension_is false true = refl
suspension_is false false = tt

pub suspension_stops : (marks : MarkMap) (slot : ℕ) (parts : List (Option PlainPhrase)) → IsStop (suspension marks slot parts)
suspension_stops marks slot parts = suspension_is (has_empty parts) (has_marked_part marks slot 0 parts)

-- ---- cells

parameter_actions : (item : Option Declared) → AreActions (parameter_instr item)
parameter_actions None = tt
parameter_actions (Some item) = actions_if (item.size == 0) (PlainInstr.parameter item.name item.ty) refl

pub parameters_actions : (items : List Declared) (earlier names : List (List ℕ)) → AreActions (parameters_instrs items earlier names)
parameters_actions items earlier [] = tt
parameters_actions items earlier (name ∷ names) =
    actions_append (new_parameter items earlier name) (parameters_instrs items (earlier ++ (name ∷ [])) names)
    (actions_unless (list_any (bytes_eq name) earlier) (parameter_instr (item_named name items)) (parameter_actions (item_named name items)))
    (parameters_actions items (earlier ++ (name ∷ [])) names)

pub cells_actions : (parameters : List (List ℕ)) (items : List Declared) → AreActions (flat_map (cell_instr parameters) items)
cells_actions parameters [] = tt
cells_actions parameters (item ∷ items) =
    actions_append (cell_instr parameters item) (flat_map (cell_instr parameters) items)
    (actions_unless (list_any (bytes_eq item.name) parameters) (PlainInstr.cell item.name item.ty item.size ∷ []) (refl, tt))
    (cells_actions parameters items)
