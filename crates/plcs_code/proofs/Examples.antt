-- The definitions at work: the code of an expression, of a call of a procedure, of a While before and after the PUT in
-- it grew, and of an Until; and where a second body stands, and which of two headings of a name counts.
use Rattle.std.specs.Prelude.{◌≡◌, refl, ℕ, pos, negsuc, true, false, List, [], ◌∷◌, codes, Option, Some, None}
use Rattle.std.specs.FinMap.{empty, from_entries, get, gets}
use Rattle.plcs_base.specs.Mark.{MarkMap}
use Rattle.plcs_base.specs.Scope.{ItemMap}
use Rattle.plcs_base.specs.declared.declared.ItemType.{ItemType}
use Rattle.plcs_grammar.specs.declared.node_kind.NodeKind.{NodeKind}
use Rattle.plcs_grammar.specs.declared.operator.InfixOp.{InfixOp}
use Rattle.plcs_grammar.specs.declared.template.Template.{Template}
use Rattle.plcs_grammar.specs.Builtin.{is_builtin_name}
use Rattle.plcs_grammar.specs.PlainPhrase.{PlainExpr, PlainExprs, PlainPhrase, PlainVarRef}
use Rattle.template_tree.specs.Positions.Place.{place_at}
use Rattle.template_tree.specs.Programs.PlainTree.{Forest, Label}
use Rattle.plcs_code.specs.Gen.{Gen, headings_by_name}
use Rattle.plcs_code.specs.InstrText.{instr_text}
use Rattle.plcs_code.specs.Pieces.{suspension}
use Rattle.plcs_code.specs.PlainInstr.{PlainInstr, place_of}
use Rattle.plcs_code.proofs.KeyOrder.{places_total}

-- a label of the template in the slot, with these parts
abbrev filled : ℕ → Template → List (Option PlainPhrase) → Label
filled slot template parts = record { slot = slot; kind = NodeKind.Filled template; parts = parts; elided = false; spare = 0 }

-- a label without parts, of a node of the kind in the slot
abbrev empty_label : ℕ → NodeKind → Label
empty_label slot kind = record { slot = slot; kind = kind; parts = []; elided = false; spare = 0 }

-- a node with nothing inside
abbrev leaf : Label → Forest → Forest
leaf label rest = Forest.cons label Forest.nil rest

-- a program of main with a hole for a declaration, and with this statement, and of this procedure
abbrev main_with : Forest → Forest → Forest
main_with statement procedure =
    Forest.cons (empty_label 0 NodeKind.Main) (leaf (empty_label 1 NodeKind.DeclarationHole) statement) procedure

-- a hole for a procedure
abbrev no_procedure : Forest
no_procedure = leaf (empty_label 3 NodeKind.ProcedureHole) Forest.nil

-- no marks, and no items of main
abbrev no_marks : MarkMap
no_marks = empty

abbrev no_items : ItemMap
no_items = from_entries ((0, []) ∷ [])

-- numbers as expressions
abbrev one : PlainExpr
one = PlainExpr.number (pos 1)

abbrev two : PlainExpr
two = PlainExpr.number (pos 2)

-- one expression as a list
abbrev single : PlainExpr → PlainExprs
single e = PlainExprs.cons e PlainExprs.nil

-- `1 + 2 * 3`, put on a new line
abbrev put_sum : Forest
put_sum =
    main_with
    (leaf
    (filled 2 Template.PutSkip
    (Some
    (PlainPhrase.expression_list
    (single (PlainExpr.binary InfixOp.Plus one (PlainExpr.binary InfixOp.Times two (PlainExpr.number (pos 3))))))
    ∷ []))
    Forest.nil)
    no_procedure

-- its instructions: the sum, and main's end
sum_is_put :
    (Gen no_marks no_items put_sum).instrs
    ≡ PlainInstr.place (place_at 2 0)
    ∷ PlainInstr.push_number (pos 1)
    ∷ PlainInstr.push_number (pos 2)
    ∷ PlainInstr.push_number (pos 3)
    ∷ PlainInstr.binary InfixOp.Times
    ∷ PlainInstr.binary InfixOp.Plus
    ∷ PlainInstr.put_skip 1
    ∷ PlainInstr.place (place_at 0 1)
    ∷ PlainInstr.leave
    ∷ []
sum_is_put = simp gets

-- the procedure p with the parameter a, a declared number, which puts `a + 1`
abbrev procedure_p : Forest
procedure_p =
    Forest.cons
    (filled 3 Template.ProcP (Some (PlainPhrase.procedure_name (codes "p")) ∷ (Some (PlainPhrase.name_list (codes "a" ∷ [])) ∷ [])))
    (leaf (filled 4 Template.Fixed (Some (PlainPhrase.declared_list (record { name = codes "a"; size = None } ∷ [])) ∷ []))
    (leaf
    (filled 5 Template.Put
    (Some
    (PlainPhrase.expression_list
    (single (PlainExpr.binary InfixOp.Plus (PlainExpr.variable (PlainVarRef.simple (codes "a"))) one)))
    ∷ []))
    Forest.nil))
    Forest.nil

-- a call of p with a number
abbrev call_p : Forest
call_p = main_with (leaf (filled 2 Template.Call (Some (PlainPhrase.call (codes "p") (single one)) ∷ [])) Forest.nil) procedure_p

-- p declares a
abbrev items_of_p : ItemMap
items_of_p = from_entries ((0, []) ∷ ((3, record { name = codes "a"; ty = ItemType.Fixed; size = 0 } ∷ []) ∷ []))

-- the call passes a dummy, and p makes its parameter first
call_is_laid :
    (Gen no_marks items_of_p call_p).instrs
    ≡ PlainInstr.place (place_at 2 0)
    ∷ PlainInstr.push_number (pos 1)
    ∷ PlainInstr.dummy
    ∷ PlainInstr.call (codes "p") 1
    ∷ PlainInstr.place (place_at 0 1)
    ∷ PlainInstr.leave
    ∷ PlainInstr.parameter (codes "a") ItemType.Fixed
    ∷ PlainInstr.place (place_at 5 0)
    ∷ PlainInstr.load (codes "a")
    ∷ PlainInstr.push_number (pos 1)
    ∷ PlainInstr.binary InfixOp.Plus
    ∷ PlainInstr.put 1
    ∷ PlainInstr.place (place_at 3 1)
    ∷ PlainInstr.leave
    ∷ []
call_is_laid = simp gets

-- p is entered at address 6
p_is_entered : headings_by_name no_marks items_of_p 0 call_p ≡ (codes "p", record { address = 6; slot = record { 0 = 3 } }) ∷ []
unfolding is_builtin_name
p_is_entered = simp gets

-- the parameter as it is shown
parameter_is_shown : instr_text (PlainInstr.parameter (codes "a") ItemType.Fixed) ≡ codes "Param a FIXED"
parameter_is_shown = refl

-- a While whose condition is true, around a PUT of this expression
abbrev while_with : PlainExpr → Forest
while_with e =
    main_with
    (Forest.cons (filled 2 Template.While (Some (PlainPhrase.condition (PlainExpr.bit true)) ∷ []))
    (leaf (filled 4 Template.Put (Some (PlainPhrase.expression_list (single e)) ∷ [])) Forest.nil)
    Forest.nil)
    no_procedure

-- before the PUT grows
while_before :
    (Gen no_marks no_items (while_with one)).instrs
    ≡ PlainInstr.place (place_at 2 0) ∷ PlainInstr.push_bit true ∷ PlainInstr.jump_false (pos 4)
    ∷ PlainInstr.place (place_at 4 0) ∷ PlainInstr.push_number (pos 1) ∷ PlainInstr.put 1
    ∷ PlainInstr.jump (negsuc 6) ∷ PlainInstr.place (place_at 0 1) ∷ PlainInstr.leave ∷ []
while_before = simp gets

-- and after it: both jumps are longer
while_after :
    (Gen no_marks no_items (while_with (PlainExpr.binary InfixOp.Plus one two))).instrs
    ≡ PlainInstr.place (place_at 2 0) ∷ PlainInstr.push_bit true ∷ PlainInstr.jump_false (pos 6)
    ∷ PlainInstr.place (place_at 4 0) ∷ PlainInstr.push_number (pos 1) ∷ PlainInstr.push_number (pos 2)
    ∷ PlainInstr.binary InfixOp.Plus ∷ PlainInstr.put 1
    ∷ PlainInstr.jump (negsuc 8) ∷ PlainInstr.place (place_at 0 1) ∷ PlainInstr.leave ∷ []
while_after = simp gets

-- an empty part comes before a marked one
empty_first : suspension no_marks 2 (None ∷ []) ≡ Some PlainInstr.suspend_placeholder
empty_first = refl

-- ---- where everything stands

-- an IF whose condition is true, around a PUT of 1, and else a PUT of 2
abbrev if_else : Forest
if_else =
    main_with
    (Forest.cons (filled 2 Template.IfElse (Some (PlainPhrase.condition (PlainExpr.bit true)) ∷ []))
    (leaf (filled 4 Template.Put (Some (PlainPhrase.expression_list (single one)) ∷ []))
    (leaf (filled 5 Template.Put (Some (PlainPhrase.expression_list (single two)) ∷ [])) Forest.nil))
    Forest.nil)
    no_procedure

-- the code of its second body begins behind the jump that ends the first one
second_body_spans : get (Gen no_marks no_items if_else).spans 5 ≡ Some (7, 3)
second_body_spans = simp gets

-- a GET of two variables
abbrev get_two : Forest
get_two =
    main_with
    (leaf
    (filled 2 Template.Get
    (Some (PlainPhrase.variable_list (PlainVarRef.simple (codes "a") ∷ (PlainVarRef.simple (codes "b") ∷ []))) ∷ []))
    Forest.nil)
    no_procedure

-- its second item is a step of its own
second_item_stands : get (Gen no_marks no_items get_two).addresses (place_of (place_at 2 1)) ≡ Some 2
second_item_stands = simp (gets, places_total)

-- a loop that counts from 1 to 2 by 1, around a PUT of 1
abbrev for_one : Forest
for_one =
    main_with
    (Forest.cons
    (filled 2 Template.For
    (Some (PlainPhrase.variable_name (codes "k"))
    ∷ (Some (PlainPhrase.expression one) ∷ (Some (PlainPhrase.expression two) ∷ (Some (PlainPhrase.expression one) ∷ [])))))
    (leaf (filled 4 Template.Put (Some (PlainPhrase.expression_list (single one)) ∷ [])) Forest.nil)
    Forest.nil)
    no_procedure

-- its next iteration stands behind its heading and its body
iteration_stands : get (Gen no_marks no_items for_one).addresses (place_of (place_at 2 1)) ≡ Some 8
iteration_stands = simp (gets, places_total)

-- an Until with this condition, around a PUT of 1
abbrev until_with : Option PlainPhrase → Forest
until_with condition =
    main_with
    (Forest.cons (filled 2 Template.Until (condition ∷ []))
    (leaf (filled 4 Template.Put (Some (PlainPhrase.expression_list (single one)) ∷ [])) Forest.nil)
    Forest.nil)
    no_procedure

-- it tests behind its body, and goes back to where that begins
until_is_laid :
    (Gen no_marks no_items (until_with (Some (PlainPhrase.condition (PlainExpr.bit true))))).instrs
    ≡ PlainInstr.place (place_at 4 0) ∷ PlainInstr.push_number (pos 1) ∷ PlainInstr.put 1
    ∷ PlainInstr.place (place_at 2 1) ∷ PlainInstr.push_bit true ∷ PlainInstr.jump_false (negsuc 5)
    ∷ PlainInstr.place (place_at 0 1) ∷ PlainInstr.leave ∷ []
until_is_laid = simp gets

-- without a condition a run stops in place of the test
until_is_stopped :
    (Gen no_marks no_items (until_with None)).instrs
    ≡ PlainInstr.place (place_at 4 0) ∷ PlainInstr.push_number (pos 1) ∷ PlainInstr.put 1
    ∷ PlainInstr.place (place_at 2 1) ∷ PlainInstr.suspend_placeholder
    ∷ PlainInstr.place (place_at 0 1) ∷ PlainInstr.leave ∷ []
until_is_stopped = simp gets

-- its start is that of its body, and its test is a step of its own
until_starts :
    get (Gen no_marks no_items (until_with (Some (PlainPhrase.condition (PlainExpr.bit true))))).addresses (place_of (place_at 2 0)) ≡ Some 0
until_starts = simp (gets, places_total)

test_stands :
    get (Gen no_marks no_items (until_with (Some (PlainPhrase.condition (PlainExpr.bit true))))).addresses (place_of (place_at 2 1)) ≡ Some 3
test_stands = simp (gets, places_total)

-- a call comes back behind its code
call_comes_back : get (Gen no_marks items_of_p call_p).addresses (place_of (place_at 2 1)) ≡ Some 4
call_comes_back = simp (gets, places_total)

-- two procedures of the name p
abbrev two_headings : Forest
two_headings =
    main_with (leaf (empty_label 2 NodeKind.StatementHole) Forest.nil)
    (leaf (filled 3 Template.Proc (Some (PlainPhrase.procedure_name (codes "p")) ∷ []))
    (leaf (filled 4 Template.Proc (Some (PlainPhrase.procedure_name (codes "p")) ∷ [])) Forest.nil))

-- the first one is entered
first_heading_counts : get (Gen no_marks no_items two_headings).headings (codes "p") ≡ Some record { address = 4; slot = record { 0 = 3 } }
unfolding is_builtin_name
first_heading_counts = simp gets
