-- Runs of the code of programs, from their start to their end, with how many instructions each step fetches.
use Rattle.std.specs.Prelude.{◌≡◌, ℕ, pos, Bool, true, false, List, [], ◌∷◌, codes, Option, Some, None}
use Rattle.std.specs.Fmt.{digits}
use Rattle.std.specs.FinMap.{empty, from_entries, gets}
use Rattle.plcs_base.specs.Mark.{MarkMap}
use Rattle.plcs_base.specs.Scope.{ItemMap}
use Rattle.plcs_base.specs.declared.declared.ItemType.{ItemType}
use Rattle.plcs_grammar.specs.declared.node_kind.NodeKind.{NodeKind}
use Rattle.plcs_grammar.specs.declared.operator.InfixOp.{InfixOp}
use Rattle.plcs_grammar.specs.declared.template.Template.{Template}
use Rattle.plcs_grammar.specs.Builtin.{is_builtin_name}
use Rattle.plcs_grammar.specs.PlainPhrase.{PlainExpr, PlainExprs, PlainPhrase, PlainVarRef}
use Rattle.template_tree.specs.Positions.Place.{place_at}
use Rattle.template_tree.specs.Programs.PlainTree.{Forest, Label}
use Rattle.plcs_code.specs.Gen.{Gen, PlainCode}
use Rattle.plcs_store.specs.Configuration.{PlainConfiguration}
use Rattle.plcs_store.specs.NewFrame.{new_frame}
use Rattle.plcs_machine.specs.Enter.{Enter}
use Rattle.plcs_machine.specs.Exec.{Exec}
use Rattle.plcs_machine.proofs.Examples.Row.{ended, holding, main_with, number_in, places_total, stepped, with_frames}

-- ---- programs

-- a label of the template in the slot, with these parts
abbrev filled : ℕ → Template → List (Option PlainPhrase) → Label
filled slot template parts = record { slot = slot; kind = NodeKind.Filled template; parts = parts; elided = false; spare = 0 }

-- a label without parts, of a node of the kind in the slot
abbrev empty_label : ℕ → NodeKind → Label
empty_label slot kind = record { slot = slot; kind = kind; parts = []; elided = false; spare = 0 }

-- a node with nothing inside
abbrev leaf : Label → Forest → Forest
leaf label rest = Forest.cons label Forest.nil rest

-- a program of main with a hole for a declaration, and with this statement, and of this procedure
abbrev main_of : Forest → Forest → Forest
main_of statement procedure =
    Forest.cons (empty_label 0 NodeKind.Main) (leaf (empty_label 1 NodeKind.DeclarationHole) statement) procedure

abbrev no_marks : MarkMap
no_marks = empty

abbrev number : ℕ → PlainExpr
number n = PlainExpr.number (pos n)

-- one expression as a list
abbrev single : PlainExpr → PlainExprs
single e = PlainExprs.cons e PlainExprs.nil

-- ---- `1 + 2 * 3`, put on a new line

abbrev put_sum : Forest
put_sum =
    main_of
    (leaf
    (filled 2 Template.PutSkip
    (Some
    (PlainPhrase.expression_list
    (single (PlainExpr.binary InfixOp.Plus (number 1) (PlainExpr.binary InfixOp.Times (number 2) (number 3)))))
    ∷ []))
    Forest.nil)
    (leaf (empty_label 3 NodeKind.ProcedureHole) Forest.nil)

abbrev no_items : ItemMap
no_items = from_entries ((0, []) ∷ [])

abbrev sum_code : PlainCode
sum_code = Gen no_marks no_items put_sum

abbrev sum_first : PlainConfiguration
sum_first = main_with (place_at 2 0) []

abbrev sum_last : PlainConfiguration
sum_last = record (main_with (place_at 0 1) []) { output = codes "7" }

sum_begins : Enter sum_code ≡ Some record { result = sum_first; fetches = 1 }
sum_begins = simp gets

sum_steps : Exec sum_code [] sum_first ≡ stepped sum_last 7
unfolding digits
sum_steps = simp (gets, places_total)

sum_ends : Exec sum_code [] sum_last ≡ ended 1
sum_ends = simp (gets, places_total)

-- ---- 1 is put until a condition holds, which is a bit

abbrev put_until : Bool → Forest
put_until b =
    main_of
    (Forest.cons (filled 2 Template.Until (Some (PlainPhrase.condition (PlainExpr.bit b)) ∷ []))
    (leaf (filled 3 Template.Put (Some (PlainPhrase.expression_list (single (number 1))) ∷ [])) Forest.nil)
    Forest.nil)
    (leaf (empty_label 4 NodeKind.ProcedureHole) Forest.nil)

abbrev until_code : Bool → PlainCode
until_code b = Gen no_marks no_items (put_until b)

-- before the PUT inside, and before the test behind it
abbrev until_first : PlainConfiguration
until_first = main_with (place_at 3 0) []

abbrev until_test : PlainConfiguration
until_test = record (main_with (place_at 2 1) []) { output = codes "1" }

until_begins : Enter (until_code true) ≡ Some record { result = until_first; fetches = 1 }
until_begins = simp gets

until_puts : Exec (until_code true) [] until_first ≡ stepped until_test 3
unfolding digits
until_puts = simp (gets, places_total)

-- where the condition holds, the run goes on behind the loop
until_goes_on : Exec (until_code true) [] until_test ≡ stepped (record (main_with (place_at 0 1) []) { output = codes "1" }) 3
until_goes_on = simp (gets, places_total)

-- and where it doesn't, at the first of what stands inside
until_comes_back : Exec (until_code false) [] until_test ≡ stepped (record until_first { output = codes "1" }) 3
until_comes_back = simp (gets, places_total)

-- ---- a call of p with the number 1, which puts `a + 1` of its parameter a

abbrev procedure_p : Forest
procedure_p =
    Forest.cons
    (filled 3 Template.ProcP (Some (PlainPhrase.procedure_name (codes "p")) ∷ (Some (PlainPhrase.name_list (codes "a" ∷ [])) ∷ [])))
    (leaf (filled 4 Template.Fixed (Some (PlainPhrase.declared_list (record { name = codes "a"; size = None } ∷ [])) ∷ []))
    (leaf
    (filled 5 Template.Put
    (Some
    (PlainPhrase.expression_list
    (single (PlainExpr.binary InfixOp.Plus (PlainExpr.variable (PlainVarRef.simple (codes "a"))) (number 1))))
    ∷ []))
    Forest.nil))
    Forest.nil

abbrev call_p : Forest
call_p = main_of (leaf (filled 2 Template.Call (Some (PlainPhrase.call (codes "p") (single (number 1))) ∷ [])) Forest.nil) procedure_p

abbrev items_of_p : ItemMap
items_of_p = from_entries ((0, []) ∷ ((3, record { name = codes "a"; ty = ItemType.Fixed; size = 0 } ∷ []) ∷ []))

abbrev call_code : PlainCode
call_code = Gen no_marks items_of_p call_p

abbrev call_first : PlainConfiguration
call_first = main_with (place_at 2 0) []

-- in p, before and behind its PUT
abbrev in_p : ℕ → ℕ → PlainConfiguration
in_p slot point =
    with_frames (new_frame 0 (place_at 2 1) [] ∷ (new_frame 3 (place_at slot point) (number_in (codes "a") (holding 1) ∷ []) ∷ []))

abbrev call_last : PlainConfiguration
call_last = record (main_with (place_at 0 1) []) { output = codes "2" }

call_begins : Enter call_code ≡ Some record { result = call_first; fetches = 1 }
call_begins = simp gets

call_enters : Exec call_code [] call_first ≡ stepped (in_p 5 0) 5
unfolding is_builtin_name
call_enters = simp (gets, places_total)

call_puts : Exec call_code [] (in_p 5 0) ≡ stepped (record (in_p 3 1) { output = codes "2" }) 5
unfolding digits
call_puts = simp (gets, places_total)

call_leaves : Exec call_code [] (record (in_p 3 1) { output = codes "2" }) ≡ stepped call_last 2
call_leaves = simp (gets, places_total)

call_ends : Exec call_code [] call_last ≡ ended 1
call_ends = simp (gets, places_total)
