-- Variables read and set in frames, directly and through references, and arguments of calls.
use Rattle.std.specs.Prelude.{refl, ℕ, pos, neg_ℤ, List, [], ◌∷◌, false, codes, Some}
use Rattle.plcs_base.specs.declared.declared.ItemType.{ItemType}
use Rattle.plcs_base.specs.declared.value.Value.{Value}
use Rattle.plcs_grammar.specs.declared.operator.InfixOp.{InfixOp}
use Rattle.plcs_grammar.specs.PlainPhrase.{PlainExpr, PlainVarRef}
use Rattle.template_tree.specs.Positions.Place.{place_at}
use Rattle.plcs_store.specs.declared.argument.Argument.{Argument}
use Rattle.plcs_store.specs.declared.cell.Cell.{Cell}
use Rattle.plcs_store.specs.declared.cell.Location.{Location}
use Rattle.plcs_store.specs.declared.fault_kind.FaultKind.{FaultKind}
use Rattle.plcs_store.specs.declared.frame.Frame.{Frame}
use Rattle.plcs_store.specs.declared.variable.Variable.{Variable}
use Rattle.plcs_store.specs.CellAt.{Variables, cell_at}
use Rattle.plcs_store.specs.ExpressionValue.{argument_value, expression_value}
use Rattle.plcs_store.specs.NewFrame.{new_frame}
use Rattle.plcs_store.specs.Outcome.{Outcome, faults}
use Rattle.plcs_store.specs.Step.{assignment_act}
use Rattle.plcs_store.specs.Act.{Act, frames_after}
use Rattle.plcs_store.proofs.Examples.Row.{Rows, fault, num, ok, text}

-- a variable of the type with these cells; the size of a scalar is 0
abbrev variable : List ℕ → ItemType → ℕ → List Cell → List ℕ × Variable
variable name ty size cells = (name, record { ty = ty; size = size; cells = cells })

abbrev held : Value → Cell
held value = Cell.Held value

-- a cell of main, and one of the frame above it
abbrev in_frame : ℕ → List ℕ → ℕ → Location
in_frame frame name element = record { frame = frame; name = name; element = element }

-- in main: x is 7, y isn't set, s is a text of at most 3 bytes, a has three cells, of which the second is 5
abbrev main_variables : Variables
main_variables =
    variable (codes "x") ItemType.Fixed 0 (held (num 7) ∷ [])
    ∷ (variable (codes "y") ItemType.Fixed 0 (Cell.Unset ∷ [])
    ∷ (variable (codes "s") (ItemType.Text 3) 0 (held (text (codes "abc")) ∷ [])
    ∷ (variable (codes "a") ItemType.Fixed 3 (Cell.Unset ∷ (held (num 5) ∷ (Cell.Unset ∷ []))) ∷ [])))

-- in a procedure that it called: r stands for x, t for s, e for the third cell of a, l is a text of at most 9 bytes
abbrev own_variables : Variables
own_variables =
    variable (codes "r") ItemType.Fixed 0 (Cell.Ref (in_frame 0 (codes "x") 0) ∷ [])
    ∷ (variable (codes "t") (ItemType.Text 9) 0 (Cell.Ref (in_frame 0 (codes "s") 0) ∷ [])
    ∷ (variable (codes "e") ItemType.Fixed 0 (Cell.Ref (in_frame 0 (codes "a") 2) ∷ [])
    ∷ (variable (codes "l") (ItemType.Text 9) 0 (held (text (codes "long")) ∷ []) ∷ [])))

abbrev main_alone : List Frame
main_alone = new_frame 0 (place_at 2 0) main_variables ∷ []

abbrev both : List Frame
both = new_frame 0 (place_at 2 1) main_variables ∷ (new_frame 9 (place_at 11 0) own_variables ∷ [])

abbrev plain : List ℕ → PlainExpr
plain name = PlainExpr.variable (PlainVarRef.simple name)

abbrev number : ℕ → PlainExpr
number n = PlainExpr.number (pos n)

abbrev below : ℕ → PlainExpr
below n = PlainExpr.number (neg_ℤ (pos n))

abbrev of_array : List ℕ → PlainExpr → PlainExpr
of_array name index = PlainExpr.variable (PlainVarRef.subscripted name index)

abbrev over : InfixOp → PlainExpr → PlainExpr → PlainExpr
over op a b = PlainExpr.binary op a b

values_read : Rows
    ((expression_value main_alone (plain (codes "x")), ok (num 7))
    ∷ (expression_value main_alone (plain (codes "y")), fault FaultKind.Uninitialized)
    ∷ (expression_value main_alone (plain (codes "s")), ok (text (codes "abc")))
    ∷ (expression_value main_alone (plain (codes "z")), Outcome.undefined)
    ∷ (expression_value main_alone (of_array (codes "a") (number 2)), ok (num 5))
    ∷ (expression_value main_alone (of_array (codes "a") (number 1)), fault FaultKind.Uninitialized)
    ∷ (expression_value main_alone (of_array (codes "a") (number 0)), fault FaultKind.SubscriptRange)
    ∷ (expression_value main_alone (of_array (codes "a") (number 4)), fault FaultKind.SubscriptRange)
    ∷ (expression_value main_alone (of_array (codes "a") (below 1)), fault FaultKind.SubscriptRange)
    ∷ (expression_value main_alone (of_array (codes "a") (number 2147483647)), fault FaultKind.SubscriptRange)
    ∷ (expression_value main_alone (of_array (codes "a") (plain (codes "y"))), fault FaultKind.Uninitialized)
    ∷ (expression_value main_alone (of_array (codes "a") (plain (codes "s"))), Outcome.undefined)
    ∷ (expression_value both (plain (codes "r")), ok (num 7))
    ∷ (expression_value both (plain (codes "t")), ok (text (codes "abc")))
    ∷ (expression_value both (plain (codes "e")), fault FaultKind.Uninitialized)
    ∷ (expression_value both (plain (codes "l")), ok (text (codes "long")))
    ∷ (expression_value both (plain (codes "x")), Outcome.undefined) ∷ [])
values_read = refl

first_faults : Rows
    ((expression_value main_alone (over InfixOp.Plus (over InfixOp.Divide (number 1) (number 0)) (plain (codes "y"))), fault FaultKind.ZeroDivide)
    ∷ (expression_value main_alone (over InfixOp.Plus (plain (codes "y")) (over InfixOp.Divide (number 1) (number 0))), fault FaultKind.Uninitialized)
    ∷ (expression_value main_alone (over InfixOp.And (PlainExpr.bit false) (over InfixOp.Equal (plain (codes "y")) (number 1))), fault FaultKind.Uninitialized)
    ∷ (expression_value main_alone (over InfixOp.Times (PlainExpr.parenthesized (over InfixOp.Plus (plain (codes "x")) (number 1))) (number 2)), ok (num 16)) ∷ [])
first_faults = refl

assignments : Rows
    ((assignment_act main_alone (PlainVarRef.simple (codes "y")) (number 3), Outcome.gives (Act.store (in_frame 0 (codes "y") 0) (num 3)))
    ∷ (assignment_act main_alone (PlainVarRef.simple (codes "s")) (PlainExpr.text (codes "abcdef")), Outcome.gives (Act.store (in_frame 0 (codes "s") 0) (text (codes "abc"))))
    ∷ (assignment_act main_alone (PlainVarRef.simple (codes "s")) (PlainExpr.text (codes "a")), Outcome.gives (Act.store (in_frame 0 (codes "s") 0) (text (codes "a"))))
    ∷ (assignment_act main_alone (PlainVarRef.subscripted (codes "a") (number 3)) (number 1), Outcome.gives (Act.store (in_frame 0 (codes "a") 2) (num 1)))
    ∷ (assignment_act main_alone (PlainVarRef.subscripted (codes "a") (number 4)) (number 1), faults FaultKind.SubscriptRange)
    ∷ (assignment_act main_alone (PlainVarRef.subscripted (codes "a") (number 4)) (plain (codes "y")), faults FaultKind.Uninitialized)
    ∷ (assignment_act main_alone (PlainVarRef.subscripted (codes "a") (plain (codes "y"))) (over InfixOp.Divide (number 1) (number 0)), faults FaultKind.Uninitialized)
    ∷ (assignment_act main_alone (PlainVarRef.simple (codes "x")) (PlainExpr.text (codes "a")), Outcome.undefined)
    ∷ (assignment_act both (PlainVarRef.simple (codes "r")) (number 3), Outcome.gives (Act.store (in_frame 0 (codes "x") 0) (num 3)))
    ∷ (assignment_act both (PlainVarRef.simple (codes "t")) (PlainExpr.text (codes "abcdef")), Outcome.gives (Act.store (in_frame 0 (codes "s") 0) (text (codes "abc"))))
    ∷ (assignment_act both (PlainVarRef.simple (codes "l")) (PlainExpr.text (codes "abcdefghijk")), Outcome.gives (Act.store (in_frame 1 (codes "l") 0) (text (codes "abcdefghi"))))
    ∷ (assignment_act both (PlainVarRef.simple (codes "e")) (number 4), Outcome.gives (Act.store (in_frame 0 (codes "a") 2) (num 4))) ∷ [])
assignments = refl

cells_after : Rows
    ((cell_at (frames_after (Act.store (in_frame 0 (codes "a") 2) (num 4)) (place_at 12 0) both) (in_frame 0 (codes "a") 2), Some (held (num 4)))
    ∷ (cell_at (frames_after (Act.store (in_frame 0 (codes "a") 2) (num 4)) (place_at 12 0) both) (in_frame 0 (codes "a") 1), Some (held (num 5)))
    ∷ (cell_at (frames_after (Act.store (in_frame 0 (codes "a") 2) (num 4)) (place_at 12 0) both) (in_frame 0 (codes "x") 0), Some (held (num 7)))
    ∷ (cell_at (frames_after (Act.store (in_frame 0 (codes "a") 2) (num 4)) (place_at 12 0) both) (in_frame 1 (codes "e") 0), Some (Cell.Ref (in_frame 0 (codes "a") 2))) ∷ [])
cells_after = refl

arguments : Rows
    ((argument_value main_alone (plain (codes "y")), Outcome.gives (Argument.Reference (in_frame 0 (codes "y") 0)))
    ∷ (argument_value main_alone (of_array (codes "a") (number 3)), Outcome.gives (Argument.Reference (in_frame 0 (codes "a") 2)))
    ∷ (argument_value main_alone (of_array (codes "a") (number 4)), faults FaultKind.SubscriptRange)
    ∷ (argument_value main_alone (PlainExpr.parenthesized (plain (codes "y"))), faults FaultKind.Uninitialized)
    ∷ (argument_value main_alone (PlainExpr.parenthesized (plain (codes "x"))), Outcome.gives (Argument.Dummy (num 7)))
    ∷ (argument_value both (plain (codes "r")), Outcome.gives (Argument.Reference (in_frame 0 (codes "x") 0)))
    ∷ (argument_value both (plain (codes "l")), Outcome.gives (Argument.Reference (in_frame 1 (codes "l") 0))) ∷ [])
arguments = refl
