-- What stands at the places of a program, and steps: where each goes on, what it changes, and why it stops.
use Rattle.std.specs.Prelude.{◌≡◌, refl, ℕ, ◌==◌, pos, neg_ℤ, Bool, true, false, ◌&&◌, List, [], ◌∷◌, ◌++◌, codes, replicate, Option, Some, None}
use Rattle.std.specs.Fmt.{digits}
use Rattle.plcs_base.specs.declared.declared.ItemType.{ItemType}
use Rattle.plcs_grammar.specs.declared.node_kind.NodeKind.{NodeKind}
use Rattle.plcs_grammar.specs.declared.operator.InfixOp.{InfixOp}
use Rattle.plcs_grammar.specs.declared.template.Template.{Template}
use Rattle.plcs_grammar.specs.Builtin.{is_builtin_name}
use Rattle.plcs_grammar.specs.PlainPhrase.{PlainExpr, PlainPhrase}
use Rattle.template_tree.specs.Programs.NewTree.{bare_label}
use Rattle.template_tree.specs.Positions.Place.{PlainPlace, place_at}
use Rattle.template_tree.specs.Programs.PlainTree.{Forest}
use Rattle.plcs_store.specs.declared.cell.Cell.{Cell}
use Rattle.plcs_store.specs.declared.fault_kind.FaultKind.{FaultKind}
use Rattle.plcs_store.specs.declared.frame.Frame.{Frame}
use Rattle.plcs_store.specs.declared.kept_loop.KeptLoop.{KeptLoop}
use Rattle.plcs_store.specs.declared.reason.Reason.{Reason}
use Rattle.plcs_store.specs.Act.{Act}
use Rattle.plcs_store.specs.CellAt.{Variables}
use Rattle.plcs_store.specs.Configuration.{PlainConfiguration}
use Rattle.plcs_store.specs.NewFrame.{First, new_frame}
use Rattle.plcs_store.specs.Spot.{Spot, spot_by}
use Rattle.plcs_store.specs.Step.{PlainStepAnswer, is_over, step_by}
use Rattle.plcs_store.specs.Resume.{resolved_place}
use Rattle.plcs_store.specs.Undone.{step_undone, undo_of}
use Rattle.plcs_store.proofs.Examples.Programs.{alone, filled, held, leaf, main_frame, nothing_marked, number, one_part, reference, scalar, stepped, stopped}
use Rattle.plcs_store.proofs.Examples.Row.{Rows}

-- ---- a program

abbrev x : PlainExpr
x = PlainExpr.variable (reference (codes "x"))

abbrev yes_bit : PlainExpr
yes_bit = PlainExpr.bit true

abbrev x_is_one : PlainExpr
x_is_one = PlainExpr.binary InfixOp.Equal x (number 1)

-- x and y declared; x set; an IF over a group, an IFELSE over two PUTs, a DO WHILE over a hole, a For over a comment of
-- a GET, a CALL of q, an empty PUT, a RETURN, and an Until over a group of a PUT and over a hole
abbrev main_inner : Forest
main_inner =
    leaf (filled 1 Template.Fixed (one_part (PlainPhrase.declared_list (record { name = codes "x"; size = None } ∷ (record { name = codes "y"; size = None } ∷ [])))))
    (leaf (record (bare_label 2 NodeKind.Assign) { parts = one_part (PlainPhrase.assignment (reference (codes "x")) (number 1)) })
    (Forest.cons (filled 3 Template.If (one_part (PlainPhrase.condition yes_bit)))
    (Forest.cons (filled 4 Template.Group []) (leaf (filled 5 Template.Put (one_part (PlainPhrase.expression_list (alone x)))) Forest.nil) Forest.nil)
    (Forest.cons (filled 6 Template.IfElse (one_part (PlainPhrase.condition yes_bit)))
    (leaf (filled 7 Template.Put (one_part (PlainPhrase.expression_list (alone x))))
    (leaf (filled 8 Template.PutSkip (one_part (PlainPhrase.expression_list (alone x)))) Forest.nil))
    (Forest.cons (filled 9 Template.While (one_part (PlainPhrase.condition yes_bit))) (leaf (bare_label 10 NodeKind.StatementHole) Forest.nil)
    (Forest.cons
    (filled 11 Template.For
    (Some (PlainPhrase.variable_name (codes "x")) ∷ (Some (PlainPhrase.expression (number 1))
    ∷ (Some (PlainPhrase.expression (number 3)) ∷ (Some (PlainPhrase.expression (number 2)) ∷ [])))))
    (Forest.cons (filled 12 Template.Comment []) (leaf (filled 13 Template.Get (one_part (PlainPhrase.variable_list (reference (codes "x") ∷ (reference (codes "y") ∷ []))))) Forest.nil) Forest.nil)
    (leaf (filled 14 Template.Call (one_part (PlainPhrase.call (codes "q") (alone x))))
    (leaf (filled 15 Template.Put (None ∷ []))
    (leaf (filled 16 Template.Return [])
    (Forest.cons (filled 17 Template.Until (one_part (PlainPhrase.condition x_is_one)))
    (Forest.cons (filled 18 Template.Group []) (leaf (filled 19 Template.Put (one_part (PlainPhrase.expression_list (alone x)))) Forest.nil)
    (leaf (bare_label 23 NodeKind.StatementHole) Forest.nil))
    Forest.nil)))))))))

abbrev sample : Forest
sample =
    Forest.cons (bare_label 0 NodeKind.Main) main_inner
    (Forest.cons (filled 20 Template.ProcP (Some (PlainPhrase.procedure_name (codes "q")) ∷ (Some (PlainPhrase.name_list (codes "p" ∷ [])) ∷ [])))
    (leaf (filled 21 Template.Fixed (one_part (PlainPhrase.declared_list (record { name = codes "p"; size = None } ∷ (record { name = codes "z"; size = Some 2 } ∷ [])))))
    (leaf (filled 22 Template.Return []) Forest.nil))
    Forest.nil)

abbrev marked_at : ℕ → ℕ → ℕ → Bool
marked_at one slot part = (slot == one) && (part == 0)

-- ---- what stands at its places

abbrev spot : ℕ → ℕ → Option Spot
spot slot point = spot_by nothing_marked sample (place_at slot point)

spots : Rows
    ((spot 2 0, Some (Spot.assigns (reference (codes "x")) (number 1) (place_at 3 0)))
    ∷ (spot 3 0, Some (Spot.tests yes_bit (place_at 5 0) (place_at 6 0)))
    ∷ (spot 4 0, None)
    ∷ (spot 5 0, Some (Spot.writes false (alone x) (place_at 6 0)))
    ∷ (spot 6 0, Some (Spot.tests yes_bit (place_at 7 0) (place_at 8 0)))
    ∷ (spot 7 0, Some (Spot.writes false (alone x) (place_at 9 0)))
    ∷ (spot 8 0, Some (Spot.writes true (alone x) (place_at 9 0)))
    ∷ (spot 9 0, Some (Spot.tests yes_bit (place_at 10 0) (place_at 11 0)))
    ∷ (spot 10 0, Some (Spot.halts Reason.Placeholder))
    ∷ (spot 11 0, Some (Spot.begins 11 (codes "x") (number 1) (number 3) (number 2) (place_at 13 0) (place_at 14 0)))
    ∷ (spot 11 1, Some (Spot.iterates 11 (codes "x") (place_at 13 0) (place_at 14 0)))
    ∷ (spot 11 2, None)
    ∷ (spot 13 0, Some (Spot.reads (reference (codes "x")) (place_at 13 1)))
    ∷ (spot 13 1, Some (Spot.reads (reference (codes "y")) (place_at 11 1)))
    ∷ (spot 13 2, None)
    ∷ (spot 14 1, Some (Spot.waits (place_at 15 0)))
    ∷ (spot 15 0, Some (Spot.halts Reason.Placeholder))
    ∷ (spot 16 0, Some Spot.leaves)
    ∷ (spot 17 0, None)
    ∷ (spot 17 1, Some (Spot.tests x_is_one (place_at 0 1) (place_at 19 0)))
    ∷ (spot 17 2, None)
    ∷ (spot 19 0, Some (Spot.writes false (alone x) (place_at 23 0)))
    ∷ (spot 0 0, None)
    ∷ (spot 0 1, Some Spot.leaves)
    ∷ (spot 20 1, Some Spot.leaves)
    ∷ (spot 22 0, Some Spot.leaves)
    ∷ (spot 1 0, None)
    ∷ (spot 99 0, None) ∷ [])
spots = refl

-- a marked phrase stops the run, a marked condition of an Until behind what stands inside; the next iteration of a
-- For needs its variable alone; an empty part comes before a mark
marked_spots : Rows
    ((spot_by (marked_at 2) sample (place_at 2 0), Some (Spot.halts Reason.Marked))
    ∷ (spot_by (marked_at 9) sample (place_at 9 0), Some (Spot.halts Reason.Marked))
    ∷ (spot_by (marked_at 13) sample (place_at 13 0), Some (Spot.halts Reason.Marked))
    ∷ (spot_by (marked_at 13) sample (place_at 13 1), None)
    ∷ (spot_by (marked_at 11) sample (place_at 11 1), Some (Spot.halts Reason.Marked))
    ∷ (spot_by (λ slot part. part == 1) sample (place_at 11 0), Some (Spot.halts Reason.Marked))
    ∷ (spot_by (λ slot part. part == 1) sample (place_at 11 1), spot 11 1)
    ∷ (spot_by (marked_at 17) sample (place_at 17 0), None)
    ∷ (spot_by (marked_at 17) sample (place_at 17 1), Some (Spot.halts Reason.Marked))
    ∷ (spot_by (marked_at 15) sample (place_at 15 0), Some (Spot.halts Reason.Placeholder)) ∷ [])
marked_spots = refl

-- ---- steps

abbrev main_with : Cell → Cell → Variables
main_with one other = scalar (codes "x") one ∷ (scalar (codes "y") other ∷ [])

abbrev main_at : ℕ → ℕ → Cell → Cell → List KeptLoop → PlainConfiguration
main_at slot point one other loops =
    record { frames = main_frame (place_at slot point) (main_with one other) loops ∷ []; taken = 0; output = [] }

abbrev loop : ℕ → ℕ → KeptLoop
loop limit step = record { slot = record { 0 = 11 }; limit = pos limit; step = pos step }

abbrev go : List ℕ → PlainConfiguration → Option PlainStepAnswer
go input c = step_by (spot_by nothing_marked sample) input c

steps : Rows
    ((go [] (main_at 2 0 Cell.Unset Cell.Unset []), stepped (main_at 3 0 (held 1) Cell.Unset []))
    ∷ (go [] (main_at 3 0 Cell.Unset Cell.Unset []), stepped (main_at 5 0 Cell.Unset Cell.Unset []))
    ∷ (go [] (main_at 5 0 Cell.Unset Cell.Unset []), stopped (Reason.Fault FaultKind.Uninitialized))
    ∷ (go [] (main_at 5 0 (held 7) Cell.Unset []), stepped (record (main_at 6 0 (held 7) Cell.Unset []) { output = codes "7" }))
    ∷ (go [] (main_at 10 0 Cell.Unset Cell.Unset []), stopped Reason.Placeholder)
    ∷ (go [] (main_at 11 0 Cell.Unset Cell.Unset []), stepped (main_at 13 0 (held 1) Cell.Unset (loop 3 2 ∷ [])))
    ∷ (go [] (main_at 11 1 (held 1) Cell.Unset (loop 3 2 ∷ [])), stepped (main_at 13 0 (held 3) Cell.Unset (loop 3 2 ∷ [])))
    ∷ (go [] (main_at 11 1 (held 3) Cell.Unset (loop 3 2 ∷ [])), stepped (main_at 14 0 (held 5) Cell.Unset []))
    ∷ (go [] (main_at 11 1 (held 2147483647) Cell.Unset (loop 3 2 ∷ [])), stopped (Reason.Fault FaultKind.FixedOverflow))
    ∷ (go [] (main_at 11 1 Cell.Unset Cell.Unset (loop 3 2 ∷ [])), stopped (Reason.Fault FaultKind.Uninitialized))
    ∷ (go (codes " 8, 9") (main_at 13 0 Cell.Unset Cell.Unset (loop 3 2 ∷ [])), stepped (record (main_at 13 1 (held 8) Cell.Unset (loop 3 2 ∷ [])) { taken = 4 }))
    ∷ (go (codes "z") (main_at 13 0 Cell.Unset Cell.Unset (loop 3 2 ∷ [])), stopped (Reason.Fault FaultKind.Conversion))
    ∷ (go (codes "  ") (main_at 13 0 Cell.Unset Cell.Unset (loop 3 2 ∷ [])), stopped Reason.InputWanted)
    ∷ (go [] (main_at 17 1 (held 0) Cell.Unset []), stepped (main_at 19 0 (held 0) Cell.Unset []))
    ∷ (go [] (main_at 17 1 (held 1) Cell.Unset []), stepped (main_at 0 1 (held 1) Cell.Unset []))
    ∷ (go [] (main_at 17 1 Cell.Unset Cell.Unset []), stopped (Reason.Fault FaultKind.Uninitialized))
    ∷ (go [] (main_at 0 1 Cell.Unset Cell.Unset []), Some PlainStepAnswer.ended)
    ∷ (go [] (main_at 16 0 Cell.Unset Cell.Unset []), Some PlainStepAnswer.ended) ∷ [])
unfolding digits
steps = refl

-- a loop by a step of 0 or more is over past its limit, and one by a step below 0 before it
loops_over : Rows
    ((is_over (pos 3) (pos 1) (pos 3), false)
    ∷ (is_over (pos 3) (pos 1) (pos 4), true)
    ∷ (is_over (pos 3) (pos 0) (pos 3), false)
    ∷ (is_over (pos 3) (pos 0) (pos 4), true)
    ∷ (is_over (pos 3) (neg_ℤ (pos 1)) (pos 3), false)
    ∷ (is_over (pos 3) (neg_ℤ (pos 1)) (pos 2), true)
    ∷ (is_over (neg_ℤ (pos 2147483648)) (neg_ℤ (pos 1)) (neg_ℤ (pos 2147483648)), false) ∷ [])
loops_over = refl

-- ---- calls

-- the frame of q, whose p stands for x of main
abbrev called : ℕ → ℕ → Frame
called slot point =
    new_frame 20 (place_at slot point)
    (scalar (codes "p") (Cell.Ref record { frame = 0; name = codes "x"; element = 0 })
    ∷ ((codes "z", record { ty = ItemType.Fixed; size = 2; cells = Cell.Unset ∷ (Cell.Unset ∷ []) }) ∷ []))

-- main waits for q
abbrev within : ℕ → ℕ → PlainConfiguration
within slot point =
    record { frames = main_frame (place_at 14 1) (main_with (held 7) Cell.Unset) [] ∷ (called slot point ∷ []); taken = 0; output = [] }

-- a call passes its variable by reference, and makes the other cells of the procedure
call_enters : go [] (main_at 14 0 (held 7) Cell.Unset []) ≡ stepped (within 22 0)
unfolding is_builtin_name
call_enters = refl

-- a return goes on behind the call
return_leaves : go [] (within 22 0) ≡ stepped (main_at 15 0 (held 7) Cell.Unset [])
return_leaves = refl

end_leaves : go [] (within 20 1) ≡ stepped (main_at 15 0 (held 7) Cell.Unset [])
end_leaves = refl

-- no frame more than 64
call_depth :
    go [] (record (main_at 14 0 (held 7) Cell.Unset []) { frames = replicate 63 (called 14 1) ++ (main_frame (place_at 14 0) (main_with (held 7) Cell.Unset) [] ∷ []) })
    ≡ stopped (Reason.Fault FaultKind.CallDepth)
unfolding is_builtin_name
call_depth = refl

-- ---- a new run

first_run : First sample ≡ main_at 2 0 Cell.Unset Cell.Unset []
unfolding is_builtin_name
first_run = refl

-- ---- steps that are taken back

call_taken_back :
    step_undone (undo_of (Act.call (called 22 0)) (main_at 14 0 (held 7) Cell.Unset [])) (within 22 0)
    ≡ main_at 14 0 (held 7) Cell.Unset []
call_taken_back = refl

return_taken_back : step_undone (undo_of Act.leave (within 22 0)) (main_at 15 0 (held 7) Cell.Unset []) ≡ within 22 0
return_taken_back = refl

-- ---- where a resumed run goes on: at the first statement in a group, a comment or an Until, and else where it stands

abbrev resumed_at : ℕ → ℕ → PlainPlace
resumed_at slot point = resolved_place sample (place_at slot point)

resumed_places : Rows
    ((resumed_at 4 0, place_at 5 0) ∷ ((resumed_at 12 0, place_at 13 0) ∷ ((resumed_at 2 0, place_at 2 0)
    ∷ ((resumed_at 11 1, place_at 11 1) ∷ ((resumed_at 17 0, place_at 19 0) ∷ ((resumed_at 17 1, place_at 17 1)
    ∷ ((resumed_at 99 0, place_at 99 0) ∷ [])))))))
resumed_places = refl
