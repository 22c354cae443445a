-- Steps that aren't defined, since an instruction lacks what it needs, and those that are just within it.
use Rattle.std.specs.Prelude.{◌≡◌, refl, ℕ, ◌+◌, pos, negsuc, true, List, [], ◌∷◌, ◌++◌, codes, length, replicate, Option, Some, None}
use Rattle.std.specs.FinMap.{from_entries, gets}
use Rattle.plcs_base.specs.declared.declared.ItemType.{ItemType}
use Rattle.plcs_grammar.specs.declared.operator.InfixOp.{InfixOp}
use Rattle.plcs_grammar.specs.declared.operator.PrefixOp.{PrefixOp}
use Rattle.plcs_code.specs.Gen.{PlainCode}
use Rattle.plcs_code.specs.PlainInstr.{PlainInstr}
use Rattle.plcs_store.specs.declared.cell.Cell.{Cell}
use Rattle.plcs_store.specs.declared.cell.Location.{Location}
use Rattle.plcs_store.specs.declared.frame.Frame.{Frame}
use Rattle.plcs_store.specs.CellAt.{Variables}
use Rattle.plcs_store.specs.NewFrame.{new_frame}
use Rattle.template_tree.specs.Positions.Place.{place_at}
use Rattle.plcs_machine.specs.Enter.{Enter}
use Rattle.plcs_machine.specs.Exec.{Exec, FetchedAnswer, run_behind}
use Rattle.plcs_machine.proofs.Examples.Row.{Rows, at, code_of, holding, main_ends, main_with, number_in, places_total, push, stepped, stepping_by, with_frames}

-- a step of main without variables, by these instructions and then the end of main
abbrev main_by : List PlainInstr → Option FetchedAnswer
main_by instrs = run_behind (stepping_by (instrs ++ main_ends)) [] (main_with (place_at 2 0) []) 0

-- it comes to the end of main
abbrev to_end : ℕ → Option FetchedAnswer
to_end n = stepped (main_with (place_at 0 1) []) n

-- a place has to come, and only addresses of the code are reached
addresses : Rows
    ((main_by [], to_end 1)
    ∷ ((main_by (PlainInstr.jump (pos 0) ∷ []), to_end 2)
    ∷ ((main_by (PlainInstr.jump (negsuc 0) ∷ []), None)
    ∷ ((main_by (PlainInstr.jump (negsuc 8) ∷ []), None)
    ∷ ((main_by (PlainInstr.jump (pos 9) ∷ []), None)
    ∷ ((run_behind (stepping_by (push 1 ∷ [])) [] (main_with (place_at 2 0) []) 0, None) ∷ []))))))
addresses = refl

-- the operands have to be there, and of their kinds
operands : Rows
    ((main_by (PlainInstr.put 1 ∷ []), None)
    ∷ ((main_by (push 1 ∷ (PlainInstr.binary InfixOp.Plus ∷ [])), None)
    ∷ ((main_by (PlainInstr.push_bit true ∷ (PlainInstr.unary PrefixOp.Minus ∷ [])), None)
    ∷ ((main_by (push 1 ∷ (PlainInstr.unary PrefixOp.Minus ∷ [])), to_end 3)
    ∷ ((main_by (push 1 ∷ (PlainInstr.jump_false (pos 0) ∷ [])), None)
    ∷ ((main_by (PlainInstr.push_bit true ∷ (PlainInstr.jump_false (pos 9) ∷ [])), to_end 3) ∷ []))))))
operands = refl

-- there are never more than 400 operands and arguments together
many : Rows ((main_by (replicate 400 (push 1)), to_end 401) ∷ ((main_by (replicate 401 (push 1)), None) ∷ []))
many = refl

-- one act is done, behind which only jumps come
acts : Rows
    ((main_by (PlainInstr.put 0 ∷ (PlainInstr.put 0 ∷ [])), None)
    ∷ ((main_by (PlainInstr.put 0 ∷ (push 1 ∷ [])), None)
    ∷ ((main_by (PlainInstr.put 0 ∷ (PlainInstr.suspend_marked ∷ [])), None)
    ∷ ((main_by (PlainInstr.put 0 ∷ (PlainInstr.jump (pos 0) ∷ [])), to_end 3) ∷ []))))
acts = refl

-- cells are made behind a call alone, and procedures, variables and loops have to be there
names : Rows
    ((main_by (PlainInstr.cell (codes "x") ItemType.Fixed 0 ∷ []), None)
    ∷ ((main_by (PlainInstr.put 0 ∷ (PlainInstr.cell (codes "x") ItemType.Fixed 0 ∷ [])), None)
    ∷ ((main_by (PlainInstr.parameter (codes "x") ItemType.Fixed ∷ []), None)
    ∷ ((main_by (PlainInstr.load (codes "x") ∷ []), None)
    ∷ ((main_by (PlainInstr.get (codes "x") ∷ []), None)
    ∷ ((main_by (PlainInstr.for_next 2 (codes "x") (pos 0) ∷ []), None) ∷ []))))))
names = refl

unknown_call : Rows ((main_by (PlainInstr.call (codes "p") 0 ∷ []), None) ∷ [])
unknown_call = simp gets

-- ---- calls

-- code whose step from (2, 0) has these instructions, and where p, in slot 3, begins behind the end of main with these
abbrev calling_by : (instrs of_p : List PlainInstr) → PlainCode
calling_by instrs of_p =
    record (stepping_by (instrs ++ (main_ends ++ (of_p ++ (at 3 1 ∷ (PlainInstr.leave ∷ [])))))) {
      headings = from_entries ((codes "p", record { address = length instrs + 3; slot = record { 0 = 3 } }) ∷ []);
    }

-- a step of main without variables, by these instructions and then a call of p with so many arguments, where p has
-- these parameters
abbrev call_by : (instrs : List PlainInstr) → (n : ℕ) → (parameters : List PlainInstr) → Option FetchedAnswer
call_by instrs n parameters =
    run_behind (calling_by (instrs ++ (PlainInstr.call (codes "p") n ∷ [])) parameters) [] (main_with (place_at 2 0) []) 0

-- a number added as an argument
abbrev adding : ℕ → List PlainInstr
adding n = push n ∷ (PlainInstr.dummy ∷ [])

-- a parameter for a number
abbrev number_for : List ℕ → PlainInstr
number_for name = PlainInstr.parameter name ItemType.Fixed

-- the step ends in p, whose frame has these variables
abbrev to_p : Variables → ℕ → Option FetchedAnswer
to_p variables n = stepped (with_frames (new_frame 0 (place_at 2 1) [] ∷ (new_frame 3 (place_at 3 1) variables ∷ []))) n

-- the arguments that a call takes have to be there
calls_with_fewer : Rows
    ((call_by [] 1 (number_for (codes "a") ∷ []), None)
    ∷ ((call_by (adding 7) 2 (number_for (codes "a") ∷ (number_for (codes "b") ∷ [])), None) ∷ []))
calls_with_fewer = refl

call_with_one : call_by (adding 7) 1 (number_for (codes "a") ∷ []) ≡ to_p (number_in (codes "a") (holding 7) ∷ []) 5
call_with_one = simp gets

-- where there are more, it takes the newest, in the order in which they were added
call_with_one_more : call_by (adding 7 ++ adding 8) 1 (number_for (codes "a") ∷ []) ≡ to_p (number_in (codes "a") (holding 8) ∷ []) 7
call_with_one_more = simp gets

call_with_three :
    call_by (adding 7 ++ (adding 8 ++ adding 9)) 2 (number_for (codes "a") ∷ (number_for (codes "b") ∷ []))
    ≡ to_p (number_in (codes "a") (holding 8) ∷ (number_in (codes "b") (holding 9) ∷ [])) 10
call_with_three = simp gets

call_with_none_taken : call_by (adding 7) 0 [] ≡ to_p [] 4
call_with_none_taken = simp gets

-- the procedure takes none beyond those of its call, and may leave some
parameter_beyond : call_by (adding 7 ++ adding 8) 1 (number_for (codes "a") ∷ (number_for (codes "b") ∷ [])) ≡ None
parameter_beyond = simp gets

arguments_left : call_by (adding 7 ++ adding 8) 2 (number_for (codes "a") ∷ []) ≡ to_p (number_in (codes "a") (holding 7) ∷ []) 7
arguments_left = simp gets

-- ---- references

-- the location of a number of the name in the frame
abbrev in_frame : ℕ → List ℕ → Location
in_frame frame name = record { frame = frame; name = name; element = 0 }

-- x is 7 in main, and a frame above it has y, which is 8, and r with this in its cell
abbrev above_main : Cell → List Frame
above_main r =
    new_frame 0 (place_at 9 1) (number_in (codes "x") (holding 7) ∷ [])
    ∷ (new_frame 5 (place_at 2 0) (number_in (codes "y") (holding 8) ∷ (number_in (codes "r") r ∷ [])) ∷ [])

-- r is read there
abbrev reading : Cell → Option FetchedAnswer
reading r = run_behind (stepping_by (PlainInstr.load (codes "r") ∷ (at 6 0 ∷ []))) [] (with_frames (above_main r)) 0

-- what was read is pushed, and the step ends at the next place
abbrev read : Cell → Option FetchedAnswer
read r =
    stepped
    (with_frames
    (new_frame 0 (place_at 9 1) (number_in (codes "x") (holding 7) ∷ [])
    ∷ (new_frame 5 (place_at 6 0) (number_in (codes "y") (holding 8) ∷ (number_in (codes "r") r ∷ [])) ∷ [])))
    2

-- a reference names a cell of a lower frame, which is no reference
references : Rows
    ((reading (holding 1), read (holding 1))
    ∷ ((reading (Cell.Ref (in_frame 0 (codes "x"))), read (Cell.Ref (in_frame 0 (codes "x"))))
    ∷ ((reading (Cell.Ref (in_frame 0 (codes "z"))), None)
    ∷ ((reading (Cell.Ref (in_frame 1 (codes "y"))), None)
    ∷ ((reading (Cell.Ref (in_frame 1 (codes "r"))), None)
    ∷ ((reading (Cell.Ref (in_frame 2 (codes "x"))), None) ∷ []))))))
references = refl

-- ---- frames and places

-- so many frames at the place
abbrev frames_at : ℕ → List Frame
frames_at n = replicate n (new_frame 0 (place_at 2 0) [])

no_frame : Rows ((Exec (stepping_by main_ends) [] (with_frames []), None) ∷ [])
no_frame = refl

too_many_frames : Rows ((Exec (stepping_by main_ends) [] (with_frames (frames_at 65)), None) ∷ [])
too_many_frames = refl

no_such_place : Rows ((Exec (stepping_by main_ends) [] (main_with (place_at 7 0) []), None) ∷ [])
no_such_place = simp (gets, places_total)

-- ---- starts

-- only cells of different names come before the first place, and not too many
starts : Rows
    ((Enter (code_of []), None)
    ∷ ((Enter (code_of (PlainInstr.leave ∷ main_ends)), None)
    ∷ ((Enter (code_of (PlainInstr.jump (pos 0) ∷ main_ends)), None)
    ∷ ((Enter (code_of (PlainInstr.parameter (codes "x") ItemType.Fixed ∷ main_ends)), None)
    ∷ ((
      Enter (code_of (PlainInstr.cell (codes "x") ItemType.Fixed 0 ∷ main_ends)),
      Some record { result = main_with (place_at 0 1) (number_in (codes "x") Cell.Unset ∷ []); fetches = 2 },
    )
    ∷ ((Enter (code_of (PlainInstr.cell (codes "x") ItemType.Fixed 0 ∷ (PlainInstr.cell (codes "x") ItemType.Bit 0 ∷ main_ends))), None)
    ∷ ((Enter (code_of (PlainInstr.cell (codes "x") ItemType.Fixed 2001 ∷ main_ends)), None) ∷ [])))))))
starts = refl
