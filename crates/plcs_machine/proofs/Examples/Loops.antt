-- Loops: entered, over at once, taken up again and left. The loop that is left is the one of the slot, wherever it
-- stands.
use Rattle.std.specs.Prelude.{refl, ℕ, ℤ, pos, negsuc, List, [], ◌∷◌, codes}
use Rattle.plcs_code.specs.PlainInstr.{PlainInstr}
use Rattle.plcs_store.specs.declared.cell.Cell.{Cell}
use Rattle.plcs_store.specs.declared.fault_kind.FaultKind.{FaultKind}
use Rattle.plcs_store.specs.declared.kept_loop.KeptLoop.{KeptLoop}
use Rattle.plcs_store.specs.declared.reason.Reason.{Reason}
use Rattle.plcs_store.specs.Configuration.{PlainConfiguration}
use Rattle.plcs_store.specs.NewFrame.{new_frame}
use Rattle.template_tree.specs.Positions.Place.{place_at}
use Rattle.plcs_machine.specs.Exec.{run_behind}
use Rattle.plcs_machine.proofs.Examples.Row.{Rows, at, code_of, holding, main_ends, number_in, push, stepped, stopped, with_frames}

-- a loop of a slot
abbrev kept : ℕ → ℤ → ℤ → KeptLoop
kept slot limit step = record { slot = record { 0 = slot }; limit = limit; step = step }

-- main at a place, with x in a cell, and with these loops
abbrev main_at : ℕ → ℕ → Cell → List KeptLoop → PlainConfiguration
main_at slot point x loops =
    with_frames (record (new_frame 0 (place_at slot point) (number_in (codes "x") x ∷ [])) { loops = loops } ∷ [])

abbrev entered : List PlainInstr
entered = PlainInstr.for_enter 2 (codes "x") (pos 1) ∷ (at 3 0 ∷ main_ends)

entries : Rows
    ((
      run_behind (code_of (at 2 0 ∷ (push 1 ∷ (push 2 ∷ (push 1 ∷ entered))))) [] (main_at 2 0 Cell.Unset []) 0,
      stepped (main_at 3 0 (holding 1) (kept 2 (pos 2) (pos 1) ∷ [])) 5,
    )
    ∷ ((
      run_behind (code_of (at 2 0 ∷ (push 3 ∷ (push 2 ∷ (push 1 ∷ entered))))) [] (main_at 2 0 Cell.Unset []) 0,
      stepped (main_at 0 1 (holding 3) []) 5,
    ) ∷ []))
entries = refl

-- the loop in slot 2 takes its next iteration
abbrev iterates : List PlainInstr
iterates = at 2 1 ∷ (PlainInstr.for_next 2 (codes "x") (negsuc 1) ∷ main_ends)

iterations : Rows
    ((
      run_behind (code_of iterates) [] (main_at 2 1 (holding 1) (kept 2 (pos 3) (pos 1) ∷ [])) 0,
      stepped (main_at 2 1 (holding 2) (kept 2 (pos 3) (pos 1) ∷ [])) 2,
    )
    ∷ ((run_behind (code_of iterates) [] (main_at 2 1 (holding 3) (kept 2 (pos 3) (pos 1) ∷ [])) 0, stepped (main_at 0 1 (holding 4) []) 2)
    ∷ ((
      run_behind (code_of iterates) [] (main_at 2 1 (holding 3) (kept 2 (pos 3) (pos 1) ∷ (kept 4 (pos 9) (pos 1) ∷ []))) 0,
      stepped (main_at 0 1 (holding 4) (kept 4 (pos 9) (pos 1) ∷ [])) 2,
    )
    ∷ ((
      run_behind (code_of iterates) [] (main_at 2 1 (holding 2147483647) (kept 2 (pos 3) (pos 1) ∷ [])) 0,
      stopped (Reason.Fault FaultKind.FixedOverflow) 1,
    ) ∷ []))))
iterations = refl
