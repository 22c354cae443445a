-- A run of code that no tree has, from its start to its end.
use Rattle.std.specs.Prelude.{◌≡◌, refl, pos, [], ◌∷◌, codes, Some}
use Rattle.std.specs.Fmt.{digits}
use Rattle.std.specs.FinMap.{gets}
use Rattle.template_tree.specs.Positions.Place.{place_at}
use Rattle.plcs_code.specs.Gen.{PlainCode}
use Rattle.plcs_code.specs.PlainInstr.{PlainInstr}
use Rattle.plcs_store.specs.Configuration.{PlainConfiguration}
use Rattle.plcs_machine.specs.Enter.{Enter}
use Rattle.plcs_machine.specs.Exec.{Exec}
use Rattle.plcs_machine.proofs.Examples.Row.{ended, main_ends, main_with, places_total, push, stepped, stepping_by}

-- a jump over a number, another one that is put on a new line, and the end of main
abbrev by_hand : PlainCode
by_hand = stepping_by (PlainInstr.jump (pos 1) ∷ (push 3 ∷ (push 8 ∷ (PlainInstr.put_skip 1 ∷ main_ends))))

-- where it begins, and where it stands after a step
abbrev at_first : PlainConfiguration
at_first = main_with (place_at 2 0) []

abbrev at_last : PlainConfiguration
at_last = record (main_with (place_at 0 1) []) { output = codes "8" }

begins : Enter by_hand ≡ Some record { result = at_first; fetches = 1 }
begins = refl

steps : Exec by_hand [] at_first ≡ stepped at_last 4
unfolding digits
steps = simp (gets, places_total)

ends : Exec by_hand [] at_last ≡ ended 1
ends = simp (gets, places_total)
