-- Rows of examples, and code and configurations for them written shortly.
use Rattle.std.specs.Prelude.{◌≡◌, ℕ, pos, List, [], ◌∷◌, map, Option, Some}
use Rattle.std.proofs.lemmas.Cmp.{nat_cmp_total, on_total, then_total}
use Rattle.std.specs.Cmp.{IsTotalOrder}
use Rattle.std.specs.FinMap.{empty, from_entries}
use Rattle.plcs_base.specs.declared.declared.ItemType.{ItemType}
use Rattle.plcs_base.specs.declared.place.Place.{Place}
use Rattle.plcs_base.specs.declared.value.Value.{Value}
use Rattle.plcs_code.specs.Gen.{PlainCode, addresses_in, place_cmp}
use Rattle.plcs_code.specs.PlainInstr.{PlainInstr}
use Rattle.plcs_store.specs.declared.cell.Cell.{Cell}
use Rattle.plcs_store.specs.declared.frame.Frame.{Frame}
use Rattle.plcs_store.specs.declared.reason.Reason.{Reason}
use Rattle.plcs_store.specs.declared.variable.Variable.{Variable}
use Rattle.plcs_store.specs.CellAt.{Variables}
use Rattle.plcs_store.specs.Configuration.{PlainConfiguration}
use Rattle.plcs_store.specs.NewFrame.{new_frame}
use Rattle.plcs_store.specs.Step.{PlainStepAnswer}
use Rattle.template_tree.specs.Positions.Place.{PlainPlace, place_at}
use Rattle.plcs_machine.specs.Exec.{FetchedAnswer}

-- in each row what is computed is what is wanted
abbrev pub Rows : {A : Type 0} → List (A × A) → Type 0
Rows rows = map (λ row. row.0) rows ≡ map (λ row. row.1) rows

-- the places of code are in one order, by which their addresses are looked up
pub places_total : IsTotalOrder place_cmp
places_total = then_total (on_total (λ (at : Place). at.slot.0) nat_cmp_total) (on_total (λ (at : Place). at.point.0) nat_cmp_total)

-- ---- code

-- code of these instructions, which calls no procedure
abbrev pub code_of : List PlainInstr → PlainCode
code_of instrs = record { instrs = instrs; addresses = from_entries (addresses_in 0 instrs); headings = empty; spans = empty }

-- the instruction at which a step ends at the place
abbrev pub at : ℕ → ℕ → PlainInstr
at slot point = PlainInstr.place (place_at slot point)

-- the instruction that pushes a number
abbrev pub push : ℕ → PlainInstr
push n = PlainInstr.push_number (pos n)

-- code whose step from (2, 0) to the end of main has these instructions
abbrev pub stepping_by : List PlainInstr → PlainCode
stepping_by instrs = code_of (at 2 0 ∷ instrs)

-- the end of main
abbrev pub main_ends : List PlainInstr
main_ends = at 0 1 ∷ (PlainInstr.leave ∷ [])

-- ---- configurations

-- a configuration of these frames, where nothing was read and nothing was written
abbrev pub with_frames : List Frame → PlainConfiguration
with_frames frames = record { frames = frames; taken = 0; output = [] }

-- a configuration of main alone with these variables, at a place
abbrev pub main_with : PlainPlace → Variables → PlainConfiguration
main_with place variables = with_frames (new_frame 0 place variables ∷ [])

-- a whole number in a cell, as a scalar of the name
abbrev pub number_in : List ℕ → Cell → List ℕ × Variable
number_in name cell = (name, record { ty = ItemType.Fixed; size = 0; cells = cell ∷ [] })

abbrev pub holding : ℕ → Cell
holding n = Cell.Held (Value.Fixed (pos n))

-- ---- answers

abbrev pub stepped : PlainConfiguration → ℕ → Option FetchedAnswer
stepped c n = Some record { result = PlainStepAnswer.stepped c; fetches = n }

abbrev pub stopped : Reason → ℕ → Option FetchedAnswer
stopped reason n = Some record { result = PlainStepAnswer.stopped reason; fetches = n }

abbrev pub ended : ℕ → Option FetchedAnswer
ended n = Some record { result = PlainStepAnswer.ended; fetches = n }
