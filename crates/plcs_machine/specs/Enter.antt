-- The begin of a run by code: main's cells, up to its first place.
use Rattle.std.specs.Prelude.{List, [], ◌∷◌, Option, Some, None, option_and_then, option_map}
use Rattle.plcs_code.specs.Gen.{PlainCode}
use Rattle.plcs_code.specs.PlainInstr.{PlainInstr}
use Rattle.plcs_store.specs.CellAt.{Variables}
use Rattle.plcs_store.specs.Configuration.{PlainConfiguration}
use Rattle.plcs_store.specs.NewFrame.{new_frame}
use Rattle.plcs_machine.specs.Fetched.{Fetched, at_once, behind_one, with_result}
use Rattle.plcs_machine.specs.Passing.{Landing, Passing, landing, passing_of, with_unset}

-- where an instruction leads before main's first place, behind which it is told where the others lead: only cells come
-- there
abbrev pub begun_passing : Variables → (go : Variables → Option (Fetched Landing)) → Passing → Option (Fetched Landing)
begun_passing variables go (Passing.lands place) = Some (at_once (landing place variables))
begun_passing variables go (Passing.jumps d) = None
begun_passing variables go (Passing.takes name ty) = None
begun_passing variables go (Passing.makes name ty size) =
    option_map behind_one (option_and_then go (with_unset name ty size variables))

-- where instructions lead, one after the other, once main has these variables
abbrev pub begun_in : List PlainInstr → Variables → Option (Fetched Landing)
begun_in [] variables = None
begun_in (instr ∷ instrs) variables = option_and_then (begun_passing variables (begun_in instrs)) (passing_of instr)

-- the configuration in which a run by code begins that lands there: main's frame alone, and main stands in slot 0
abbrev pub new_run : Landing → PlainConfiguration
new_run landing = record { frames = new_frame 0 landing.place landing.variables ∷ []; taken = 0; output = [] }

-- the configuration of a new run of the code, and how many instructions are fetched for it, up to main's first place.
-- It isn't defined where other than cells of different names come before that, or too many
abbrev pub Enter : PlainCode → Option (Fetched PlainConfiguration)
Enter code = option_map (with_result new_run) (begun_in code.instrs [])
