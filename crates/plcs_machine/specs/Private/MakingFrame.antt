-- A frame that is made for a call, as the code makes it.
use Rattle.std.specs.Prelude.{ℕ, List, [], ◌∷◌, ◌++◌, Option, Some, IsSome, option_map}
use Rattle.plcs_base.specs.declared.declared.ItemType.{ItemType}
use Rattle.plcs_code.specs.Gen.{PlainCode}
use Rattle.plcs_store.specs.declared.argument.Argument.{Argument}
use Rattle.plcs_store.specs.declared.cell.Cell.{Cell}
use Rattle.plcs_store.specs.declared.frame.Frame.{Frame}
use Rattle.plcs_store.specs.CellAt.{Variables, kept_value, scalar_variable}
use Rattle.plcs_machine.specs.Fetched.{Fetched}
use Rattle.plcs_machine.specs.Passing.{Landing, Making, settle}

-- a frame that is made, with these variables so far, and these arguments that no parameter took yet
abbrev pub making_of : Variables → List Argument → Making
making_of variables arguments = record { variables = variables; arguments = arguments }

-- in a frame that is made for a call, the cell of a parameter of the type for an argument, if that is a variable or a
-- value of its kind
abbrev pub argument_cell : ItemType → Argument → Option Cell
argument_cell ty (Argument.Reference location) = Some (Cell.Ref location)
argument_cell ty (Argument.Dummy value) = option_map Cell.Held (kept_value ty value)

-- the variables of a frame that the code makes for a call, with one more behind them: a parameter, for an argument
abbrev pub with_argument : (name : List ℕ) → ItemType → Argument → Variables → Option Variables
with_argument name ty argument variables =
    option_map (λ cell. variables ++ ((name, scalar_variable ty cell) ∷ [])) (argument_cell ty argument)

-- the way from an address to the first place of a frame that is made with these variables and arguments, where these
-- are the frames below it
abbrev pub made_way : PlainCode → (fetches address : ℕ) → Variables → List Argument → List Frame
    → Option (Fetched Landing)
made_way code fetches address variables arguments frames =
    settle frames code.instrs fetches address (Some (making_of variables arguments))

-- of the way to the first place of a frame that is made, this holds for all frames below it for which there is a way
abbrev pub EachWay : (List Frame → Option (Fetched Landing)) → (Option (Fetched Landing) → Type 0) → Type 0
EachWay ways P = (frames : List Frame) → IsSome (ways frames) → P (ways frames)
