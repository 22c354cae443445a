-- The run that a session in the code holds, as plain data.
use Rattle.std.specs.Prelude.{◌≡◌, List, [], Option, Some, None}
use Rattle.plcs_store.specs.declared.run_state.Run.{Run}
use Rattle.plcs_store.specs.declared.undo.Undo.{Undo}
use Rattle.plcs_store.specs.Configuration.{plain_configuration}
use Rattle.back_steps.specs.EarlierConfigurations.{CanGoBack}

-- the run that a session holds, if one stands, and the records of its latest steps, the latest first
pub record PlainHeldRun : Type 0 where
  pub run : Option Run
  pub undos : List Undo

-- what a session always knows of the run that it holds: it can go back by each record, and nothing is worked on between
-- steps
abbrev pub IsSteady : Option Run → List Undo → Type 0
IsSteady None undos = undos ≡ []
IsSteady (Some run) undos =
    CanGoBack undos (plain_configuration run.state) × (run.state.operands.values ≡ [])
    × (run.state.operands.arguments ≡ [])
