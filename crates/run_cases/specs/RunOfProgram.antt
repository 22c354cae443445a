-- The code of a program, and what a run by it is in.
use Rattle.std.specs.Prelude.{◌≡◌, List, []}
use Rattle.std.specs.List.{All}
use Rattle.plcs_base.specs.Mark.{MarkMap}
use Rattle.plcs_base.specs.Scope.{ItemMap}
use Rattle.template_tree.specs.Checks.ProgramMaps.{MarksTell, ScopeTells}
use Rattle.template_tree.specs.Programs.PlainTree.{PlainTree}
use Rattle.template_tree.specs.Programs.Tree.{IsTree}
use Rattle.plcs_code.specs.Gen.{Gen, PlainCode}
use Rattle.plcs_store.specs.declared.run_state.RunState.{RunState}
use Rattle.plcs_store.specs.declared.undo.Undo.{Undo}
use Rattle.plcs_store.specs.Configuration.{PlainConfiguration, plain_configuration}
use Rattle.plcs_store.specs.Fits.{Fits}
use Rattle.back_steps.specs.EarlierConfigurations.{CanGoBack, configurations_before}

-- the code by which a case's run goes is that of some program, by the program's own marks and effective items
pub record IsProgramCode (code : PlainCode) : Type 0 where
  pub tree : PlainTree
  pub marks : MarkMap
  pub items : ItemMap
  pub is_tree : IsTree tree
  pub marks_tell : MarksTell marks tree.items
  pub items_tell : ScopeTells items tree.items
  pub generated : code ≡ Gen marks items tree.items

-- a run by the code may be in the configuration, which fits the program of the code
pub record IsRunOf (code : PlainCode) (c : PlainConfiguration) : Type 0 where
  pub program : IsProgramCode code
  pub fits : Fits program.tree.items c

-- what a run by the code of a program is in between two steps: there the room for operands is empty
pub record StandsByCode (code : PlainCode) (state : RunState) : Type 0 where
  pub run : IsRunOf code (plain_configuration state)
  pub values : state.operands.values ≡ []
  pub arguments : state.operands.arguments ≡ []

-- a run by the code goes back by these records of its latest steps: what it was in before is of such a run
pub record HasSteps (code : PlainCode) (undos : List Undo) (state : RunState) : Type 0 where
  pub able : CanGoBack undos (plain_configuration state)
  pub runs : All (IsRunOf code) (configurations_before undos (plain_configuration state))
