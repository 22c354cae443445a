-- How a run stands in a program that may have been edited under it.
use Rattle.std.specs.Prelude.{◌≡◌, List, [], Option, Some, None, IfSome}
use Rattle.std.specs.List.{All}
use Rattle.plcs_base.specs.Mark.{MarkMap}
use Rattle.plcs_base.specs.Scope.{ItemMap}
use Rattle.template_tree.specs.Checks.ProgramMaps.{MarksTell, ScopeTells}
use Rattle.template_tree.specs.Programs.PlainTree.{PlainTree}
use Rattle.template_tree.specs.Programs.Tree.{IsTree}
use Rattle.tree_steps.specs.EditStep.{CameByEdits}
use Rattle.plcs_code.specs.Gen.{Gen, PlainCode}
use Rattle.plcs_store.specs.declared.kept.Kept.{Kept}
use Rattle.plcs_store.specs.declared.run_state.Run.{Run}
use Rattle.plcs_store.specs.declared.run_state.RunState.{RunState}
use Rattle.plcs_store.specs.declared.undo.Undo.{Undo}
use Rattle.plcs_store.specs.Configuration.{PlainConfiguration, plain_configuration}
use Rattle.plcs_store.specs.Fits.{Fits}
use Rattle.plcs_store.specs.Resume.{IsKeptOf}
use Rattle.plcs_store.specs.Undone.{step_undone}
use Rattle.plcs_machine.specs.declared.step_answer.StepAnswer.{StepAnswer}
use Rattle.back_steps.specs.EarlierConfigurations.{CanGoBack, configurations_before}
use Rattle.resume_cases.specs.declared.bench.Bench.{Bench}
use Rattle.resume_cases.specs.declared.suspended.Suspended.{Suspended}

-- the code is the one by which a run stands in the program of the tree: that of the tree's own marks and effective
-- items
pub record IsTreesCode (tree : PlainTree) (code : PlainCode) : Type 0 where
  pub marks : MarkMap
  pub items : ItemMap
  pub marks_tell : MarksTell marks tree.items
  pub items_tell : ScopeTells items tree.items
  pub generated : code ≡ Gen marks items tree.items

-- a run stands between two steps, where its program may be edited: the room for operands is empty
pub record IsBetweenSteps (state : RunState) : Type 0 where
  pub values : state.operands.values ≡ []
  pub arguments : state.operands.arguments ≡ []

-- a run fits the tree, and so does each configuration before it that its history gives back
pub record FitsUnedited (tree : PlainTree) (undos : List Undo) (c : PlainConfiguration) : Type 0 where
  pub fits : Fits tree.items c
  pub able : CanGoBack undos c
  pub before : All (Fits tree.items) (configurations_before undos c)

-- a run fitted an earlier tree, of which something is kept for it, and from which edits made this tree
pub record FittedEarlier (tree : PlainTree) (kept : Kept) (c : PlainConfiguration) : Type 0 where
  pub earlier : PlainTree
  pub is_tree : IsTree earlier
  pub came : CameByEdits earlier tree
  pub fitted : Fits earlier.items c
  pub kept_of : IsKeptOf earlier.items c kept

-- something is kept for a bench's run that stands, which fitted the program before it was edited
pub record HasKept (tree : PlainTree) (run : Run) : Type 0 where
  pub kept : Kept
  pub is : run.kept ≡ Some kept
  pub fitted : FittedEarlier tree kept (plain_configuration run.state)

-- to keep something changes neither what a run is in nor its history; what is dropped again leaves it as it was
pub record KeepsSuspended (old new : Suspended) : Type 0 where
  pub state : new.run.state ≡ old.run.state
  pub history : new.history ≡ old.history

-- a run of which nothing is kept fits the tree, and one of which something is kept fitted the tree before it was
-- edited, and has no history
abbrev pub StandsBy : Option Kept → PlainTree → List Undo → PlainConfiguration → Type 0
StandsBy None tree undos c = FitsUnedited tree undos c
StandsBy (Some kept) tree undos c = FittedEarlier tree kept c × (undos ≡ [])

-- a run stands in the tree, between two steps
pub record SuspendedIn (tree : PlainTree) (suspended : Suspended) : Type 0 where
  pub ready : IsBetweenSteps suspended.run.state
  pub stands : StandsBy suspended.run.kept tree suspended.history (plain_configuration suspended.run.state)

-- a bench has a tree, and its run, if there is one, stands in that
pub record IsBench (bench : Bench) : Type 0 where
  pub tree : IsTree bench.tree
  pub run : IfSome bench.suspended (SuspendedIn bench.tree)

-- what came of a step of a bench's run that was tried: one that was made led to what fits the tree, from which its
-- record gives the whole configuration before it back, and any other changed nothing
abbrev pub IsTried : PlainTree → StepAnswer → (old new : PlainConfiguration) → Undo → Type 0
IsTried tree StepAnswer.Stepped old new undo = Fits tree.items new × (step_undone undo new ≡ old)
IsTried tree (StepAnswer.Stopped reason) old new undo = new ≡ old
IsTried tree StepAnswer.Ended old new undo = new ≡ old
