-- What is shown on a screen, as plain data.
use Rattle.std.specs.Prelude.{ℕ, List, Option}
use Rattle.plcs_base.specs.declared.place.Place.{Place}
use Rattle.plcs_base.specs.Mark.{MarkMap}
use Rattle.template_tree.specs.Programs.PlainTree.{Forest}
use Rattle.template_tree.specs.Positions.Stop.{PlainStop}

-- a view: the program without the room of its lists, the marks of its phrases, the stop of the cursor, the number of
-- the window's first line, the place of a run that stands and isn't ended, the output of the run, the message, the
-- prompt, the typed line, and the rows of code where they are shown in place of the program
pub record PlainView : Type 0 where
  pub items : Forest
  pub marks : MarkMap
  pub stop : PlainStop
  pub top : ℕ
  pub run_place : Option Place
  pub output : List ℕ
  pub message : List ℕ
  pub prompt : List ℕ
  pub typed : List ℕ
  pub code : Option (List (List ℕ))
