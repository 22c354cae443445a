-- The session as plain data: all that the screen and the next key depend on.
use Rattle.std.specs.Prelude.{ℕ, Bool, List, Option}
use Rattle.template_tree.specs.Programs.PlainTree.{PlainTree}
use Rattle.template_tree.specs.Positions.Stop.{PlainStop}
use Rattle.clip_store.specs.PlainClips.{Pair}
use Rattle.edit_undo.specs.EarlierTree.{EarlierTree}
use Rattle.synth_session.specs.PlainRun.{PlainRun}
use Rattle.synth_session.specs.PlainScreenSize.{PlainScreenSize}

-- a session as plain data: the screen's size, the program, the stop of the cursor, the number of the window's first
-- line, the typed line, the clips, the bytes of the program's input, whether each step is shown, the text of the
-- message, the number of the instruction from which code is shown, if it is, the run that stands, if one does, how
-- many steps the newest key of a run asked for with how many of them were made, and the earlier trees to which can be
-- gone back, the latest first; lists have no room in it
pub record PlainSession : Type 0 where
  pub size : PlainScreenSize
  pub tree : PlainTree
  pub stop : PlainStop
  pub top : ℕ
  pub typed : List ℕ
  pub clips : List Pair
  pub input : List ℕ
  pub trace : Bool
  pub message : List ℕ
  pub code_from : Option ℕ
  pub run : Option PlainRun
  pub asked : ℕ
  pub made : ℕ
  pub earlier : List EarlierTree
