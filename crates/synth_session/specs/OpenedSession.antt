-- The session with which an editor is opened.
use Rattle.std.specs.Prelude.{ℕ, false, List, [], ◌∷◌, Option, Some, None}
use Rattle.template_tree.specs.Programs.NewTree.{new_tree}
use Rattle.template_tree.specs.Programs.PlainTree.{PlainTree}
use Rattle.template_tree.specs.Positions.Stop.{PlainStop, node_stop}
use Rattle.cursor_moves.specs.Move.{first_stop}
use Rattle.synth_session.specs.PlainScreenSize.{PlainScreenSize}
use Rattle.synth_session.specs.PlainSession.{PlainSession}
use Rattle.synth_session.specs.Window.{with_cursor_seen}

-- the program with which a session begins: the one that is given, or the new one
abbrev pub tree_at_first : Option PlainTree → PlainTree
tree_at_first None = new_tree
tree_at_first (Some tree) = tree

-- where the cursor stands in the session with which an editor is opened: at the new program's hole for a statement,
-- or at main of a program that is given
abbrev pub stop_at_first : Option PlainTree → PlainStop
stop_at_first None = node_stop (0 ∷ 1 ∷ [])
stop_at_first (Some tree) = first_stop tree.items

-- a session over a tree with the cursor at a stop, on a screen of this size, with this input: nothing is typed,
-- clipped or told, no step or code is shown, no run stands and nothing can be undone, and the window begins at the
-- first line from which the cursor is seen
abbrev pub session_over : PlainScreenSize → PlainTree → PlainStop → List ℕ → PlainSession
session_over size tree stop input =
    with_cursor_seen record {
      size = size;
      tree = tree;
      stop = stop;
      top = 0;
      typed = [];
      clips = [];
      input = input;
      trace = false;
      message = [];
      code_from = None;
      run = None;
      asked = 0;
      made = 0;
      earlier = [];
    }

-- the session with which an editor is opened, over the program that is given or a new one, with this input of the
-- program
unfoldable pub opened_session : PlainScreenSize → Option PlainTree → List ℕ → PlainSession
opened_session size tree input = session_over size (tree_at_first tree) (stop_at_first tree) input
