-- The screen of a session: its view, with the prompt.
use Rattle.std.specs.Prelude.{ℕ, List, [], ◌++◌, codes, length, if◌then◌else◌, Option, Some, None, option_map}
use Rattle.std.specs.Option.{option_map_or}
use Rattle.plcs_base.specs.declared.place.Place.{Place}
use Rattle.plcs_grammar.specs.declared.node_kind.Sort.{Sort}
use Rattle.plcs_grammar.specs.Placeholder.{placeholder_word}
use Rattle.template_tree.specs.Checks.Marks.{Marks}
use Rattle.template_tree.specs.Positions.Path.{node_at}
use Rattle.template_tree.specs.Programs.PlainTree.{PlainTree}
use Rattle.template_tree.specs.Programs.Program.{sort_of}
use Rattle.template_tree.specs.Positions.Stop.{PlainStop}
use Rattle.screen_window.specs.PlainGrid.{PlainGrid}
use Rattle.screen_window.specs.PlainView.{PlainView}
use Rattle.plcs_store.specs.Undone.{newest_frame}
use Rattle.screen_window.specs.Screen.{Screen, window_rows}
use Rattle.session_edit.specs.Here.{category_at}
use Rattle.synth_session.specs.PlainRun.{PlainRun, is_ended}
use Rattle.synth_session.specs.PlainSession.{PlainSession}
use Rattle.synth_session.specs.ProgramCode.{code_rows}

-- ---- the prompt

-- the prompt's word for a node of a sort, or a hole for one
abbrev pub sort_word : Sort → List ℕ
sort_word Sort.Main = codes "main"
sort_word Sort.Procedure = codes "procedure"
sort_word Sort.Declaration = codes "declaration"
sort_word Sort.Statement = codes "statement"

-- the prompt's word for what stands at a stop: for a part that of the placeholder of its category, or else the one for
-- the node
abbrev pub word_at : PlainTree → PlainStop → Option ℕ → List ℕ
word_at tree stop None = option_map_or (λ node. sort_word (sort_of node.label.kind)) (node_at tree.items stop.path) []
word_at tree stop (Some part) = option_map_or placeholder_word (category_at tree stop) []

-- the prompt of a session: what is asked for at its cursor
unfoldable pub prompt : PlainTree → PlainStop → List ℕ
prompt tree stop = word_at tree stop stop.part ++ codes "> "

-- ---- the run and the code

-- the place of a run where the screen shows it, if one stands and isn't over
abbrev pub run_place : Option PlainRun → Option Place
run_place None = None
run_place (Some run) =
    if is_ended run.reason then None else option_map (λ frame. frame.place) (newest_frame run.configuration.frames)

-- what was written by the run, if one stands
abbrev pub run_output : Option PlainRun → List ℕ
run_output run = option_map_or (λ stands. stands.configuration.output) run []

-- the rows of code that are shown in place of the program, if they are
abbrev pub shown_code : PlainSession → Option (List (List ℕ))
shown_code s = option_map (code_rows (window_rows s.size.rows) s.tree s.stop) s.code_from

-- how many instructions are fetched to draw the screen of a session: one for each that is shown
abbrev pub screen_fetches : PlainSession → ℕ
screen_fetches s = option_map_or length (shown_code s) 0

-- ---- the screen

-- the view of a session, which its screen shows, with the marks of its program
abbrev pub view_of : PlainSession → PlainView
view_of s = record {
  items = s.tree.items;
  marks = Marks s.tree.items;
  stop = s.stop;
  top = s.top;
  run_place = run_place s.run;
  output = run_output s.run;
  message = s.message;
  prompt = prompt s.tree s.stop;
  typed = s.typed;
  code = shown_code s;
}

-- the screen of a session
unfoldable pub grid : PlainSession → PlainGrid
grid s = Screen s.size.rows s.size.cols (view_of s)
