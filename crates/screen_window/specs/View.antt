-- The plain form of a view of the code.
use Rattle.std.specs.Prelude.{map, option_map}
use Rattle.plcs_base.specs.Mark.{MarkMap}
use Rattle.template_tree.specs.Programs.PlainTree.{roomless}
use Rattle.template_tree.specs.Positions.Stop.{plain_stop}
use Rattle.screen_window.specs.declared.view.View.{View}
use Rattle.screen_window.specs.PlainView.{PlainView}

-- the plain form of a view of the code, where the marks are told so; the room of the program's lists is no part of it
abbrev pub plain_view : {W M : Type 0} → (M → MarkMap) → View W M → PlainView
plain_view marks view = record {
  items = roomless view.tree.now.items;
  marks = marks view.marks.now;
  stop = plain_stop view.stop.now;
  top = view.top;
  run_place = view.run_place;
  output = view.output.now;
  message = view.message.now;
  prompt = view.prompt.now;
  typed = view.typed.now;
  code = option_map (λ rows. map (λ text. text.items) rows.now) view.code;
}
