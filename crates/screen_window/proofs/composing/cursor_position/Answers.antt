use Rattle.std.proofs.Common.{◌-◌, length, sym, ◌∙◌, arith}
use Rattle.std.proofs.lemmas.Bool.{eqb-true}
use Rattle.template_tree.specs.Positions.Path.{slot_at}
use Rattle.template_tree.specs.Programs.PlainTree.{roomless, roomless_node}
use Rattle.screen_window.specs.View.{plain_view}
use Rattle.screen_window.proofs.FoundRows.{cursor_row, row_within}
use Rattle.screen_window.proofs.composing.cursor_position.Goals as goal

pub overflow_add-result : goal.overflow_add-result
overflow_add-result g c =
    let within = row_within (plain_view g.M.Marked.marks c.args.view.now) (slot_at (roomless c.args.view.now.tree.now.items) c.args.view.now.stop.now.path.items) (c.args.rows - 6) c.in-Some-Some.row (sym c.in-Some-Some.is-1 ∙ c.requires.found) in
    omega (arith, within, c.requires.size.most_rows)

-- the row lies in the window
pub returns-in-Some-Some-clause-within : goal.returns-in-Some-Some-clause-within
returns-in-Some-Some-clause-within g c =
    let within = row_within (plain_view g.M.Marked.marks c.args.view.now) (slot_at (roomless c.args.view.now.tree.now.items) c.args.view.now.stop.now.path.items) (c.args.rows - 6) c.in-Some-Some.row (sym c.in-Some-Some.is-1 ∙ c.requires.found) in
    omega (arith, within, c.requires.size.most_rows)

-- the row that was found is the cursor's
pub returns-in-Some-Some-clause-row : goal.returns-in-Some-Some-clause-row
returns-in-Some-Some-clause-row g c =
    cursor_row c.args.rows c.args.cols (plain_view g.M.Marked.marks c.args.view.now) (roomless_node c.in-Some-Some.node.now) c.in-Some-Some.row (eqb-true (length c.args.view.now.typed.now) 0 (sym c.if-not-is_empty.ensures)) c.in-Some-Some.ensures
    (sym c.in-Some-Some.is-1 ∙ c.requires.found)
