use Rattle.std.proofs.Common.{◌++◌, ℕ, List, ap, subst, ◌∙◌}
use Rattle.std.proofs.lemmas.Result.{err_from_is_err_and}
use Rattle.screen_window.specs.Paint.{Paint}
use Rattle.screen_window.specs.PlainGrid.{PlainGrid, blank_grid}
use Rattle.screen_window.specs.Writes.{Writes}
use Rattle.synth_session.specs.SessionView.{next_grid, plain_session}
use Rattle.synth_top.specs.WholeRun.{clear_piece, opening}
use Rattle.synth_top.proofs.editor.EditorEditing.start.Goals as goal

-- the first piece was cut short
pub returns-in_err-write_piece-clause-wrote : goal.returns-in_err-write_piece-clause-wrote
unfolding opening
returns-in_err-write_piece-clause-wrote g c =
    let p = err_from_is_err_and c.from_residual.result c.from_residual.ensures.1 in
    rw (p.1, p.2) (c.writes_in_turn.ensures.cut _ _ _ _ _ _ _ _ _ c.in_err-write_piece.ensures)

-- the first piece was taken, and then the screen or some of it, which was drawn before over a blank one
pub returns-clause-wrote : goal.returns-clause-wrote
unfolding opening
returns-clause-wrote g c =
    let size = (plain_session c.args.self.now.session).size in
    let screen = ap (λ (over : PlainGrid). Paint over (next_grid c.draw.new.self)) (c.draw.ensures.shown ∙ c.requires.painted)
    ∙ ap (λ (next : PlainGrid). Paint (blank_grid size.rows size.cols) next) c.draw.ensures.next in
    subst
    (λ (bytes : List ℕ). Writes (clear_piece ++ bytes) c.paint.result (g.K.Sink.taken c.args.screen.now) (g.K.Sink.taken c.paint.new.sink)
    (g.K.Sink.faults c.args.screen.now) (g.K.Sink.faults c.paint.new.sink) (g.K.Sink.wants c.args.screen.now) (g.K.Sink.wants c.paint.new.sink))
    screen
    (c.writes_in_turn.ensures.both _ _ _ _ _ _ _ _ _ _ _ _ c.in_ok-write_piece.ensures c.paint.ensures.wrote)
