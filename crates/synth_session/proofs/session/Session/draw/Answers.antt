use Rattle.std.proofs.Common.{refl}
use Rattle.synth_session.proofs.DrawnSessions.{drawn_code, drawn_edits, drawn_run, drawn_same, drawn_session}
use Rattle.synth_session.proofs.session.Session.draw.Goals as goal

-- the session is seen the same, with other lines that are held
pub returns-clause-same : goal.returns-clause-same
returns-clause-same g c =
    drawn_same (record c.args.self.now { code_rows = c.shown_code-shown.new.filled }) c.draw_on.new.screens c.draw_on.new.program
    c.draw_on.ensures.tree c.draw_on.ensures.shown

pub returns-clause-session : goal.returns-clause-session
returns-clause-session g c =
    drawn_session c.args.self.now
    (record c.args.self.now { code_rows = c.shown_code-shown.new.filled; screens = c.draw_on.new.screens; program = c.draw_on.new.program })
    c.draw_on.ensures.agrees (returns-clause-same g c) c.requires.session

pub returns-clause-code : goal.returns-clause-code
returns-clause-code g c =
    drawn_code c.args.self.now
    (record c.args.self.now { code_rows = c.shown_code-shown.new.filled; screens = c.draw_on.new.screens; program = c.draw_on.new.program })
    c.draw_on.ensures.tree c.draw_on.ensures.dependents c.requires.code

pub returns-clause-ready : goal.returns-clause-ready
returns-clause-ready g c =
    λ ready.
    let now =
    record c.args.self.now { code_rows = c.shown_code-shown.new.filled; screens = c.draw_on.new.screens; program = c.draw_on.new.program } in
    record {
      session = returns-clause-session g c;
      code = returns-clause-code g c;
      run = drawn_run c.args.self.now now c.draw_on.ensures.tree refl refl ready.run;
      edits = drawn_edits c.args.self.now now c.draw_on.ensures.tree refl ready.edits;
    }
