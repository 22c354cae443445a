-- The loaded program is taken with the cursor at its first stop, and the run and the edits that can be undone are let go
-- of; nothing else of the session changes.
use Rattle.std.proofs.Common.{◌≡◌, [], None, option_map, refl, ap, ◌∙◌}
use Rattle.template_tree.specs.Programs.PlainTree.{PlainTree, roomless_tree}
use Rattle.cursor_moves.specs.Move.{first_stop}
use Rattle.edit_undo.specs.EarlierTree.{trees_before}
use Rattle.synth_session.specs.KeyOutcome.{line_acceptance_outcome}
use Rattle.synth_session.specs.PlainSession.{PlainSession}
use Rattle.synth_session.specs.SessionView.{plain_run, plain_session}
use Rattle.synth_session.proofs.CountedPrograms.{key_counted}
use Rattle.synth_session.proofs.NotedEdits.{none_fit}
use Rattle.synth_session.proofs.WantedCounts.{want_counted}
use Rattle.synth_session.proofs.session.Session.take_program.Goals as goal

pub accept_line-requires-clause-edits : goal.accept_line-requires-clause-edits
accept_line-requires-clause-edits g c = none_fit c.clear.new.self _ c.clear.ensures

pub returns-in-Ok : goal.returns-in-Ok
returns-in-Ok g c =
    let s = c.args.self.now in
    let tree = roomless_tree c.args.tree in
    let loaded : c.give_way.new.self.tree ≡ c.args.tree = (λ i. (c.give_way.ensures i).tree) ∙ c.in-Ok.ensures.tree in
    let first = c.top-self.ensures.first ∙ ap (λ (t : PlainTree). first_stop (roomless_tree t).items) c.in-Ok.ensures.tree in
    let seen :
    plain_session (record s { program = c.give_way.new.self; stop = c.top-self.result; top = 0; run = c.end.new.self; edits = c.clear.new.self })
    ≡ record (plain_session s) { tree = tree; stop = first_stop tree.items; top = 0; run = None; earlier = [] } =
    λ i.
    let now = roomless_tree (loaded i) in
    record (plain_session s) {
      tree = now;
      stop = first i;
      top = 0;
      run = option_map (plain_run now.items c.end.new.self.undos) (c.end.ensures.run i);
      earlier = trees_before (c.clear.ensures i) now;
    } in
    record {
      does = record {
        session = c.accept_line.ensures.session;
        screens = c.accept_line.ensures.screens;
        met = (c.accept_line.ensures.after ∙ ap (λ (t : PlainSession). (line_acceptance_outcome t).after) seen, c.accept_line.ensures.answered);
      };
      counts = key_counted _ _ c.new.ensures.counts;
    }

-- memory ran out
pub returns-in-Err : goal.returns-in-Err
returns-in-Err g c = record {
  does = record { session = c.requires.session; screens = refl; met = (refl, refl) };
  counts = want_counted _ _ _ c.new.ensures.counts;
}
