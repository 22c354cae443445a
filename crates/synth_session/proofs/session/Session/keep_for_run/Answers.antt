use Rattle.std.proofs.Common.{ap}
use Rattle.synth_session.specs.PlainRun.{PlainRun}
use Rattle.synth_session.specs.SessionView.{plain_session}
use Rattle.std.specs.Prelude.{Option}
use Rattle.synth_session.proofs.KeptRuns.{StandsHere, fits_unless_kept, kept_may_or_not, kept_plain_or_not, stands_here}
use Rattle.synth_session.proofs.session.Session.keep_for_run.Goals as goal

pub keep-requires-clause-fits : goal.keep-requires-clause-fits
keep-requires-clause-fits g c =
    fits_unless_kept c.runs_ignore_room_and_elision.ensures.room c.args.self.now.program.tree (plain_session c.args.self.now).earlier c.args.self.now.run.undos c.args.self.now.run.run
    c.requires.ready.run

pub returns-clause-ready : goal.returns-clause-ready
returns-clause-ready g c =
    let ready = c.requires.ready in
    let tree = c.args.self.now.program.tree in
    let here : StandsHere tree (plain_session c.args.self.now).earlier =
    stands_here c.room_is_not_shown.ensures.once c.room_is_not_shown.ensures.trees c.edits_follow.ensures.room c.agreement_lasts.ensures.edits
    c.agreement_lasts.ensures.past c.agreement_lasts.ensures.elision c.undone_trees_check_alike.ensures tree ready.session.agrees.tree
    (plain_session c.args.self.now).earlier ready.edits.agree in
    record {
      session = record {
        agrees = ready.session.agrees;
        placed = record { stop = ready.session.placed.stop; top = ready.session.placed.top };
        seen = record { from = ready.session.seen.from; to = ready.session.seen.to };
      };
      code = ready.code;
      run = rw c.keep.ensures.undos (kept_may_or_not c.runs_ignore_room_and_elision.ensures.room c.args.self.now.program.tree
          ready.session.agrees.tree (plain_session c.args.self.now).earlier here c.args.self.now.run c.keep.new.self c.keep.result
          c.keep.ensures.kept c.keep.ensures.refused ready.run);
      edits = ready.edits;
    }

pub returns-clause-plain : goal.returns-clause-plain
returns-clause-plain g c =
    let same = kept_plain_or_not c.runs_ignore_room_and_elision.ensures.room c.kept_is_one.ensures c.args.self.now.program.tree c.args.self.now.run
    c.keep.new.self c.keep.result c.keep.ensures.kept c.keep.ensures.refused in
    rw c.keep.ensures.undos (ap (λ (run : Option PlainRun). record (plain_session c.args.self.now) { run = run }) same)
