-- Why this holds: what is asked of the run is kept for it by the conditions of the session, and by the laws of
-- resumption where it may go on it fits the program at the place to which it is resolved; where nothing was kept
-- nothing was edited, and it may. What is said over the tree with room holds without it.
use Rattle.std.proofs.Common.{Some, None}
use Rattle.template_tree.specs.Programs.PlainTree.{roomless_tree}
use Rattle.synth_session.specs.KeyOutcome.{KeyOutcome}
use Rattle.synth_session.specs.KeyReply.{Reply}
use Rattle.synth_session.specs.RunCommands.{resumed_run}
use Rattle.synth_session.specs.Private.MemorylessKey.{HasOutcome}
use Rattle.synth_session.specs.SessionView.{plain_session}
use Rattle.synth_session.proofs.ResumedRuns.{going_asked, held_asked, held_goes_on, held_plain, held_reason, held_reply, held_stands, held_stays}
use Rattle.synth_session.proofs.session.Session.go_on.Goals as goal

pub may_go_on-requires : goal.may_go_on-requires
may_go_on-requires g c =
    record {
      tree = c.requires.ready.session.agrees.tree;
      decls = c.requires.ready.session.agrees.dependents.decls;
      asked = held_asked c.args.self.now.program.tree (plain_session c.args.self.now).earlier c.args.self.now.run.undos c.runs_ignore_room_and_elision.ensures.room c.kept_has_entries.ensures
          c.args.self.now.run.run c.requires.ready.run;
    }

pub go_on-requires : goal.go_on-requires
go_on-requires g c =
    record {
      tree = c.requires.ready.session.agrees.tree;
      stays = held_stays c.args.self.now.program.tree (plain_session c.args.self.now).earlier c.args.self.now.run.undos c.runs_ignore_room_and_elision.ensures.room
          c.fitting_runs_are_resolved.ensures c.args.self.now.run.run c.requires.ready.run;
    }

pub accept_running-requires : goal.accept_running-requires
accept_running-requires g c =
    let tree = c.args.self.now.program.tree in
    let run = held_goes_on tree (plain_session c.args.self.now).earlier c.args.self.now.run.undos c.unedited_may_resume.ensures c.fitting_runs_are_kept.ensures
    c.answers_ignore_room_and_elision.ensures.room c.runs_ignore_room_and_elision.ensures.room c.resumed_runs_fit.ensures.agreed
    c.fitting_runs_are_resolved.ensures ((c.room_is_not_shown.ensures.trees tree).0 c.requires.ready.session.agrees.tree)
    c.go_on.new.self.undos c.go_on.ensures.undos c.args.self.now.run.run c.go_on.new.self.run c.go_on.ensures.run c.requires.ready.run c.in-Ok.ensures.asked in
    record {
      agrees = c.requires.ready.session.agrees;
      placed = record { stop = c.requires.ready.session.placed.stop; top = c.requires.ready.session.placed.top };
      code = c.requires.ready.code;
      run = run;
      edits = c.requires.ready.edits;
      stands = held_stands tree c.args.self.now.run.undos c.go_on.new.self.undos c.args.self.now.run.run c.go_on.new.self.run c.args.reason
          c.go_on.ensures.run c.requires.stands;
    }

pub returns-in-Ok : goal.returns-in-Ok
returns-in-Ok g c run there =
    let tree = c.args.self.now.program.tree in
    let goes = held_reason run c.args.reason there c.requires.stands c.in_default.not-Ended in
    let plain = held_plain tree (plain_session c.args.self.now).earlier c.args.self.now.run.undos c.unedited_may_resume.ensures c.fitting_runs_are_kept.ensures
    c.answers_ignore_room_and_elision.ensures.room c.runs_ignore_room_and_elision.ensures.room c.resumed_runs_fit.ensures.agreed
    c.fitting_runs_are_resolved.ensures ((c.room_is_not_shown.ensures.trees tree).0 c.requires.ready.session.agrees.tree)
    c.go_on.new.self.undos c.go_on.ensures.undos c.args.self.now.run.run c.go_on.new.self.run run c.go_on.ensures.run c.requires.ready.run
    c.in-Ok.ensures.asked there in
    let has = c.accept_running.ensures 0 (resumed_run (roomless_tree tree) run) plain in
    record {
      reply = Reply.Resumes None;
      can = held_reply tree (plain_session c.args.self.now).earlier c.args.self.now.run.undos c.unedited_may_resume.ensures c.fitting_runs_are_kept.ensures
          c.answers_ignore_room_and_elision.ensures.room c.args.self.now.run.run run None there c.requires.ready.run c.in-Ok.ensures.asked
          c.in-Ok.ensures.unedited goes;
      has = going_asked (plain_session c.args.self.now) c.args.steps run (Reply.Resumes None)
          (λ (outcome : KeyOutcome). HasOutcome outcome c.args.self.now c.accept_running.new.self c.accept_running.result) goes
          (record { session = has.session; screens = has.screens; after = has.after; answered = has.answered });
    }

pub returns-in-Err : goal.returns-in-Err
returns-in-Err g c run there =
    let tree = c.args.self.now.program.tree in
    let goes = held_reason run c.args.reason there c.requires.stands c.in_default.not-Ended in
    record {
      reply = Reply.Resumes (Some c.in-Err.refusal);
      can = held_reply tree (plain_session c.args.self.now).earlier c.args.self.now.run.undos c.unedited_may_resume.ensures c.fitting_runs_are_kept.ensures
          c.answers_ignore_room_and_elision.ensures.room c.args.self.now.run.run run (Some c.in-Err.refusal) there c.requires.ready.run
          c.in-Err.ensures.asked c.in-Err.ensures.unedited goes;
      has = going_asked (plain_session c.args.self.now) c.args.steps run (Reply.Resumes (Some c.in-Err.refusal))
          (λ (outcome : KeyOutcome). HasOutcome outcome c.args.self.now c.refuse-in-Err.new.self c.refuse-in-Err.result) goes
          c.refuse-in-Err.ensures;
    }
