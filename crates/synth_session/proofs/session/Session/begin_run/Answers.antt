use Rattle.std.proofs.Common.{subst}
use Rattle.template_tree.specs.Programs.PlainTree.{roomless_tree}
use Rattle.plcs_code.specs.Gen.{PlainCode}
use Rattle.plcs_machine.specs.Enter.{Enter}
use Rattle.plcs_machine.specs.Fetched.{FetchesAtMost, fetches_of}
use Rattle.code_patch.specs.CodeForest.{told_code}
use Rattle.synth_session.specs.ProgramCode.{code_of}
use Rattle.synth_session.specs.RunCommands.{begun_run}
use Rattle.synth_session.specs.SessionView.{plain_session}
use Rattle.synth_session.proofs.WantedCounts.{want_fetched}
use Rattle.synth_session.proofs.FittingRuns.{begun_held, begun_plain, code_enters}
use Rattle.synth_session.proofs.session.Session.begin_run.Goals as goal

pub begin-requires : goal.begin-requires
begin-requires g c = record {
  begins = code_enters c.code_begins_as_tree.ensures c.programs_have_one_code.ensures.items c.room_is_not_shown.ensures.trees
      c.args.self.now.program.tree c.requires.ready.session.agrees.tree (told_code c.args.self.now.program.dependents.code.items) c.requires.ready.code.tells;
}

pub returns-in-Err-clause-counts : goal.returns-in-Err-clause-counts
returns-in-Err-clause-counts g c =
    want_fetched 0 0 (fetches_of (Enter (code_of (roomless_tree c.args.self.now.program.tree))))
    (subst (λ (k : PlainCode). FetchesAtMost (fetches_of (Enter k)) (g.W.Work.counts c.args.work.now) (g.W.Work.counts c.begin.new.work))
    c.requires.ready.code.tells c.begin.ensures.counts)

pub accept_running-requires-clause-run : goal.accept_running-requires-clause-run
accept_running-requires-clause-run g c =
    begun_held c.code_begins_as_tree.ensures c.programs_have_one_code.ensures.items c.room_is_not_shown.ensures.trees
    c.args.self.now.program.tree c.requires.ready.session.agrees.tree (told_code c.args.self.now.program.dependents.code.items) c.requires.ready.code.tells
    c.in-Ok.ensures.began.0 c.begin.new.self.undos c.begin.new.self.run c.in-Ok.ensures.began.1 c.in-Ok.ensures.undos c.in-Ok.ensures.began.2
    c.new_runs_fit.ensures (plain_session c.args.self.now).earlier

pub returns-in-Ok-clause-does : goal.returns-in-Ok-clause-does
returns-in-Ok-clause-does g c =
    let plain = begun_plain c.code_begins_as_tree.ensures c.programs_have_one_code.ensures.items c.room_is_not_shown.ensures.trees
    c.args.self.now.program.tree c.requires.ready.session.agrees.tree (told_code c.args.self.now.program.dependents.code.items) c.requires.ready.code.tells
    c.in-Ok.ensures.began.0 c.begin.new.self.undos c.begin.new.self.run c.in-Ok.ensures.began.1 c.in-Ok.ensures.undos c.in-Ok.ensures.began.2 in
    let has = c.accept_running.ensures (fetches_of (Enter (code_of (roomless_tree c.args.self.now.program.tree))))
    (begun_run (roomless_tree c.args.self.now.program.tree)) plain in
    record { session = has.session; screens = has.screens; met = (has.after, has.answered) }
