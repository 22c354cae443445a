-- The run that is held tries its step by the code and the input of the session, and the session tries the same one:
-- where it was made the run is the next one, and fits the program if it did before, and else it is as it was.
use Rattle.std.proofs.Common.{ℕ, None, Some, arith}
use Rattle.template_tree.specs.Programs.PlainTree.{roomless_tree}
use Rattle.plcs_machine.specs.Exec.{Exec}
use Rattle.plcs_machine.specs.Fetched.{FetchesAtMost, FetchesBy, result_of}
use Rattle.code_patch.specs.CodeForest.{told_code}
use Rattle.synth_session.specs.SessionView.{own_steps, plain_session}
use Rattle.synth_session.specs.Tick.{tried}
use Rattle.synth_session.proofs.FittingSteps.{held_still, made_fits, made_goes_on}
use Rattle.synth_session.proofs.TriedSteps.{HeldGoesOn, told_fetches, tried_made, tried_rests, tries_as}
use Rattle.synth_session.proofs.session.Session.try_step.Goals as goal

pub try_step-requires-clause-short : goal.try_step-requires-clause-short
try_step-requires-clause-short g c =
    let short = c.as_slice.ensures.short in
    omega (arith, short)

pub returns-in_default-clause-counts : goal.returns-in_default-clause-counts
unfolding tried
returns-in_default-clause-counts g c =
    let old = c.args.self.now in
    told_fetches (told_code old.program.dependents.code.items) old.input c.as_slice.result.now c.as_slice.ensures.bytes (plain_session old) old.run.undos old.run.run
    (λ (n : ℕ). FetchesAtMost n (g.W.Work.counts c.args.work.now) (g.W.Work.counts c.try_step.new.work)) c.requires.running.stands c.in_default.ensures.counts

pub returns-in-None-clause-counted : goal.returns-in-None-clause-counted
unfolding tried
returns-in-None-clause-counted g c =
    let old = c.args.self.now in
    told_fetches (told_code old.program.dependents.code.items) old.input c.as_slice.result.now c.as_slice.ensures.bytes (plain_session old) old.run.undos old.run.run
    (λ (n : ℕ). FetchesBy n (g.W.Work.counts c.args.work.now) (g.W.Work.counts c.try_step.new.work)) c.requires.running.stands c.in-Ok.ensures.counted

pub returns-in-None-clause-counts : goal.returns-in-None-clause-counts
unfolding tried
returns-in-None-clause-counts g c =
    let old = c.args.self.now in
    told_fetches (told_code old.program.dependents.code.items) old.input c.as_slice.result.now c.as_slice.ensures.bytes (plain_session old) old.run.undos old.run.run
    (λ (n : ℕ). FetchesAtMost n (g.W.Work.counts c.args.work.now) (g.W.Work.counts c.try_step.new.work)) c.requires.running.stands c.in-Ok.ensures.counts

pub returns-in-Some-clause-counted : goal.returns-in-Some-clause-counted
unfolding tried
returns-in-Some-clause-counted g c =
    let old = c.args.self.now in
    told_fetches (told_code old.program.dependents.code.items) old.input c.as_slice.result.now c.as_slice.ensures.bytes (plain_session old) old.run.undos old.run.run
    (λ (n : ℕ). FetchesBy n (g.W.Work.counts c.args.work.now) (g.W.Work.counts c.try_step.new.work)) c.requires.running.stands c.in-Ok.ensures.counted

pub returns-in-Some-clause-counts : goal.returns-in-Some-clause-counts
unfolding tried
returns-in-Some-clause-counts g c =
    let old = c.args.self.now in
    told_fetches (told_code old.program.dependents.code.items) old.input c.as_slice.result.now c.as_slice.ensures.bytes (plain_session old) old.run.undos old.run.run
    (λ (n : ℕ). FetchesAtMost n (g.W.Work.counts c.args.work.now) (g.W.Work.counts c.try_step.new.work)) c.requires.running.stands c.in-Ok.ensures.counts

pub returns-in-None-clause-tried : goal.returns-in-None-clause-tried
unfolding tried
returns-in-None-clause-tried g c =
    let old = c.args.self.now in
    let new = c.try_step.new.self in
    tried_made (own_steps old) (plain_session old) old.run.undos new.undos old.run.run new.run
    (tries_as (told_code old.program.dependents.code.items) old.input c.as_slice.result.now c.as_slice.ensures.bytes old.run.undos new.undos old.run.run new.run
    c.in-Ok.tried None c.in-None.is c.in-Ok.ensures.tried)

pub returns-in-None-clause-fits : goal.returns-in-None-clause-fits
returns-in-None-clause-fits g c code fits =
    let old = c.args.self.now in
    let new = c.try_step.new.self in
    made_goes_on c.steps_of_programs.ensures old.program.tree c.requires.session.agrees.tree (told_code old.program.dependents.code.items) code.tells old.input old.run.undos
    new.undos old.run.run new.run
    (tries_as (told_code old.program.dependents.code.items) old.input c.as_slice.result.now c.as_slice.ensures.bytes old.run.undos new.undos old.run.run new.run
    c.in-Ok.tried None c.in-None.is c.in-Ok.ensures.tried) fits (plain_session old).earlier

pub returns-in-None-clause-stays_fit : goal.returns-in-None-clause-stays_fit
returns-in-None-clause-stays_fit g c code =
    let old = c.args.self.now in
    let new = c.try_step.new.self in
    made_fits c.steps_of_programs.ensures old.program.tree c.requires.session.agrees.tree (told_code old.program.dependents.code.items) code.tells old.input old.run.undos
    new.undos old.run.run new.run
    (tries_as (told_code old.program.dependents.code.items) old.input c.as_slice.result.now c.as_slice.ensures.bytes old.run.undos new.undos old.run.run new.run
    c.in-Ok.tried None c.in-None.is c.in-Ok.ensures.tried)

pub returns-in-Some-clause-tried : goal.returns-in-Some-clause-tried
unfolding tried
returns-in-Some-clause-tried g c =
    let old = c.args.self.now in
    let new = c.try_step.new.self in
    tried_rests (own_steps old) (plain_session old) old.run.undos new.undos old.run.run new.run c.in-Some.reason
    (tries_as (told_code old.program.dependents.code.items) old.input c.as_slice.result.now c.as_slice.ensures.bytes old.run.undos new.undos old.run.run new.run
    c.in-Ok.tried (Some c.in-Some.reason) c.in-Some.is c.in-Ok.ensures.tried)

pub returns-in-Some-clause-fits : goal.returns-in-Some-clause-fits
returns-in-Some-clause-fits g c code fits =
    let old = c.args.self.now in
    let new = c.try_step.new.self in
    held_still old.run.undos new.undos c.in-Some.reason (HeldGoesOn (roomless_tree old.program.tree) (plain_session old).earlier)
    (λ x. result_of (Exec (told_code old.program.dependents.code.items) old.input x)) old.run.run new.run
    (tries_as (told_code old.program.dependents.code.items) old.input c.as_slice.result.now c.as_slice.ensures.bytes old.run.undos new.undos old.run.run new.run
    c.in-Ok.tried (Some c.in-Some.reason) c.in-Some.is c.in-Ok.ensures.tried)
