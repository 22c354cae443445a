-- The steps are made one after the other, and what comes of those that are left is what comes of all: while steps may
-- be made each that is made goes on to the others, one that isn't ends them, and memory that runs out leaves those
-- before it. Where none may be made more the run is paused.
use Rattle.std.proofs.Common.{Option, refl, ◌∙◌, subst}
use Rattle.plcs_store.specs.declared.reason.RunReason.{RunReason}
use Rattle.synth_session.specs.Private.TickDone.{HasTried}
use Rattle.synth_session.specs.SessionView.{own_steps, plain_session}
use Rattle.synth_session.specs.Tick.{tried}
use Rattle.synth_session.proofs.AllSteps.{begins, fewer_left, next_defined, own_same, pauses_after, pauses_fetched, rests_after, rests_fetched, same_code, steps_on, wants, wants_fetched}
use Rattle.synth_session.proofs.session.Session.make_steps.Goals as goal

pub loop-self-init : goal.loop-self-init
loop-self-init g c = record {
  so_far = begins (own_steps c.args.self.now) (plain_session c.args.self.now) (g.W.Work.counts c.args.work.now) c.requires.running c.requires.defined;
  session = c.requires.session;
  program = refl;
  edits = refl;
  screens = refl;
  input = refl;
  fits = λ code fits goes_on. goes_on;
  stays_fit = λ code fits. fits;
}

pub try_step-requires-clause-defined : goal.try_step-requires-clause-defined
try_step-requires-clause-defined g c =
    let first = c.args.self.now in
    let now = c.loop-self.self in
    let invariant = c.loop-self.invariant in
    let own = own_same first now invariant.program invariant.input in
    next_defined (own_steps first) (own_steps now) own (plain_session first) (plain_session now) (g.W.Work.counts c.args.work.now)
    (g.W.Work.counts c.loop-self.work) invariant.so_far c.loop-self-test.true

pub returns-in_default-clause-counted : goal.returns-in_default-clause-counted
returns-in_default-clause-counted g c =
    let first = c.args.self.now in
    let now = c.loop-self.self in
    let invariant = c.loop-self.invariant in
    let own = own_same first now invariant.program invariant.input in
    wants_fetched (own_steps first) (own_steps now) own (plain_session first) (plain_session now) (g.W.Work.counts c.args.work.now)
    (g.W.Work.counts c.loop-self.work) invariant.so_far c.loop-self-test.true (plain_session c.try_step.new.self)
    (g.W.Work.counts c.try_step.new.work) c.in_default.ensures.counts

pub returns-in-Some-clause-does : goal.returns-in-Some-clause-does
returns-in-Some-clause-does g c =
    let first = c.args.self.now in
    let now = c.loop-self.self in
    let invariant = c.loop-self.invariant in
    let own = own_same first now invariant.program invariant.input in
    rests_after (own_steps first) (own_steps now) own (plain_session first) (plain_session now) (g.W.Work.counts c.args.work.now)
    (g.W.Work.counts c.loop-self.work) invariant.so_far c.loop-self-test.true (plain_session c.try_step.new.self)
    (g.W.Work.counts c.try_step.new.work) c.in-Some.reason
    (subst (λ (r : Option RunReason). HasTried (tried (own_steps now) (plain_session now)) (plain_session now) (plain_session c.try_step.new.self) r)
    c.in-Some.is c.in-Ok.ensures.tried)
    (plain_session c.rest.new.self) c.rest.result c.rest.ensures.rested c.rest.ensures.over

pub returns-in-Some-clause-counted : goal.returns-in-Some-clause-counted
returns-in-Some-clause-counted g c =
    let first = c.args.self.now in
    let now = c.loop-self.self in
    let invariant = c.loop-self.invariant in
    let own = own_same first now invariant.program invariant.input in
    rests_fetched (own_steps first) (own_steps now) own (plain_session first) (plain_session now) (g.W.Work.counts c.args.work.now)
    (g.W.Work.counts c.loop-self.work) invariant.so_far c.loop-self-test.true (plain_session c.try_step.new.self)
    (g.W.Work.counts c.try_step.new.work) c.in-Some.reason
    (subst (λ (r : Option RunReason). HasTried (tried (own_steps now) (plain_session now)) (plain_session now) (plain_session c.try_step.new.self) r)
    c.in-Some.is c.in-Ok.ensures.tried)
    c.in-Ok.ensures.counted

pub loop-self-smaller : goal.loop-self-smaller
loop-self-smaller g c =
    let now = c.loop-self.self in
    fewer_left (own_steps now) (plain_session now) (plain_session c.try_step.new.self) c.loop-self-test.true
    (subst (λ (r : Option RunReason). HasTried (tried (own_steps now) (plain_session now)) (plain_session now) (plain_session c.try_step.new.self) r)
    c.in_default-tried.is c.in-Ok.ensures.tried)

pub loop-self-preserved : goal.loop-self-preserved
loop-self-preserved g c =
    let first = c.args.self.now in
    let now = c.loop-self.self in
    let invariant = c.loop-self.invariant in
    let own = own_same first now invariant.program invariant.input in
    let next = c.in-Ok.ensures in
    record {
      so_far =
          steps_on (own_steps first) (own_steps now) own (plain_session first) (plain_session now) (g.W.Work.counts c.args.work.now)
          (g.W.Work.counts c.loop-self.work) invariant.so_far c.loop-self-test.true (plain_session c.try_step.new.self)
          (g.W.Work.counts c.try_step.new.work)
          (subst (λ (r : Option RunReason). HasTried (tried (own_steps now) (plain_session now)) (plain_session now) (plain_session c.try_step.new.self) r)
          c.in_default-tried.is c.in-Ok.ensures.tried)
          next.counted;
      session = next.session;
      program = next.program ∙ invariant.program;
      edits = next.edits ∙ invariant.edits;
      screens = next.screens ∙ invariant.screens;
      input = next.input ∙ invariant.input;
      fits = λ code fits goes_on. next.fits (same_code first now invariant.program code) (invariant.stays_fit code fits) (invariant.fits code fits goes_on);
      stays_fit = λ code fits. next.stays_fit (same_code first now invariant.program code) (invariant.stays_fit code fits);
    }

pub returns-clause-does : goal.returns-clause-does
returns-clause-does g c =
    let first = c.args.self.now in
    let now = c.loop-self.self in
    let invariant = c.loop-self.invariant in
    let own = own_same first now invariant.program invariant.input in
    pauses_after (own_steps first) (own_steps now) own (plain_session first) (plain_session now) (g.W.Work.counts c.args.work.now)
    (g.W.Work.counts c.loop-self.work) invariant.so_far c.loop-self-test.false (plain_session c.rest-2.new.self) c.rest-2.result
    c.rest-2.ensures.rested c.rest-2.ensures.over

pub returns-clause-counted : goal.returns-clause-counted
returns-clause-counted g c =
    let first = c.args.self.now in
    let now = c.loop-self.self in
    let invariant = c.loop-self.invariant in
    let own = own_same first now invariant.program invariant.input in
    pauses_fetched (own_steps first) (own_steps now) own (plain_session first) (plain_session now) (g.W.Work.counts c.args.work.now)
    (g.W.Work.counts c.loop-self.work) invariant.so_far c.loop-self-test.false

pub try_step-requires-clause-session : goal.try_step-requires-clause-session
try_step-requires-clause-session g c = c.loop-self.invariant.session

pub try_step-requires-clause-running : goal.try_step-requires-clause-running
try_step-requires-clause-running g c = record { stands = c.loop-self.invariant.so_far.stands; within = c.loop-self.invariant.so_far.within }

pub try_step-requires-clause-left : goal.try_step-requires-clause-left
try_step-requires-clause-left g c = c.loop-self-test.true

pub rest-requires-clause-session : goal.rest-requires-clause-session
rest-requires-clause-session g c = c.in-Ok.ensures.session

pub rest-requires-2 : goal.rest-requires-2
rest-requires-2 g c = record { session = c.loop-self.invariant.session; stands = c.loop-self.invariant.so_far.stands }

pub returns-in_default-clause-does : goal.returns-in_default-clause-does
returns-in_default-clause-does g c =
    let first = c.args.self.now in
    let now = c.loop-self.self in
    let invariant = c.loop-self.invariant in
    let own = own_same first now invariant.program invariant.input in
    wants (own_steps first) (own_steps now) own (plain_session first) (plain_session now) (g.W.Work.counts c.args.work.now)
    (g.W.Work.counts c.loop-self.work) invariant.so_far c.loop-self-test.true (plain_session c.try_step.new.self)
    (g.W.Work.counts c.try_step.new.work) c.requires.unshown c.in_default.ensures.refused c.in_default.ensures.calls

pub returns-in_default-clause-session : goal.returns-in_default-clause-session
returns-in_default-clause-session g c = c.in_default.ensures.session

pub returns-in_default-clause-program : goal.returns-in_default-clause-program
returns-in_default-clause-program g c = c.in_default.ensures.program ∙ c.loop-self.invariant.program

pub returns-in_default-clause-edits : goal.returns-in_default-clause-edits
returns-in_default-clause-edits g c = c.in_default.ensures.edits ∙ c.loop-self.invariant.edits

pub returns-in_default-clause-screens : goal.returns-in_default-clause-screens
returns-in_default-clause-screens g c = c.in_default.ensures.screens ∙ c.loop-self.invariant.screens

pub returns-in_default-clause-fits : goal.returns-in_default-clause-fits
returns-in_default-clause-fits g c =
    let first = c.args.self.now in
    let now = c.loop-self.self in
    let invariant = c.loop-self.invariant in
    λ code fits goes_on.
    c.in_default.ensures.fits (same_code first now invariant.program code) (invariant.stays_fit code fits) (invariant.fits code fits goes_on)

pub returns-in_default-clause-stays_fit : goal.returns-in_default-clause-stays_fit
returns-in_default-clause-stays_fit g c =
    let first = c.args.self.now in
    let now = c.loop-self.self in
    let invariant = c.loop-self.invariant in
    λ code fits. c.in_default.ensures.stays_fit (same_code first now invariant.program code) (invariant.stays_fit code fits)

pub returns-in-Some-clause-session : goal.returns-in-Some-clause-session
returns-in-Some-clause-session g c = c.rest.ensures.session

pub returns-in-Some-clause-program : goal.returns-in-Some-clause-program
returns-in-Some-clause-program g c = c.rest.ensures.program ∙ c.in-Ok.ensures.program ∙ c.loop-self.invariant.program

pub returns-in-Some-clause-edits : goal.returns-in-Some-clause-edits
returns-in-Some-clause-edits g c = c.rest.ensures.edits ∙ c.in-Ok.ensures.edits ∙ c.loop-self.invariant.edits

pub returns-in-Some-clause-screens : goal.returns-in-Some-clause-screens
returns-in-Some-clause-screens g c = c.rest.ensures.screens ∙ c.in-Ok.ensures.screens ∙ c.loop-self.invariant.screens

pub returns-in-Some-clause-fits : goal.returns-in-Some-clause-fits
returns-in-Some-clause-fits g c =
    let first = c.args.self.now in
    let now = c.loop-self.self in
    let invariant = c.loop-self.invariant in
    λ code fits goes_on.
    c.rest.ensures.fits (c.in-Ok.ensures.fits (same_code first now invariant.program code) (invariant.stays_fit code fits) (invariant.fits code fits goes_on))

pub returns-in-Some-clause-stays_fit : goal.returns-in-Some-clause-stays_fit
returns-in-Some-clause-stays_fit g c =
    let first = c.args.self.now in
    let now = c.loop-self.self in
    let invariant = c.loop-self.invariant in
    λ code fits. c.rest.ensures.stays_fit (c.in-Ok.ensures.stays_fit (same_code first now invariant.program code) (invariant.stays_fit code fits))

pub returns-clause-session : goal.returns-clause-session
returns-clause-session g c = c.rest-2.ensures.session

pub returns-clause-program : goal.returns-clause-program
returns-clause-program g c = c.rest-2.ensures.program ∙ c.loop-self.invariant.program

pub returns-clause-edits : goal.returns-clause-edits
returns-clause-edits g c = c.rest-2.ensures.edits ∙ c.loop-self.invariant.edits

pub returns-clause-screens : goal.returns-clause-screens
returns-clause-screens g c = c.rest-2.ensures.screens ∙ c.loop-self.invariant.screens

pub returns-clause-fits : goal.returns-clause-fits
returns-clause-fits g c = λ code fits goes_on. c.rest-2.ensures.fits (c.loop-self.invariant.fits code fits goes_on)

pub returns-clause-stays_fit : goal.returns-clause-stays_fit
returns-clause-stays_fit g c = λ code fits. c.rest-2.ensures.stays_fit (c.loop-self.invariant.stays_fit code fits)
