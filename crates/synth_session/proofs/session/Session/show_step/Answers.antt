use Rattle.std.proofs.Common.{◌∙◌, ℕ, Option, ap, arith, subst, sym}
use Rattle.std.proofs.lemmas.Bool.Decides.{nat_tests}
use Rattle.plcs_machine.specs.Fetched.{FetchesAtMost, FetchesBy}
use Rattle.plcs_store.specs.declared.reason.RunReason.{RunReason}
use Rattle.synth_session.specs.Private.TickDone.{HasTried}
use Rattle.synth_session.specs.SessionView.{own_steps, plain_session}
use Rattle.synth_session.specs.Tick.{tried}
use Rattle.synth_session.proofs.DrawnSessions.{drawn_run}
use Rattle.synth_session.proofs.ShownStep.{pause_fetched, shown_fetches, shows_made, shows_pause, shows_rest, shows_want}
use Rattle.synth_session.proofs.session.Session.show_step.Goals as goal

pub returns-in_default-clause-does : goal.returns-in_default-clause-does
returns-in_default-clause-does g c =
    let old = c.args.self.now in
    let differs = c.if-self.false in
    let within = c.requires.running.within in
    shows_want (own_steps old) (plain_session old) (plain_session c.try_step.new.self) (grind (arith, nat_tests)) c.in_default.ensures.refused
    c.in_default.ensures.calls

pub returns-in-None-clause-does : goal.returns-in-None-clause-does
returns-in-None-clause-does g c =
    let old = c.args.self.now in
    let differs = c.if-self.false in
    let within = c.requires.running.within in
    shows_made (own_steps old) (plain_session old) (plain_session c.try_step.new.self) (grind (arith, nat_tests))
    (subst (λ (r : Option RunReason). HasTried (tried (own_steps old) (plain_session old)) (plain_session old) (plain_session c.try_step.new.self) r)
    c.in-None.is c.in-Ok.ensures.tried)
    (plain_session c.settle.new.self) c.settle.ensures.settled

pub returns-in-Some-clause-does : goal.returns-in-Some-clause-does
returns-in-Some-clause-does g c =
    let old = c.args.self.now in
    let differs = c.if-self.false in
    let within = c.requires.running.within in
    shows_rest (own_steps old) (plain_session old) (plain_session c.try_step.new.self) (grind (arith, nat_tests)) c.in-Some.reason
    (subst (λ (r : Option RunReason). HasTried (tried (own_steps old) (plain_session old)) (plain_session old) (plain_session c.try_step.new.self) r)
    c.in-Some.is c.in-Ok.ensures.tried)
    (plain_session c.rest-in-Some.new.self) c.rest-in-Some.result c.rest-in-Some.ensures.rested c.rest-in-Some.ensures.over

pub returns-in-None-clause-counted : goal.returns-in-None-clause-counted
returns-in-None-clause-counted g c =
    let old = c.args.self.now in
    let differs = c.if-self.false in
    let within = c.requires.running.within in
    subst (λ (n : ℕ). FetchesBy n (g.W.Work.counts c.args.work.now) (g.W.Work.counts c.try_step.new.work))
    (sym (shown_fetches (own_steps old) (plain_session old) (plain_session c.try_step.new.self) (grind (arith, nat_tests)))) c.in-Ok.ensures.counted

pub returns-in-Some-clause-counted : goal.returns-in-Some-clause-counted
returns-in-Some-clause-counted g c =
    let old = c.args.self.now in
    let differs = c.if-self.false in
    let within = c.requires.running.within in
    subst (λ (n : ℕ). FetchesBy n (g.W.Work.counts c.args.work.now) (g.W.Work.counts c.try_step.new.work))
    (sym (shown_fetches (own_steps old) (plain_session old) (plain_session c.try_step.new.self) (grind (arith, nat_tests)))) c.in-Ok.ensures.counted

pub returns-then-self-clause-session : goal.returns-then-self-clause-session
returns-then-self-clause-session g c = c.rest.ensures.session

pub returns-then-self-clause-program : goal.returns-then-self-clause-program
returns-then-self-clause-program g c = c.rest.ensures.program

pub returns-then-self-clause-edits : goal.returns-then-self-clause-edits
returns-then-self-clause-edits g c = c.rest.ensures.edits

pub returns-then-self-clause-screens : goal.returns-then-self-clause-screens
returns-then-self-clause-screens g c = c.rest.ensures.screens

pub returns-then-self-clause-fits : goal.returns-then-self-clause-fits
returns-then-self-clause-fits g c = λ code fits. c.rest.ensures.fits

pub returns-then-self-clause-stays_fit : goal.returns-then-self-clause-stays_fit
returns-then-self-clause-stays_fit g c = λ code. c.rest.ensures.stays_fit

pub returns-then-self-clause-does : goal.returns-then-self-clause-does
returns-then-self-clause-does g c =
    shows_pause (own_steps c.args.self.now) (plain_session c.args.self.now) c.if-self.true (plain_session c.rest.new.self) c.rest.result
    c.rest.ensures.rested c.rest.ensures.over

pub returns-then-self-clause-counted : goal.returns-then-self-clause-counted
returns-then-self-clause-counted g c =
    pause_fetched (own_steps c.args.self.now) (plain_session c.args.self.now) c.if-self.true (g.W.Work.counts c.args.work.now)

pub returns-in_default-clause-session : goal.returns-in_default-clause-session
returns-in_default-clause-session g c = c.in_default.ensures.session

pub returns-in_default-clause-program : goal.returns-in_default-clause-program
returns-in_default-clause-program g c = c.in_default.ensures.program

pub returns-in_default-clause-edits : goal.returns-in_default-clause-edits
returns-in_default-clause-edits g c = c.in_default.ensures.edits

pub returns-in_default-clause-screens : goal.returns-in_default-clause-screens
returns-in_default-clause-screens g c = c.in_default.ensures.screens

pub returns-in_default-clause-fits : goal.returns-in_default-clause-fits
returns-in_default-clause-fits g c = c.in_default.ensures.fits

pub returns-in_default-clause-stays_fit : goal.returns-in_default-clause-stays_fit
returns-in_default-clause-stays_fit g c = c.in_default.ensures.stays_fit

pub returns-in_default-clause-counted : goal.returns-in_default-clause-counted
returns-in_default-clause-counted g c =
    let old = c.args.self.now in
    let differs = c.if-self.false in
    let within = c.requires.running.within in
    subst (λ (n : ℕ). FetchesAtMost n (g.W.Work.counts c.args.work.now) (g.W.Work.counts c.try_step.new.work))
    (sym (shown_fetches (own_steps old) (plain_session old) (plain_session c.try_step.new.self) (grind (arith, nat_tests)))) c.in_default.ensures.counts

pub returns-in-None-clause-session : goal.returns-in-None-clause-session
returns-in-None-clause-session g c = c.settle.ensures.session

pub returns-in-None-clause-program : goal.returns-in-None-clause-program
returns-in-None-clause-program g c = c.settle.ensures.program ∙ c.in-Ok.ensures.program

pub returns-in-None-clause-edits : goal.returns-in-None-clause-edits
returns-in-None-clause-edits g c = c.settle.ensures.edits ∙ c.in-Ok.ensures.edits

pub returns-in-None-clause-screens : goal.returns-in-None-clause-screens
returns-in-None-clause-screens g c = c.settle.ensures.screens ∙ c.in-Ok.ensures.screens

pub returns-in-None-clause-fits : goal.returns-in-None-clause-fits
returns-in-None-clause-fits g c code fits goes_on =
    drawn_run c.try_step.new.self c.settle.new.self (ap (λ p. p.tree) c.settle.ensures.program) c.settle.ensures.run c.settle.ensures.edits
    (c.in-Ok.ensures.fits code fits goes_on)

pub returns-in-Some-clause-session : goal.returns-in-Some-clause-session
returns-in-Some-clause-session g c = c.rest-in-Some.ensures.session

pub returns-in-Some-clause-program : goal.returns-in-Some-clause-program
returns-in-Some-clause-program g c = c.rest-in-Some.ensures.program ∙ c.in-Ok.ensures.program

pub returns-in-Some-clause-edits : goal.returns-in-Some-clause-edits
returns-in-Some-clause-edits g c = c.rest-in-Some.ensures.edits ∙ c.in-Ok.ensures.edits

pub returns-in-Some-clause-screens : goal.returns-in-Some-clause-screens
returns-in-Some-clause-screens g c = c.rest-in-Some.ensures.screens ∙ c.in-Ok.ensures.screens

pub returns-in-Some-clause-fits : goal.returns-in-Some-clause-fits
returns-in-Some-clause-fits g c = λ code fits goes_on. c.rest-in-Some.ensures.fits (c.in-Ok.ensures.fits code fits goes_on)

pub returns-in-Some-clause-stays_fit : goal.returns-in-Some-clause-stays_fit
returns-in-Some-clause-stays_fit g c = λ code fits. c.rest-in-Some.ensures.stays_fit (c.in-Ok.ensures.stays_fit code fits)
