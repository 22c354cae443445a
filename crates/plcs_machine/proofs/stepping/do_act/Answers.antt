-- An act is done, and the step goes on where only jumps come before the next place.
use Rattle.std.proofs.Common.{ℕ, ◌∙◌, List, ap, subst}
use Rattle.plcs_store.specs.declared.frame.Frame.{Frame}
use Rattle.plcs_store.specs.Configuration.{PlainConfiguration, plain_configuration, plain_place}
use Rattle.plcs_machine.specs.Fetched.{FetchesBy}
use Rattle.plcs_machine.specs.Private.PlainLed.{plain_act}
use Rattle.plcs_machine.proofs.DoneSteps.{act_done, act_fetches, act_settles}
use Rattle.plcs_machine.proofs.EndedSteps.{plain_writes}
use Rattle.plcs_machine.proofs.stepping.do_act.Goals as goal

pub next_place-landed-requires : goal.next_place-landed-requires
next_place-landed-requires g c =
    let code = g.C.CodeView.code c.args.code.now in
    let before = plain_configuration c.args.state.now in
    record { short = c.requires.short; settles = act_settles code before c.args.end.left c.args.address (plain_act c.args.act) c.requires.answered }

pub returns-clause-done : goal.returns-clause-done
returns-clause-done g c =
    let code = g.C.CodeView.code c.args.code.now in
    let before = plain_configuration c.args.state.now in
    let end = c.args.end in
    let landed = c.next_place-landed.result in
    let now = c.act_on.new.state in
    act_done code before end.from c.requires.at end.left c.args.address (plain_act c.args.act) landed c.next_place-landed.ensures.place c.requires.can
    (plain_writes before.output c.args.act) _ c.args.undo.now c.note.new.undo
    (ap (λ (frames : List Frame). let one : PlainConfiguration = record (plain_configuration now) { frames = frames } in one) c.set_place.ensures
    ∙ c.act_on.ensures.done (plain_place landed))
    (c.note.ensures ∙ c.act_on.ensures.noted)

pub returns-clause-counted : goal.returns-clause-counted
returns-clause-counted g c =
    let code = g.C.CodeView.code c.args.code.now in
    let before = plain_configuration c.args.state.now in
    let counts = g.W.Work.counts in
    subst (λ (n : ℕ). FetchesBy n (counts c.args.work.now) (counts c.next_place-landed.new.work))
    (act_fetches code before c.args.end.left c.args.address (plain_act c.args.act) c.requires.answered) c.next_place-landed.ensures.counted
