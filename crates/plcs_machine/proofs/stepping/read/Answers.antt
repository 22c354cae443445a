-- What is read is stored, and the step goes on where only jumps come before the next place.
use Rattle.std.proofs.Common.{ℕ, ◌∙◌, List, ap, subst}
use Rattle.plcs_store.specs.declared.frame.Frame.{Frame}
use Rattle.plcs_store.specs.Act.{Act}
use Rattle.plcs_store.specs.Configuration.{PlainConfiguration, plain_configuration, plain_place}
use Rattle.plcs_machine.specs.Fetched.{FetchesBy}
use Rattle.plcs_machine.proofs.DoneSteps.{act_done, act_fetches, act_settles}
use Rattle.plcs_machine.proofs.stepping.read.Goals as goal

pub next_place-landed-requires : goal.next_place-landed-requires
next_place-landed-requires g c =
    let code = g.C.CodeView.code c.args.code.now in
    let before = plain_configuration c.args.state.now in
    let act = Act.read c.args.location c.args.value c.args.count in
    record { short = c.requires.short; settles = act_settles code before c.args.end.left c.args.end.next act c.requires.answered }

pub returns-clause-done : goal.returns-clause-done
returns-clause-done g c =
    let code = g.C.CodeView.code c.args.code.now in
    let before = plain_configuration c.args.state.now in
    let end = c.args.end in
    let act = Act.read c.args.location c.args.value c.args.count in
    let landed = c.next_place-landed.result in
    let now = c.read_into.new.state in
    act_done code before end.from c.requires.at end.left end.next act landed c.next_place-landed.ensures.place c.requires.there tt _
    c.args.undo.now c.note.new.undo
    (ap (λ (frames : List Frame). let one : PlainConfiguration = record (plain_configuration now) { frames = frames } in one) c.set_place.ensures
    ∙ c.read_into.ensures.done (plain_place landed))
    (c.note.ensures ∙ c.read_into.ensures.noted)

pub returns-clause-counted : goal.returns-clause-counted
returns-clause-counted g c =
    let code = g.C.CodeView.code c.args.code.now in
    let before = plain_configuration c.args.state.now in
    let act = Act.read c.args.location c.args.value c.args.count in
    let counts = g.W.Work.counts in
    subst (λ (n : ℕ). FetchesBy n (counts c.args.work.now) (counts c.next_place-landed.new.work))
    (act_fetches code before c.args.end.left c.args.end.next act c.requires.answered) c.next_place-landed.ensures.counted
