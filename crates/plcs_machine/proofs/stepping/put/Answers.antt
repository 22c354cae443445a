-- What is written is the whole step: it stops where that is too long, and else goes on where only jumps come before the
-- next place.
use Rattle.std.proofs.Common.{ℕ, ◌<◌, ◌≡◌, ◌∙◌, List, refl, sym, ap, subst}
use Rattle.std.specs.Prelude.{Bool, Option, IsSome, length}
use Rattle.plcs_store.specs.declared.frame.Frame.{Frame}
use Rattle.plcs_store.specs.declared.undo.Undo.{Undo}
use Rattle.plcs_store.specs.Act.{Act}
use Rattle.plcs_store.specs.Configuration.{PlainConfiguration, plain_configuration, plain_place}
use Rattle.plcs_machine.specs.Exec.{FetchedAnswer}
use Rattle.plcs_machine.specs.Fetched.{FetchesBy}
use Rattle.plcs_machine.specs.Private.WalkedStep.{more_fetches, output_then, standing_at, with_output_if}
use Rattle.plcs_machine.proofs.CountedFetches.{fetches_nothing}
use Rattle.plcs_machine.proofs.DoneSteps.{act_fetches, act_settles}
use Rattle.plcs_machine.proofs.NotedActs.{some_frame, write_noted}
use Rattle.plcs_machine.proofs.WrittenSteps.{put_done, put_stopped, put_stops, put_writes}
use Rattle.plcs_machine.proofs.stepping.put.Goals as goal

pub next_place-requires : goal.next_place-requires
next_place-requires g c =
    let code = g.C.CodeView.code c.args.code.now in
    let before = plain_configuration c.args.state.now in
    let end = c.args.end in
    let output = output_then c.args.state.now c.args.skip c.args.count in
    let fits = sym c.write.ensures.fits ∙ c.if-write.true in
    let writes = put_writes code before end.left end.next c.args.skip c.args.count c.args.state.now.operands.values c.requires.answered fits in
    record {
      short = c.requires.short;
      settles =
          act_settles code before end.left end.next (Act.write output)
          (subst (λ (o : Option FetchedAnswer). IsSome o) writes c.requires.answered);
    }

pub set_place-requires : goal.set_place-requires
set_place-requires g c =
    let before = plain_configuration c.args.state.now in
    let output = output_then c.args.state.now c.args.skip c.args.count in
    let written : plain_configuration c.write.new.state ≡ record before { output = output } =
    c.write.ensures.becomes ∙ ap (λ (b : Bool). with_output_if b output before) c.if-write.true in
    record {
      some =
          subst (λ (d : PlainConfiguration). 0 < length d.frames) (sym written)
          (some_frame before.frames (plain_place c.args.end.from) c.requires.at);
    }

pub returns-then-write-clause-done : goal.returns-then-write-clause-done
returns-then-write-clause-done g c =
    let code = g.C.CodeView.code c.args.code.now in
    let before = plain_configuration c.args.state.now in
    let end = c.args.end in
    let fits = sym c.write.ensures.fits ∙ c.if-write.true in
    let output = output_then c.args.state.now c.args.skip c.args.count in
    let landed = c.next_place.result in
    let written : plain_configuration c.write.new.state ≡ record before { output = output } =
    c.write.ensures.becomes ∙ ap (λ (b : Bool). with_output_if b output before) c.if-write.true in
    put_done code before end.left end.next c.args.skip c.args.count c.args.state.now.operands.values c.written_stands.ensures end.from c.requires.at
    c.requires.answered fits landed c.next_place.ensures.place _ c.args.undo.now _
    (ap (λ (frames : List Frame). let d : PlainConfiguration = record (plain_configuration c.write.new.state) { frames = frames } in d) c.set_place.ensures
    ∙ ap (standing_at (plain_place landed)) written)
    (c.note.ensures
    ∙ ap (λ (bytes : List ℕ). Undo.Wrote end.from (length bytes)) c.as_slice-before.ensures.bytes
    ∙ write_noted before end.from c.requires.at output)

pub returns-then-write-clause-counted : goal.returns-then-write-clause-counted
returns-then-write-clause-counted g c =
    let code = g.C.CodeView.code c.args.code.now in
    let before = plain_configuration c.args.state.now in
    let end = c.args.end in
    let output = output_then c.args.state.now c.args.skip c.args.count in
    let fits = sym c.write.ensures.fits ∙ c.if-write.true in
    let counts = g.W.Work.counts in
    let writes = put_writes code before end.left end.next c.args.skip c.args.count c.args.state.now.operands.values c.requires.answered fits in
    let whole = subst (λ (o : Option FetchedAnswer). IsSome o) writes c.requires.answered in
    subst (λ (n : ℕ). FetchesBy n (counts c.args.work.now) (counts c.next_place.new.work))
    (act_fetches code before end.left end.next (Act.write output) whole ∙ ap (λ (o : Option FetchedAnswer). more_fetches o) (sym writes))
    c.next_place.ensures.counted

pub returns-clause-done : goal.returns-clause-done
returns-clause-done g c =
    let code = g.C.CodeView.code c.args.code.now in
    let before = plain_configuration c.args.state.now in
    let end = c.args.end in
    let output = output_then c.args.state.now c.args.skip c.args.count in
    put_stopped code before end.left end.next c.args.skip c.args.count c.args.state.now.operands.values c.requires.answered
    (sym c.write.ensures.fits ∙ c.if-write.false) (plain_configuration c.write.new.state) c.args.undo.now c.args.undo.now
    (c.write.ensures.becomes ∙ ap (λ (b : Bool). with_output_if b output before) c.if-write.false) refl

pub returns-clause-counted : goal.returns-clause-counted
returns-clause-counted g c =
    let code = g.C.CodeView.code c.args.code.now in
    let before = plain_configuration c.args.state.now in
    let end = c.args.end in
    let counts = g.W.Work.counts in
    let stops = put_stops code before end.left end.next c.args.skip c.args.count c.args.state.now.operands.values c.requires.answered
    (sym c.write.ensures.fits ∙ c.if-write.false) in
    subst (λ (o : Option FetchedAnswer). FetchesBy (more_fetches o) (counts c.args.work.now) (counts c.args.work.now)) (sym stops)
    (fetches_nothing (counts c.args.work.now))
