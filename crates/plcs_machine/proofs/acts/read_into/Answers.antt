-- A value that is read is stored, and so many bytes are taken.
use Rattle.std.proofs.Common.{ℕ, ◌+◌, ◌<◌, ◌∙◌, List, sym, ap, subst}
use Rattle.std.specs.Prelude.{length}
use Rattle.plcs_store.specs.declared.frame.Frame.{Frame}
use Rattle.plcs_store.specs.declared.undo.Undo.{Undo}
use Rattle.plcs_store.specs.Configuration.{PlainConfiguration, plain_configuration, plain_place}
use Rattle.plcs_machine.specs.Private.WalkedStep.{standing_at}
use Rattle.plcs_machine.proofs.NotedActs.{read_noted, some_frame, some_stored}
use Rattle.plcs_machine.proofs.acts.read_into.Goals as goal

pub returns-clause-done : goal.returns-clause-done
returns-clause-done c =
    λ next.
    ap (λ (one : PlainConfiguration). standing_at next (record one { taken = one.taken + c.args.count })) c.put_value-cell.ensures.set

pub returns-clause-noted : goal.returns-clause-noted
returns-clause-noted c =
    let before = plain_configuration c.args.state.now in
    ap (λ (taken : ℕ). Undo.Read c.args.place c.args.location c.put_value-cell.result taken)
    (ap (λ (one : PlainConfiguration). one.taken) c.put_value-cell.ensures.set)
    ∙ read_noted before c.args.place c.requires.at c.args.location c.args.value c.args.count c.put_value-cell.result c.put_value-cell.ensures.before

pub returns-clause-some : goal.returns-clause-some
returns-clause-some c =
    let before = plain_configuration c.args.state.now in
    subst (λ (frames : List Frame). 0 < length frames) (sym (ap (λ (one : PlainConfiguration). one.frames) c.put_value-cell.ensures.set))
    (some_stored c.args.location c.args.value before.frames (some_frame before.frames (plain_place c.args.place) c.requires.at))
