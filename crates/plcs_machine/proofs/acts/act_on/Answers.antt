-- Each act is done and recorded as it is told.
use Rattle.std.proofs.Common.{◌<◌, ◌≡◌, ◌∙◌, List, sym, ap, subst}
use Rattle.std.specs.Prelude.{Option, Some, is_some, length}
use Rattle.template_tree.specs.Positions.Place.{PlainPlace}
use Rattle.plcs_store.specs.declared.cell.Cell.{Cell}
use Rattle.plcs_store.specs.declared.frame.Frame.{Frame}
use Rattle.plcs_store.specs.declared.kept_loop.KeptLoop.{KeptLoop}
use Rattle.plcs_store.specs.Act.{HasLoopRoom, done, with_loop, with_newest, with_value_stored, without_loop_at}
use Rattle.plcs_store.specs.CellAt.{newest}
use Rattle.plcs_store.specs.Configuration.{PlainConfiguration, plain_configuration, plain_place}
use Rattle.plcs_store.specs.Undone.{loop_at, undo_of}
use Rattle.plcs_machine.specs.declared.step_act.StepAct.{StepAct}
use Rattle.plcs_machine.specs.Private.DoableLead.{ActsOn}
use Rattle.plcs_machine.specs.Private.PlainLed.{plain_act}
use Rattle.plcs_machine.specs.Private.WalkedStep.{standing_at}
use Rattle.plcs_machine.proofs.NotedActs.{enter_noted, finish_noted, some_changed, some_frame, some_stored, store_noted, stored_loop_at, stored_room}
use Rattle.plcs_machine.proofs.acts.act_on.Goals as goal

pub put_value-cell-requires : goal.put_value-cell-requires
put_value-cell-requires c =
    let before = plain_configuration c.args.state.now in
    let can = subst (λ (act : StepAct). ActsOn before.frames (plain_act act)) c.in-Store.is c.requires.can in
    record { there = can }

pub put_value-cell-requires-in-Enter : goal.put_value-cell-requires-in-Enter
put_value-cell-requires-in-Enter c =
    let before = plain_configuration c.args.state.now in
    let can = subst (λ (act : StepAct). ActsOn before.frames (plain_act act)) c.in-Enter.is c.requires.can in
    record { there = can.0 }

pub put_value-cell-requires-in-Finish : goal.put_value-cell-requires-in-Finish
put_value-cell-requires-in-Finish c =
    let before = plain_configuration c.args.state.now in
    let can = subst (λ (act : StepAct). ActsOn before.frames (plain_act act)) c.in-Finish.is c.requires.can in
    record { there = can.0 }

pub returns-in-Store-clause-done : goal.returns-in-Store-clause-done
returns-in-Store-clause-done c =
    let before = plain_configuration c.args.state.now in
    let told : (next : PlainPlace) → done (plain_act (StepAct.Store c.in-Store.location c.in-Store.value)) next before ≡ done (plain_act c.args.act) next before =
    λ next. ap (λ (act : StepAct). done (plain_act act) next before) (sym c.in-Store.is) in
    λ next. ap (standing_at next) c.put_value-cell.ensures.set ∙ told next

pub returns-in-Store-clause-noted : goal.returns-in-Store-clause-noted
returns-in-Store-clause-noted c =
    let before = plain_configuration c.args.state.now in
    store_noted before c.args.place c.requires.at c.in-Store.location c.in-Store.value c.put_value-cell.result c.put_value-cell.ensures.before
    ∙ ap (λ (act : StepAct). undo_of (plain_act act) before) (sym c.in-Store.is)

pub returns-in-Store-clause-some : goal.returns-in-Store-clause-some
returns-in-Store-clause-some c =
    let before = plain_configuration c.args.state.now in
    let some = some_frame before.frames (plain_place c.args.place) c.requires.at in
    let frames_are : c.put_value-cell.new.state.frames ≡ with_value_stored c.in-Store.location c.in-Store.value before.frames =
    ap (λ (one : PlainConfiguration). one.frames) c.put_value-cell.ensures.set in
    subst (λ (frames : List Frame). 0 < length frames) (sym frames_are) (some_stored c.in-Store.location c.in-Store.value before.frames some)

pub push_loop-requires : goal.push_loop-requires
push_loop-requires c =
    let before = plain_configuration c.args.state.now in
    let some = some_frame before.frames (plain_place c.args.place) c.requires.at in
    let can = subst (λ (act : StepAct). ActsOn before.frames (plain_act act)) c.in-Enter.is c.requires.can in
    let frames_are : c.put_value-cell-in-Enter.new.state.frames ≡ with_value_stored c.in-Enter.location c.in-Enter.value before.frames =
    ap (λ (one : PlainConfiguration). one.frames) c.put_value-cell-in-Enter.ensures.set in
    record {
      some = subst (λ (frames : List Frame). 0 < length frames) (sym frames_are) (some_stored c.in-Enter.location c.in-Enter.value before.frames some);
      room =
          subst (λ (frames : List Frame). HasLoopRoom frames) (sym frames_are)
          (stored_room c.in-Enter.location (Cell.Held c.in-Enter.value) before.frames can.1);
    }

pub returns-in-Enter-clause-done : goal.returns-in-Enter-clause-done
returns-in-Enter-clause-done c =
    let before = plain_configuration c.args.state.now in
    let told : (next : PlainPlace) → done (plain_act (StepAct.Enter c.in-Enter.location c.in-Enter.value c.in-Enter.kept)) next before ≡ done (plain_act c.args.act) next before =
    λ next. ap (λ (act : StepAct). done (plain_act act) next before) (sym c.in-Enter.is) in
    λ next.
    ap (λ (frames : List Frame). let one : PlainConfiguration = record (plain_configuration c.put_value-cell-in-Enter.new.state) { frames = frames } in standing_at next one)
    c.push_loop.ensures
    ∙ ap (λ (one : PlainConfiguration). standing_at next (record one { frames = with_newest (with_loop c.in-Enter.kept) one.frames })) c.put_value-cell-in-Enter.ensures.set
    ∙ told next

pub returns-in-Enter-clause-noted : goal.returns-in-Enter-clause-noted
returns-in-Enter-clause-noted c =
    let before = plain_configuration c.args.state.now in
    enter_noted before c.args.place c.requires.at c.in-Enter.location c.in-Enter.value c.in-Enter.kept c.put_value-cell-in-Enter.result c.put_value-cell-in-Enter.ensures.before
    ∙ ap (λ (act : StepAct). undo_of (plain_act act) before) (sym c.in-Enter.is)

pub returns-in-Enter-clause-some : goal.returns-in-Enter-clause-some
returns-in-Enter-clause-some c =
    let before = plain_configuration c.args.state.now in
    let some = some_frame before.frames (plain_place c.args.place) c.requires.at in
    let frames_are : c.put_value-cell-in-Enter.new.state.frames ≡ with_value_stored c.in-Enter.location c.in-Enter.value before.frames =
    ap (λ (one : PlainConfiguration). one.frames) c.put_value-cell-in-Enter.ensures.set in
    let stored = subst (λ (frames : List Frame). 0 < length frames) (sym frames_are) (some_stored c.in-Enter.location c.in-Enter.value before.frames some) in
    subst (λ (frames : List Frame). 0 < length frames) (sym c.push_loop.ensures)
    (some_changed (newest c.put_value-cell-in-Enter.new.state.frames) (with_loop c.in-Enter.kept) c.put_value-cell-in-Enter.new.state.frames stored)

pub take_loop-kept-requires : goal.take_loop-kept-requires
take_loop-kept-requires c =
    let before = plain_configuration c.args.state.now in
    let can = subst (λ (act : StepAct). ActsOn before.frames (plain_act act)) c.in-Finish.is c.requires.can in
    let frames_are : c.put_value-cell-in-Finish.new.state.frames ≡ with_value_stored c.in-Finish.location c.in-Finish.value before.frames =
    ap (λ (one : PlainConfiguration). one.frames) c.put_value-cell-in-Finish.ensures.set in
    let same : loop_at c.in-Finish.number c.put_value-cell-in-Finish.new.state.frames ≡ loop_at c.in-Finish.number before.frames =
    ap (loop_at c.in-Finish.number) frames_are
    ∙ stored_loop_at c.in-Finish.number c.in-Finish.location (Cell.Held c.in-Finish.value) before.frames in
    record { there = ap (λ (o : Option KeptLoop). is_some o) same ∙ can.1 }

pub returns-in-Finish-clause-done : goal.returns-in-Finish-clause-done
returns-in-Finish-clause-done c =
    let before = plain_configuration c.args.state.now in
    let told : (next : PlainPlace) → done (plain_act (StepAct.Finish c.in-Finish.location c.in-Finish.value c.in-Finish.number)) next before ≡ done (plain_act c.args.act) next before =
    λ next. ap (λ (act : StepAct). done (plain_act act) next before) (sym c.in-Finish.is) in
    λ next.
    ap (λ (frames : List Frame). let one : PlainConfiguration = record (plain_configuration c.put_value-cell-in-Finish.new.state) { frames = frames } in standing_at next one)
    c.take_loop-kept.ensures.left
    ∙ ap (λ (one : PlainConfiguration). standing_at next (record one { frames = with_newest (without_loop_at c.in-Finish.number) one.frames })) c.put_value-cell-in-Finish.ensures.set
    ∙ told next

pub returns-in-Finish-clause-noted : goal.returns-in-Finish-clause-noted
returns-in-Finish-clause-noted c =
    let before = plain_configuration c.args.state.now in
    let frames_are : c.put_value-cell-in-Finish.new.state.frames ≡ with_value_stored c.in-Finish.location c.in-Finish.value before.frames =
    ap (λ (one : PlainConfiguration). one.frames) c.put_value-cell-in-Finish.ensures.set in
    let its : loop_at c.in-Finish.number before.frames ≡ Some c.take_loop-kept.result =
    sym (ap (loop_at c.in-Finish.number) frames_are
    ∙ stored_loop_at c.in-Finish.number c.in-Finish.location (Cell.Held c.in-Finish.value) before.frames) ∙ c.take_loop-kept.ensures.taken in
    finish_noted before c.args.place c.requires.at c.in-Finish.location c.in-Finish.value c.in-Finish.number c.put_value-cell-in-Finish.result c.take_loop-kept.result
    c.put_value-cell-in-Finish.ensures.before its
    ∙ ap (λ (act : StepAct). undo_of (plain_act act) before) (sym c.in-Finish.is)

pub returns-in-Finish-clause-some : goal.returns-in-Finish-clause-some
returns-in-Finish-clause-some c =
    let before = plain_configuration c.args.state.now in
    let some = some_frame before.frames (plain_place c.args.place) c.requires.at in
    let frames_are : c.put_value-cell-in-Finish.new.state.frames ≡ with_value_stored c.in-Finish.location c.in-Finish.value before.frames =
    ap (λ (one : PlainConfiguration). one.frames) c.put_value-cell-in-Finish.ensures.set in
    let stored = subst (λ (frames : List Frame). 0 < length frames) (sym frames_are) (some_stored c.in-Finish.location c.in-Finish.value before.frames some) in
    subst (λ (frames : List Frame). 0 < length frames) (sym c.take_loop-kept.ensures.left)
    (some_changed (newest c.put_value-cell-in-Finish.new.state.frames) (without_loop_at c.in-Finish.number) c.put_value-cell-in-Finish.new.state.frames stored)
