use Rattle.std.specs.Prelude.{refl}
use Rattle.std.proofs.Common.{sym, ◌∙◌}
use Rattle.template_tree.specs.Positions.Stop.{plain_stop}
use Rattle.session_edit.proofs.PutCommands.{fill_applied, fill_at_part, fill_refused, fill_stands}
use Rattle.session_edit.proofs.StopTests.{no_part}
use Rattle.session_edit.proofs.entry.fill.Goals as goal

pub returns-then-is_some : goal.returns-then-is_some
returns-then-is_some c =
    (fill_at_part c.room_laws.ensures c.args.tree.now (plain_stop c.args.at.now) c.args.template c.requires.stop (sym c.is_some.ensures ∙ c.if-is_some.true), refl)

pub onward-requires-clause-stop : goal.onward-requires-clause-stop
onward-requires-clause-stop c =
    fill_stands c.room_laws.ensures c.slot_edit_is_path_edit.ensures c.args.tree.now c.fill.new.self (plain_stop c.args.at.now) c.args.template c.in-Ok.receipt
    c.requires.tree c.requires.stop (no_part c.args.at.now.part (sym c.is_some.ensures ∙ c.if-is_some.false)) c.in-Ok.ensures.edited

pub returns-in-Ok : goal.returns-in-Ok
returns-in-Ok c =
    fill_applied c.room_laws.ensures c.args.tree.now c.fill.new.self (plain_stop c.args.at.now) c.args.template c.in-Ok.receipt c.onward.result
    c.requires.stop (no_part c.args.at.now.part (sym c.is_some.ensures ∙ c.if-is_some.false)) c.in-Ok.ensures.edited c.onward.ensures.onward c.onward.ensures.stop

pub returns-in-Err : goal.returns-in-Err
returns-in-Err c = (
  fill_refused c.room_laws.ensures c.args.tree.now (plain_stop c.args.at.now) c.args.template c.in-Err.fault c.requires.stop
      (no_part c.args.at.now.part (sym c.is_some.ensures ∙ c.if-is_some.false)) c.in-Err.ensures.refused,
  c.in-Err.ensures.unchanged,
)
