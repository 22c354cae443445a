use Rattle.std.proofs.Common.{sym, ◌∙◌}
use Rattle.template_tree.specs.Positions.Stop.{plain_stop}
use Rattle.session_edit.proofs.PutCommands.{take_applied, take_refused}
use Rattle.session_edit.proofs.StopTests.{no_part}
use Rattle.session_edit.proofs.removal.take_out.Goals as goal

pub returns-in-Ok : goal.returns-in-Ok
returns-in-Ok c =
    take_applied c.room_laws.ensures c.slot_edit_is_path_edit.ensures c.args.tree.now c.take.new.self (plain_stop c.args.at.now) c.in-Ok.node c.in-Ok.receipt
    c.copy_stop.result c.requires.tree c.requires.stop (no_part c.args.at.now.part (sym c.is_some.ensures ∙ c.if-is_some.false))
    c.in-Ok.ensures.taken c.in-Ok.ensures.edited c.in-Ok.ensures.subtree c.copy_stop.ensures

pub returns-in-Err : goal.returns-in-Err
returns-in-Err c = (
  take_refused c.room_laws.ensures c.args.tree.now (plain_stop c.args.at.now) c.in-Err.fault c.requires.stop
      (no_part c.args.at.now.part (sym c.is_some.ensures ∙ c.if-is_some.false)) c.in-Err.ensures.refused.0 c.in-Err.ensures.refused.1,
  c.in-Err.ensures.unchanged,
)
