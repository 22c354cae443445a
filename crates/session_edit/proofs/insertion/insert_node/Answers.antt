use Rattle.std.specs.Prelude.{refl}
use Rattle.std.proofs.Common.{sym, ◌∙◌}
use Rattle.template_tree.specs.Positions.Stop.{plain_stop}
use Rattle.session_edit.proofs.PutCommands.{insert_applied, insert_at_part, insert_refused}
use Rattle.session_edit.proofs.StopTests.{no_part}
use Rattle.session_edit.proofs.insertion.insert_node.Goals as goal

pub returns-then-is_some : goal.returns-then-is_some
returns-then-is_some c =
    (insert_at_part c.room_laws.ensures c.args.tree.now (plain_stop c.args.at.now) c.args.node c.requires.stop (sym c.is_some.ensures ∙ c.if-is_some.true), refl)

pub returns-in-Ok : goal.returns-in-Ok
returns-in-Ok c =
    insert_applied c.room_laws.ensures c.slot_edit_is_path_edit.ensures c.args.tree.now c.insert.new.self (plain_stop c.args.at.now) c.args.node c.in-Ok.receipt
    c.copy_stop.result c.requires.tree c.requires.stop (no_part c.args.at.now.part (sym c.is_some.ensures ∙ c.if-is_some.false))
    c.in-Ok.ensures.edited c.copy_stop.ensures

pub returns : goal.returns
returns c = (
  insert_refused c.room_laws.ensures c.args.tree.now (plain_stop c.args.at.now) c.args.node c.in-Err.fault c.requires.stop
      (no_part c.args.at.now.part (sym c.is_some.ensures ∙ c.if-is_some.false)) c.in-Err.ensures.refused c.in-Err.ensures.no_memory,
  c.in-Err.ensures.unchanged.1,
)
