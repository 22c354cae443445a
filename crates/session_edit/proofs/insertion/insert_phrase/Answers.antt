use Rattle.std.specs.Prelude.{refl}
use Rattle.std.proofs.Common.{sym, ◌∙◌}
use Rattle.plcs_grammar.specs.PlainPhrase.{plain_phrase}
use Rattle.template_tree.specs.Positions.Stop.{plain_stop}
use Rattle.session_edit.proofs.PartCommands.{insert_applied, insert_full, insert_refused}
use Rattle.session_edit.proofs.insertion.insert_phrase.Goals as goal

pub returns-in-Ok : goal.returns-in-Ok
returns-in-Ok c =
    insert_applied c.room_laws.ensures c.slot_edit_is_path_edit.ensures c.args.tree.now c.set_phrase.new.self (plain_stop c.args.at.now) (plain_phrase c.args.phrase) c.in-Ok.receipt
    c.copy_stop.result c.requires.tree c.requires.stop (sym c.if-takes.false ∙ c.takes.ensures) c.in-Ok.ensures.edited c.copy_stop.ensures

pub returns : goal.returns
returns c = (
  insert_refused c.room_laws.ensures c.args.tree.now (plain_stop c.args.at.now) (plain_phrase c.args.phrase) c.in-Err.fault c.requires.stop
      c.in-Err.ensures.refused.0 c.in-Err.ensures.refused.1,
  c.in-Err.ensures.unchanged.1,
)

pub returns-then-takes : goal.returns-then-takes
returns-then-takes c =
    (insert_full c.room_laws.ensures c.args.tree.now (plain_stop c.args.at.now) (plain_phrase c.args.phrase) c.requires.stop (sym c.if-takes.true ∙ c.takes.ensures), refl)
