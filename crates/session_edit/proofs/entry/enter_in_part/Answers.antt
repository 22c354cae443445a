use Rattle.std.specs.Prelude.{Some}
use Rattle.plcs_grammar.specs.PlainPhrase.{plain_phrase}
use Rattle.template_tree.specs.Positions.Stop.{plain_stop}
use Rattle.session_edit.proofs.PartCommands.{enter_applied, enter_refused, part_stands}
use Rattle.session_edit.proofs.entry.enter_in_part.Goals as goal

pub onward-requires-clause-stop : goal.onward-requires-clause-stop
onward-requires-clause-stop c =
    part_stands c.room_laws.ensures c.slot_edit_is_path_edit.ensures c.args.tree.now c.set_phrase.new.self (plain_stop c.args.at.now) (Some (plain_phrase c.args.phrase)) c.in-Ok.receipt
    c.requires.tree c.requires.stop c.in-Ok.ensures.edited

pub returns-in-Ok : goal.returns-in-Ok
returns-in-Ok c =
    enter_applied c.room_laws.ensures c.args.tree.now c.set_phrase.new.self (plain_stop c.args.at.now) (plain_phrase c.args.phrase) c.in-Ok.receipt c.onward.result
    c.requires.stop c.in-Ok.ensures.edited c.onward.ensures.onward c.onward.ensures.stop

pub returns : goal.returns
returns c = (
  enter_refused c.room_laws.ensures c.args.tree.now (plain_stop c.args.at.now) (plain_phrase c.args.phrase) c.in-Err.fault c.requires.stop c.requires.part
      c.in-Err.ensures.refused.0 c.in-Err.ensures.refused.1,
  c.in-Err.ensures.unchanged.1,
)
