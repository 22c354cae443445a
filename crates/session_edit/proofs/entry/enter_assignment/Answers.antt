use Rattle.plcs_grammar.specs.PlainPhrase.{plain_phrase}
use Rattle.template_tree.specs.Positions.Stop.{plain_stop}
use Rattle.session_edit.proofs.PutCommands.{assign_applied, assign_refused, assign_stands}
use Rattle.session_edit.proofs.entry.enter_assignment.Goals as goal

pub onward-requires-clause-stop : goal.onward-requires-clause-stop
onward-requires-clause-stop c =
    assign_stands c.room_laws.ensures c.slot_edit_is_path_edit.ensures c.args.tree.now c.fill_assign.new.self (plain_stop c.args.at.now) (plain_phrase c.args.phrase) c.in-Ok.receipt
    c.requires.tree c.requires.stop c.requires.node c.in-Ok.ensures.edited

pub returns-in-Ok : goal.returns-in-Ok
returns-in-Ok c =
    assign_applied c.room_laws.ensures c.args.tree.now c.fill_assign.new.self (plain_stop c.args.at.now) (plain_phrase c.args.phrase) c.in-Ok.receipt c.onward.result
    c.requires.stop c.requires.node c.in-Ok.ensures.edited c.onward.ensures.onward c.onward.ensures.stop

pub returns : goal.returns
returns c = (
  assign_refused c.room_laws.ensures c.args.tree.now (plain_stop c.args.at.now) (plain_phrase c.args.phrase) c.in-Err.fault c.requires.stop c.requires.node c.in-Err.ensures.refused,
  c.in-Err.ensures.unchanged.1,
)
