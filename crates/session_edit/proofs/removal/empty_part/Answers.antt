use Rattle.std.specs.Prelude.{refl}
use Rattle.std.proofs.Common.{sym, ◌∙◌}
use Rattle.template_tree.specs.Positions.Stop.{plain_stop}
use Rattle.session_edit.proofs.PartCommands.{empties_there, empty_applied, empty_missing}
use Rattle.session_edit.proofs.removal.empty_part.Goals as goal

pub returns-in-Ok : goal.returns-in-Ok
returns-in-Ok c =
    empty_applied c.room_laws.ensures c.slot_edit_is_path_edit.ensures c.args.tree.now c.set_phrase.new.self (plain_stop c.args.at.now) c.in-Ok.receipt
    c.copy_stop.result c.requires.tree c.requires.stop (sym c.if-not-takes.false ∙ c.takes.ensures) c.in-Ok.ensures.edited c.copy_stop.ensures

pub returns : goal.returns
returns c =
    absurd (c.in-Err.ensures.refused.1 (empties_there c.room_laws.ensures c.args.tree.now (plain_stop c.args.at.now) c.requires.stop c.requires.part))

pub returns-then-not-takes : goal.returns-then-not-takes
returns-then-not-takes c =
    (empty_missing c.room_laws.ensures c.args.tree.now (plain_stop c.args.at.now) c.requires.stop c.requires.part (sym c.if-not-takes.true ∙ c.takes.ensures), refl)
