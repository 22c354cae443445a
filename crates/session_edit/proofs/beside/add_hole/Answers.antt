use Rattle.std.specs.Prelude.{ℕ, List, true}
use Rattle.std.proofs.Common.{sym, ◌∙◌, subst, ap}
use Rattle.template_tree.specs.Programs.PlainTree.{roomless_tree}
use Rattle.template_tree.specs.Positions.Stop.{plain_stop}
use Rattle.session_edit.specs.AppliedEdit.{IsAnswer}
use Rattle.session_edit.specs.Edited.{outcome_of_hole_beside}
use Rattle.session_edit.specs.Here.{enclosing_item}
use Rattle.session_edit.specs.Private.ShownPath.{IsShown}
use Rattle.session_edit.proofs.BesideCommands.{beside_is, shown_there}
use Rattle.session_edit.proofs.beside.add_hole.Goals as goal

pub add_beside-requires-clause-seen : goal.add_beside-requires-clause-seen
add_beside-requires-clause-seen c =
    subst (λ (path : List ℕ). IsShown c.args.tree.now.items path) (sym c.copy_path.ensures)
    (shown_there c.room_laws.ensures c.args.tree.now (plain_stop c.args.at.now) c.requires.stop)

pub returns : goal.returns
returns c =
    subst (λ outcome. IsAnswer true outcome c.args.tree.now c.add_beside.new.tree c.add_beside.result)
    (ap (λ (path : List ℕ). outcome_of_hole_beside (roomless_tree c.args.tree.now) c.args.side (enclosing_item (roomless_tree c.args.tree.now).items path)) c.copy_path.ensures
    ∙ sym (beside_is c.room_laws.ensures c.args.tree.now (plain_stop c.args.at.now) c.args.side c.requires.stop))
    c.add_beside.ensures
