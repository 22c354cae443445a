use Rattle.std.proofs.Common.{ap, subst}
use Rattle.template_tree.specs.Edits.Receipt.{undone}
use Rattle.template_tree.specs.Programs.Tree.{IsTree}
use Rattle.template_tree.proofs.tree_laws.undo_stays_possible.Goals as goal

pub returns : goal.returns
returns c receipt back one other same room can =
    record { room = room; before = subst IsTree (ap (undone receipt back) same) can.before }
