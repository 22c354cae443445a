use Rattle.std.proofs.Common.{sym, subst}
use Rattle.template_tree.specs.Edits.Reversal.{CanRevert, IsUndoneIn}
use Rattle.template_tree.specs.Programs.Tree.{IsTree}
use Rattle.template_tree.proofs.Reversals.RevertedTrees.{reverted_alike}
use Rattle.template_tree.proofs.Reversals.RevertibleEdits.{and_some, some_with_room}
use Rattle.template_tree.proofs.Room.RoomlessTrees.{tree_with_room, tree_without_room}
use Rattle.template_tree.proofs.tree.Tree.revert.Goals as goal

pub reserve_back-requires : goal.reserve_back-requires
reserve_back-requires c =
    let tree = c.args.self.now in
    let receipt = c.args.receipt in
    record {
      there =
          some_with_room tree.items receipt.path
          (and_some _ (IsUndoneIn receipt.change.slot.0 receipt.undoing c.args.back) c.requires.fits.there);
    }

pub revert_within-requires : goal.revert_within-requires
revert_within-requires c =
    let tree = c.args.self.now in
    let same = sym c.reserve_back.ensures.same in
    record {
      tree = tree_with_room c.reserve_back.new.self (subst IsTree same (tree_without_room tree c.requires.tree));
      fits = subst (CanRevert c.args.receipt c.args.back) same c.requires.fits;
      room = c.in_default.ensures.room;
    }

pub returns-clause-reverted : goal.returns-clause-reverted
returns-clause-reverted c =
    reverted_alike c.args.receipt c.args.back c.reserve_back.new.self c.args.self.now c.revert_within.new.self c.revert_within.result.0
    c.revert_within.result.1 c.reserve_back.ensures.same c.revert_within.ensures

pub returns-clause-tree : goal.returns-clause-tree
returns-clause-tree c = c.revert_within.ensures.tree
