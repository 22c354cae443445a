use Rattle.template_tree.proofs.Reversals.RevertedTrees.{revert_is}
use Rattle.template_tree.proofs.tree_laws.receipts_revert_to_undone.Goals as goal

pub returns : goal.returns
returns c receipt back tree t can = revert_is tree receipt back t can
