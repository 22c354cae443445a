use Rattle.template_tree.proofs.Reversals.ShownReversals.{revert_alike, turned_tree, whole_toggled}
use Rattle.template_tree.proofs.tree_laws.reverts_ignore_elision.Goals as goal

pub returns-clause-reverts : goal.returns-clause-reverts
returns-clause-reverts c = revert_alike

pub returns-clause-turns : goal.returns-clause-turns
returns-clause-turns c = λ tree path t. (turned_tree tree path t, whole_toggled path tree.items)
