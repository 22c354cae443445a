use Rattle.template_tree.proofs.Lists.ListTrees.{drop_keeps_tree}
use Rattle.template_tree.proofs.tree_laws.drop_keeps_tree.Goals as goal

pub returns : goal.returns
returns c = drop_keeps_tree
