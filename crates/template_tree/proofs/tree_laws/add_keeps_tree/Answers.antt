use Rattle.template_tree.proofs.Lists.ListTrees.{add_keeps_tree}
use Rattle.template_tree.proofs.tree_laws.add_keeps_tree.Goals as goal

pub returns : goal.returns
returns c = add_keeps_tree
