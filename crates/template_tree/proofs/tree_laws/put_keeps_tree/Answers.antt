use Rattle.template_tree.proofs.tree_laws.put_keeps_tree.Goals as goal
use Rattle.template_tree.proofs.Puts.PutTrees.{put_keeps_tree}

pub returns : goal.returns
returns c = put_keeps_tree
