use Rattle.template_tree.proofs.tree_laws.part_keeps_tree.Goals as goal
use Rattle.template_tree.proofs.Parts.KeptTrees.{part_keeps_tree}

pub returns : goal.returns
returns c = part_keeps_tree
