use Rattle.template_tree.proofs.tree_laws.set_part_keeps_tree.Goals as goal
use Rattle.template_tree.proofs.Parts.KeptTrees.{kept_tree, part_relabels}
use Rattle.template_tree.proofs.Trees.Subtrees.{subtree_at}
use Rattle.template_tree.specs.Programs.Part.{with_part}

pub returns : goal.returns
returns c tree path node part place t there takes place_is =
    kept_tree tree path node (with_part part place node) t there
    (part_relabels node part place (subtree_at tree.items path node t.program.sound there) takes place_is)
