use Rattle.std.proofs.Common.{[], ◌∷◌, ◌∙◌}
use Rattle.template_tree.proofs.NodeItems.{at_one}
use Rattle.template_tree.proofs.Trees.Counts.{counted_below, items_few}
use Rattle.template_tree.proofs.Trees.Subtrees.{subtree_at}
use Rattle.template_tree.proofs.node_laws.items_are_nodes.Goals as goal

pub returns-clause-few : goal.returns-clause-few
returns-clause-few c = items_few

pub returns-clause-found : goal.returns-clause-found
returns-clause-found c = at_one

pub returns-clause-fewer : goal.returns-clause-fewer
returns-clause-fewer c = λ items k item there. counted_below items (k ∷ []) item (at_one items k ∙ there)

pub returns-clause-subtrees : goal.returns-clause-subtrees
returns-clause-subtrees c = λ items k item there are. subtree_at items (k ∷ []) item are (at_one items k ∙ there)
