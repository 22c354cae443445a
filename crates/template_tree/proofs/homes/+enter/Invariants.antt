use Rattle.std.proofs.Common.{◌+◌}
use Rattle.template_tree.specs.Programs.PlainTree.{forest}
use Rattle.template_tree.specs.Private.Weight.{forest_weight, weight}
use Rattle.template_tree.proofs.homes.+enter.Given as goal

abbrev pub decreases-enter_nodes : goal.decreases-enter_nodes
decreases-enter_nodes l = forest_weight (forest l.nodes.now) + 1

abbrev pub decreases-enter_inside : goal.decreases-enter_inside
decreases-enter_inside l = weight l.node.now
