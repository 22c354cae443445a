use Rattle.template_tree.specs.Programs.Slots.{count}
use Rattle.unparse_layout.proofs.node_layout.NodeLayout.+plan.Given as goal

abbrev pub decreases-plan : goal.decreases-plan
decreases-plan l = count l.node.now.inner
