use Rattle.std.proofs.Common.{◌+◌, drop}
use Rattle.decl_table.specs.Private.NamePaths.{name_count}
use Rattle.decl_table.specs.Private.PlainNameNode.{name_forest}
use Rattle.decl_table.proofs.AddedUses.{Leaves, of_nodes}
use Rattle.decl_table.proofs.uses.Uses.+note_node.Given as goal

abbrev pub decreases-note_node : goal.decreases-note_node
decreases-note_node l = name_count l.node.now.inner + name_count l.node.now.inner + 1

abbrev pub decreases-note_nodes : goal.decreases-note_nodes
decreases-note_nodes l = name_count (name_forest l.nodes.now) + name_count (name_forest l.nodes.now)

abbrev pub invariant-note_nodes-loop-node : goal.invariant-note_nodes-loop-node
invariant-note_nodes-loop-node l =
    Leaves (of_nodes (name_forest (drop l.node-index l.nodes))) (of_nodes (name_forest l.nodes)) l.fn.self.uses l.self.uses
