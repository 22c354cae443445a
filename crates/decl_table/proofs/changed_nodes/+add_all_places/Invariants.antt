use Rattle.std.proofs.Common.{◌≡◌, ◌+◌, ◌++◌, drop}
use Rattle.decl_table.specs.Private.NamePaths.{name_count}
use Rattle.decl_table.specs.Private.PlainNameNode.{name_forest, name_places}
use Rattle.decl_table.proofs.changed_nodes.+add_all_places.Given as goal

abbrev pub decreases-add_all_places : goal.decreases-add_all_places
decreases-add_all_places l = name_count l.node.now.inner + name_count l.node.now.inner + 1

abbrev pub decreases-add_places_of : goal.decreases-add_places_of
decreases-add_places_of l = name_count (name_forest l.nodes.now) + name_count (name_forest l.nodes.now)

abbrev pub invariant-add_places_of-loop-node : goal.invariant-add_places_of-loop-node
invariant-add_places_of-loop-node l =
    l.places ++ name_places (name_forest (drop l.node-index l.nodes)) ≡ l.fn.places ++ name_places (name_forest l.nodes)
