use Rattle.std.proofs.Common.{◌≡◌, ◌+◌, List, ℕ, drop}
use Rattle.std.specs.Prelude.{◌||◌}
use Rattle.decl_table.specs.Private.NamePaths.{name_count}
use Rattle.decl_table.specs.Private.NameTests.{bound_has, has_name}
use Rattle.decl_table.specs.Private.PlainNameNode.{name_forest}
use Rattle.decl_table.proofs.changed_nodes.+add_all_bound.Given as goal

abbrev pub decreases-add_all_bound : goal.decreases-add_all_bound
decreases-add_all_bound l = name_count l.node.now.inner + name_count l.node.now.inner + 1

abbrev pub decreases-add_bound_in : goal.decreases-add_bound_in
decreases-add_bound_in l = name_count (name_forest l.nodes.now) + name_count (name_forest l.nodes.now)

abbrev pub invariant-add_bound_in-loop-node : goal.invariant-add_bound_in-loop-node
invariant-add_bound_in-loop-node l =
    (other : List ℕ) → (has_name l.names other || bound_has (name_forest (drop l.node-index l.nodes)) other)
    ≡ (has_name l.fn.names other || bound_has (name_forest l.nodes) other)
