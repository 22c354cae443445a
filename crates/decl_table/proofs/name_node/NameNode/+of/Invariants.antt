use Rattle.std.specs.Prelude.{◌≡◌, ◌+◌, ◌≤◌, ◌-◌, drop, length}
use Rattle.template_tree.specs.Programs.PlainTree.{nodes}
use Rattle.template_tree.specs.Programs.Slots.{count}
use Rattle.decl_table.specs.Names.{names_of}
use Rattle.decl_table.proofs.MadeNames.{IsMade}
use Rattle.decl_table.proofs.name_node.NameNode.+of.Given as goal

abbrev pub decreases-of : goal.decreases-of
decreases-of l = count l.node.now.inner + count l.node.now.inner + 1

abbrev pub decreases-push_inside : goal.decreases-push_inside
decreases-push_inside l = count l.node.now.inner + count l.node.now.inner

abbrev pub decreases-push_inside-loop-child : goal.decreases-push_inside-loop-child
decreases-push_inside-loop-child l = length (nodes l.node.inner) - l.k

abbrev pub invariant-push_inside-loop-child : goal.invariant-push_inside-loop-child
invariant-push_inside-loop-child l = record {
  made : IsMade (names_of l.node.inner) l.self.inner (drop l.k (nodes l.node.inner));
  label : l.self.label ≡ l.fn.self.label;
  within : l.k ≤ length (nodes l.node.inner);
}
