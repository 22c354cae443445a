use Rattle.std.specs.Prelude.{◌≡◌, ◌≤◌, ◌-◌, drop, length}
use Rattle.template_tree.specs.Programs.PlainTree.{nodes}
use Rattle.decl_table.specs.Names.{names_of}
use Rattle.decl_table.proofs.MadeNames.{IsMade}
use Rattle.decl_table.proofs.name_node.NameNode.push_items.Given as goal

abbrev pub decreases-loop-item : goal.decreases-loop-item
decreases-loop-item l = length (nodes l.tree.items) - l.k

abbrev pub invariant-loop-item : goal.invariant-loop-item
invariant-loop-item l = record {
  made : IsMade (names_of l.tree.items) l.self.inner (drop l.k (nodes l.tree.items));
  label : l.self.label ≡ l.initial.self.label;
  within : l.k ≤ length (nodes l.tree.items);
}
