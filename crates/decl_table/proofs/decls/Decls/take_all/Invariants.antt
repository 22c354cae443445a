use Rattle.std.proofs.Common.{◌≤◌, drop, length}
use Rattle.template_tree.specs.Programs.PlainTree.{forest, nodes}
use Rattle.decl_table.specs.Private.DeclsView.{IsRead}
use Rattle.decl_table.proofs.decls.Decls.take_all.Given as goal

abbrev pub decreases-loop-k : goal.decreases-loop-k
decreases-loop-k l = l.k

abbrev pub invariant-loop-k : goal.invariant-loop-k
invariant-loop-k l = record {
  read : IsRead l.self (forest (drop l.k (nodes l.tree.items)));
  within : l.k ≤ length (nodes l.tree.items);
}
