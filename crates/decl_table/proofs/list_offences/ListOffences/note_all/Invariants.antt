use Rattle.std.specs.Prelude.{◌≡◌, ◌-◌, ◌≤◌, ◌++◌, [], drop, length}
use Rattle.template_tree.specs.Programs.PlainTree.{forest, nodes}
use Rattle.decl_table.specs.ListOffences.{list_offences}
use Rattle.decl_table.proofs.list_offences.ListOffences.note_all.Given as goal

abbrev pub decreases-loop-node : goal.decreases-loop-node
decreases-loop-node l = length (nodes l.procedure.inner) - l.k

abbrev pub invariant-loop-node : goal.invariant-loop-node
invariant-loop-node l = record {
  made :
      l.self-inside.list.items ++ list_offences l.fold (forest (drop l.k (nodes l.procedure.inner))) ≡ list_offences [] l.procedure.inner;
  within : l.k ≤ length (nodes l.procedure.inner);
}
