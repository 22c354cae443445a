use Rattle.std.specs.Prelude.{◌≡◌, ◌-◌, ◌≤◌, ◌++◌, drop, length}
use Rattle.template_tree.specs.Programs.PlainTree.{forest, nodes}
use Rattle.decl_table.specs.Due.{all_list_places, list_places}
use Rattle.decl_table.proofs.due_phrases.add_lists.Given as goal

abbrev pub decreases-loop-node : goal.decreases-loop-node
decreases-loop-node l = length (nodes l.procedure.inner) - l.k

abbrev pub invariant-loop-node : goal.invariant-loop-node
invariant-loop-node l = record {
  made :
      l.places ++ all_list_places (forest (drop l.k (nodes l.procedure.inner)))
      ≡ l.fn.places ++ (list_places l.procedure.label.slot 0 l.procedure.label.parts ++ all_list_places l.procedure.inner);
  within : l.k ≤ length (nodes l.procedure.inner);
}
