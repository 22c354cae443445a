use Rattle.std.specs.Prelude.{◌≡◌, ◌≤◌, ◌-◌, ◌++◌, drop, length}
use Rattle.template_tree.specs.Checks.ProgramMaps.{items_in}
use Rattle.suspend_state.proofs.kept_copy.items_of.Given as goal

abbrev pub decreases-loop-item : goal.decreases-loop-item
decreases-loop-item l = length (items_in l.decls.items l.procedure.0) - l.k

abbrev pub invariant-loop-item : goal.invariant-loop-item
invariant-loop-item l = record {
  left : l.items.items ++ drop l.k (items_in l.decls.items l.procedure.0) ≡ items_in l.decls.items l.procedure.0;
  within : l.k ≤ length (items_in l.decls.items l.procedure.0);
}
