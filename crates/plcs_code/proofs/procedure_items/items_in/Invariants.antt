use Rattle.std.specs.Prelude.{◌≡◌, ◌≤◌, ◌-◌, ◌++◌, drop, length}
use Rattle.template_tree.specs.Checks.ProgramMaps.{items_in}
use Rattle.plcs_code.proofs.procedure_items.items_in.Given as goal

abbrev pub decreases-loop-item : goal.decreases-loop-item
decreases-loop-item g l = length (items_in (g.D.Scope.items l.scope) l.slot.0) - l.k

abbrev pub invariant-loop-item : goal.invariant-loop-item
invariant-loop-item g l = record {
  left : l.items.items ++ drop l.k (items_in (g.D.Scope.items l.scope) l.slot.0) ≡ items_in (g.D.Scope.items l.scope) l.slot.0;
  within : l.k ≤ length (items_in (g.D.Scope.items l.scope) l.slot.0);
}
