use Rattle.std.specs.Prelude.{◌-◌, ◌≤◌, length}
use Rattle.template_tree.specs.Checks.ProgramMaps.{items_in}
use Rattle.resume_rule.proofs.ComparedLists.{AlikeBefore}
use Rattle.resume_rule.proofs.equal_copy.has_items.Given as goal

abbrev pub invariant-loop-item : goal.invariant-loop-item
invariant-loop-item l = record {
  alike : AlikeBefore l.k (items_in l.decls.items l.procedure.0) l.kept;
  within : l.k ≤ length (items_in l.decls.items l.procedure.0);
}

abbrev pub decreases-loop-item : goal.decreases-loop-item
decreases-loop-item l = length (items_in l.decls.items l.procedure.0) - l.k
