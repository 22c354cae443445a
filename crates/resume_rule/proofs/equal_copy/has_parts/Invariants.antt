use Rattle.std.specs.Prelude.{◌-◌, ◌≤◌, length}
use Rattle.resume_rule.proofs.ComparedLists.{AlikeBefore}
use Rattle.resume_rule.proofs.equal_copy.has_parts.Given as goal

abbrev pub invariant-loop-part : goal.invariant-loop-part
invariant-loop-part l = record {
  alike : AlikeBefore l.part l.node.label.parts l.kept;
  within : l.part ≤ length l.node.label.parts;
}

abbrev pub decreases-loop-part : goal.decreases-loop-part
decreases-loop-part l = length l.node.label.parts - l.part
