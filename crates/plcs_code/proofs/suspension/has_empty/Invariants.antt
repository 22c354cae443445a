use Rattle.std.specs.Prelude.{◌≡◌, ◌≤◌, ◌-◌, drop, length}
use Rattle.plcs_code.specs.Pieces.{has_empty}
use Rattle.plcs_code.proofs.suspension.has_empty.Given as goal

abbrev pub decreases-loop-part : goal.decreases-loop-part
decreases-loop-part l = length l.node.label.parts - l.part

abbrev pub invariant-loop-part : goal.invariant-loop-part
invariant-loop-part l = record {
  left : has_empty (drop l.part l.node.label.parts) ≡ has_empty l.node.label.parts;
  within : l.part ≤ length l.node.label.parts;
}
