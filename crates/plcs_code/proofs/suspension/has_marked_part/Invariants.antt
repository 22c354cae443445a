use Rattle.std.specs.Prelude.{◌≡◌, ◌≤◌, ◌-◌, drop, length}
use Rattle.plcs_code.specs.Pieces.{has_marked_part}
use Rattle.plcs_code.proofs.suspension.has_marked_part.Given as goal

abbrev pub decreases-loop-part : goal.decreases-loop-part
decreases-loop-part g l = length l.node.label.parts - l.part

abbrev pub invariant-loop-part : goal.invariant-loop-part
invariant-loop-part g l = record {
  left :
      has_marked_part (g.M.Marked.marks l.marks) l.node.label.slot l.part (drop l.part l.node.label.parts)
      ≡ has_marked_part (g.M.Marked.marks l.marks) l.node.label.slot 0 l.node.label.parts;
  within : l.part ≤ length l.node.label.parts;
}
