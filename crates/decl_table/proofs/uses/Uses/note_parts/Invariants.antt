use Rattle.std.proofs.Common.{◌-◌, ◌≤◌, drop, length}
use Rattle.decl_table.proofs.AddedUses.{Leaves, of_parts}
use Rattle.decl_table.proofs.uses.Uses.note_parts.Given as goal

abbrev pub decreases-loop-part : goal.decreases-loop-part
decreases-loop-part l = length l.node.label.parts - l.part

abbrev pub invariant-loop-part : goal.invariant-loop-part
invariant-loop-part l = record {
  leaves :
      Leaves (of_parts l.node.label.slot l.part (drop l.part l.node.label.parts)) (of_parts l.node.label.slot 0 l.node.label.parts)
      l.fn.self.uses l.self.uses;
  within : l.part ≤ length l.node.label.parts;
}
