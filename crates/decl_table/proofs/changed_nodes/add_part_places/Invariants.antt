use Rattle.std.proofs.Common.{◌≡◌, ◌++◌, ◌-◌, ◌≤◌, drop, length}
use Rattle.decl_table.specs.Private.PlainNameNode.{kept_places}
use Rattle.decl_table.proofs.changed_nodes.add_part_places.Given as goal

abbrev pub decreases-loop-part : goal.decreases-loop-part
decreases-loop-part l = length l.node.label.parts - l.part

abbrev pub invariant-loop-part : goal.invariant-loop-part
invariant-loop-part l = record {
  all :
      l.places ++ kept_places l.node.label.slot l.part (drop l.part l.node.label.parts)
      ≡ l.fn.places ++ kept_places l.node.label.slot 0 l.node.label.parts;
  within : l.part ≤ length l.node.label.parts;
}
