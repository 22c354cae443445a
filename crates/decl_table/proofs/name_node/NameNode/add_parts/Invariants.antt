use Rattle.std.specs.Prelude.{◌≡◌, ◌≤◌, ◌-◌, drop, length}
use Rattle.decl_table.specs.Private.PlainNameNode.{name_node_of}
use Rattle.decl_table.proofs.MadeNames.{AreMade}
use Rattle.decl_table.proofs.name_node.NameNode.add_parts.Given as goal

abbrev pub decreases-loop-part : goal.decreases-loop-part
decreases-loop-part l = length l.node.label.parts - l.part

abbrev pub invariant-loop-part : goal.invariant-loop-part
invariant-loop-part l = record {
  made : AreMade (name_node_of l.node).label.parts l.self.label.parts (drop l.part l.node.label.parts);
  slot : l.self.label.slot ≡ l.fn.self.label.slot;
  kind : l.self.label.kind ≡ l.fn.self.label.kind;
  inner : l.self.inner ≡ l.fn.self.inner;
  within : l.part ≤ length l.node.label.parts;
}
