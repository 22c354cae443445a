use Rattle.std.specs.Prelude.{◌≡◌, ◌-◌, ◌≤◌, ◌++◌, drop, length}
use Rattle.decl_table.specs.Due.{list_places}
use Rattle.decl_table.proofs.due_phrases.add_lists_of.Given as goal

abbrev pub decreases-loop-part : goal.decreases-loop-part
decreases-loop-part l = length l.node.label.parts - l.part

abbrev pub invariant-loop-part : goal.invariant-loop-part
invariant-loop-part l = record {
  made :
      l.places ++ list_places l.node.label.slot l.part (drop l.part l.node.label.parts)
      ≡ l.fn.places ++ list_places l.node.label.slot 0 l.node.label.parts;
  within : l.part ≤ length l.node.label.parts;
}
