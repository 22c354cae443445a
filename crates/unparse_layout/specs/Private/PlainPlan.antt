-- The plain form of a line that is found but not laid.
use Rattle.unparse_layout.specs.declared.plan.Plan.{Plan}
use Rattle.unparse_layout.specs.OwnedLine.{OwnedLine, first_line, partless_line}

-- the line that a plan is of
abbrev pub planned : Plan → OwnedLine
planned (Plan.Fixed slot kind level bytes) = partless_line slot.0 kind level bytes.now
planned (Plan.First level node) = first_line level node.now.label
