use Rattle.std.specs.Prelude.{◌≤◌, ◌+◌, ◌-◌, ◌*◌, drop, length}
use Rattle.template_tree.specs.Listings.PlainSectionsLeft.{plain_sections_left}
use Rattle.template_tree.specs.Programs.PlainTree.{nodes}
use Rattle.template_tree.specs.Programs.Slots.{count}
use Rattle.program_run.specs.StoppedLine.{inner_line_count}
use Rattle.program_run.proofs.SoughtLines.{AreCounted}
use Rattle.program_run.proofs.line_search.+counted.Given as goal

-- the lines of the nodes before the next one were counted
abbrev pub invariant-inner_line_count-loop-child : goal.invariant-inner_line_count-loop-child
invariant-inner_line_count-loop-child l = record {
  counted : AreCounted (inner_line_count l.node.label l.node.inner) l.lines (plain_sections_left l.left) (drop l.k (nodes l.node.inner));
  within : l.k ≤ length (nodes l.node.inner);
}

abbrev pub decreases-inner_line_count-loop-child : goal.decreases-inner_line_count-loop-child
decreases-inner_line_count-loop-child l = length (nodes l.node.inner) - l.k

abbrev pub decreases-node_line_count : goal.decreases-node_line_count
decreases-node_line_count l = 2 * count l.node.now.inner + 1

abbrev pub decreases-inner_line_count : goal.decreases-inner_line_count
decreases-inner_line_count l = 2 * count l.node.now.inner
