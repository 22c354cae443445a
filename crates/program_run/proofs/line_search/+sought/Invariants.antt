use Rattle.std.specs.Prelude.{◌≤◌, ◌-◌, drop, length}
use Rattle.plcs_grammar.specs.Template.{row_of}
use Rattle.plcs_store.specs.Configuration.{plain_place}
use Rattle.template_tree.specs.Listings.PlainSectionsLeft.{plain_sections_left}
use Rattle.template_tree.specs.Programs.PlainTree.{nodes}
use Rattle.template_tree.specs.Programs.Slots.{count}
use Rattle.program_run.specs.StoppedLine.{inner_line_count, lines_to_place}
use Rattle.program_run.proofs.SoughtLines.{AreCounted, IsSought}
use Rattle.program_run.proofs.line_search.+sought.Given as goal

-- the place isn't in the nodes before the next one, whose lines were counted
abbrev pub invariant-loop-child : goal.invariant-loop-child
invariant-loop-child l = record {
  sought :
      IsSought (plain_place l.place) (lines_to_place (plain_place l.place) (row_of l.node.label.kind).sections l.node.inner) l.passed
      (plain_sections_left l.left) (drop l.k (nodes l.node.inner));
  counted : AreCounted (inner_line_count l.node.label l.node.inner) l.passed (plain_sections_left l.left) (drop l.k (nodes l.node.inner));
  within : l.k ≤ length (nodes l.node.inner);
}

abbrev pub decreases-loop-child : goal.decreases-loop-child
decreases-loop-child l = length (nodes l.node.inner) - l.k

abbrev pub decreases-lines_to_inside : goal.decreases-lines_to_inside
decreases-lines_to_inside l = count l.node.now.inner
