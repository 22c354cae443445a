use Rattle.std.specs.Prelude.{◌≤◌, ◌-◌, drop, false, length}
use Rattle.plcs_grammar.specs.Template.{program_sections}
use Rattle.plcs_store.specs.Configuration.{plain_place}
use Rattle.template_tree.specs.Listings.Line.{lines}
use Rattle.template_tree.specs.Listings.PlainSectionsLeft.{plain_sections_left}
use Rattle.template_tree.specs.Programs.PlainTree.{nodes}
use Rattle.program_run.specs.StoppedLine.{lines_to_place}
use Rattle.program_run.proofs.SoughtLines.{AreCounted, IsSought}
use Rattle.program_run.proofs.line_search.lines_to_place.Given as goal

-- the place isn't in the items before the next one, whose lines were counted
abbrev pub invariant-loop-item : goal.invariant-loop-item
invariant-loop-item l = record {
  sought :
      IsSought (plain_place l.place) (lines_to_place (plain_place l.place) program_sections l.tree.items) l.passed (plain_sections_left l.left)
      (drop l.k (nodes l.tree.items));
  counted : AreCounted (length (lines false 0 program_sections l.tree.items)) l.passed (plain_sections_left l.left) (drop l.k (nodes l.tree.items));
  within : l.k ≤ length (nodes l.tree.items);
}

abbrev pub decreases-loop-item : goal.decreases-loop-item
decreases-loop-item l = length (nodes l.tree.items) - l.k
