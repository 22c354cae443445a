use Rattle.std.proofs.Common.{◌+◌, ◌*◌, ◌≤◌, false, length, map}
use Rattle.plcs_grammar.specs.Template.{plain_section}
use Rattle.template_tree.specs.Programs.Limit.{deepest_path}
use Rattle.template_tree.specs.Programs.PlainTree.{forest}
use Rattle.template_tree.specs.Programs.Slots.{depth}
use Rattle.template_tree.specs.Listings.Line.{lines}
use Rattle.template_tree.specs.Listings.Listing.{bytes_of_lines}
use Rattle.template_tree.specs.Private.NodeLines.{LacksRest}
use Rattle.template_tree.specs.Listings.PlainSectionsLeft.{plain_sections_left}
use Rattle.template_tree.specs.Private.Weight.{forest_weight, weight}
use Rattle.template_tree.proofs.listing.+lines.Given as goal

abbrev pub decreases-put_nodes : goal.decreases-put_nodes
decreases-put_nodes g l = 2 * forest_weight (forest l.nodes.now) + 1

abbrev pub decreases-put_node : goal.decreases-put_node
decreases-put_node g l = 2 * weight l.node.now

abbrev pub decreases-put_inner : goal.decreases-put_inner
decreases-put_inner g l = 2 * forest_weight (forest l.nodes.now) + 2

abbrev pub decreases-put_nodes-loop-node : goal.decreases-put_nodes-loop-node
decreases-put_nodes-loop-node g l = length l.rest

-- the nodes that are left lack in what was put, and they are no deeper and no heavier than all
abbrev pub invariant-put_nodes-loop-node : goal.invariant-put_nodes-loop-node
invariant-put_nodes-loop-node g l =
    record {
      lacks : LacksRest g.O.ByteOut.puts l.fn.out (bytes_of_lines (lines false l.fn.level (map plain_section l.fn.sections) (forest l.fn.nodes))) l.out
          (bytes_of_lines (lines false l.fn.level (plain_sections_left l.left) (forest l.rest)));
      shallow : l.fn.level + depth (forest l.rest) ≤ deepest_path;
      light : forest_weight (forest l.rest) ≤ forest_weight (forest l.fn.nodes);
    }
