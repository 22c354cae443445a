-- Nodes as edits bring them into a hole.
use Rattle.std.specs.Prelude.{false, List, [], ◌∷◌, map, Some, None}
use Rattle.plcs_grammar.specs.declared.node_kind.NodeKind.{NodeKind}
use Rattle.plcs_grammar.specs.PlainPhrase.{PlainPhrase}
use Rattle.plcs_grammar.specs.Template.{PlainSection, row_of}
use Rattle.template_tree.specs.Programs.PlainTree.{Forest, PlainNode, forest, join}
use Rattle.template_tree.specs.Programs.Program.{parts_of}
use Rattle.template_tree.specs.Edits.Hole.{hole_list, hole_of}

-- the holes inside a fresh node: one in each of the sections
abbrev pub section_holes : List PlainSection → Forest
section_holes [] = Forest.nil
section_holes (section ∷ sections) = join (forest (hole_list 0 (hole_of section.sort))) (section_holes sections)

-- a fresh node of the kind: its parts are empty, and a hole stands in each section of its row; its slots aren't drawn
-- yet
abbrev pub fresh_node : NodeKind → PlainNode
fresh_node kind =
    record {
      label =
          record
          { slot = 0; kind = kind; parts = map (λ _. None) (parts_of (row_of kind).line); elided = false; spare = 0 };
      inner = section_holes (row_of kind).sections;
    }

-- a fresh assignment: a node with the phrase as its one part
abbrev pub assignment_node : PlainPhrase → PlainNode
assignment_node phrase =
    record {
      label = record { slot = 0; kind = NodeKind.Assign; parts = Some phrase ∷ []; elided = false; spare = 0 };
      inner = Forest.nil;
    }
