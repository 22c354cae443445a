use Rattle.std.specs.Prelude.{◌≡◌, ◌≤◌, ◌-◌, drop, length}
use Rattle.plcs_grammar.specs.Template.{row_of}
use Rattle.template_tree.specs.Programs.PlainTree.{nodes}
use Rattle.template_tree.specs.Programs.Slots.{count}
use Rattle.unparse_layout.specs.Bones.{bones_of}
use Rattle.template_tree.specs.Listings.PlainSectionsLeft.{plain_sections_left}
use Rattle.unparse_layout.proofs.MadeBones.{IsMade}
use Rattle.unparse_layout.proofs.node_layout.NodeLayout.+of.Given as goal

abbrev pub decreases-of : goal.decreases-of
decreases-of l = count l.node.now.inner

abbrev pub decreases-loop-child : goal.decreases-loop-child
decreases-loop-child l = length (nodes l.node.inner) - l.k

abbrev pub invariant-loop-child : goal.invariant-loop-child
invariant-loop-child l = record {
  made :
      IsMade (bones_of (row_of l.node.label.kind).sections l.node.inner) l.node_layout.inner (plain_sections_left l.left)
      (drop l.k (nodes l.node.inner));
  bone : l.node_layout.bone ≡ l.initial.node_layout.bone;
  within : l.k ≤ length (nodes l.node.inner);
}
