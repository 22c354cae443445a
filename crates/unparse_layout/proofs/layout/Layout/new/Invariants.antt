use Rattle.std.specs.Prelude.{◌-◌, ◌≤◌, drop, length}
use Rattle.plcs_grammar.specs.Template.{program_sections}
use Rattle.template_tree.specs.Programs.PlainTree.{nodes}
use Rattle.unparse_layout.specs.Bones.{bones_of}
use Rattle.template_tree.specs.Listings.PlainSectionsLeft.{plain_sections_left}
use Rattle.unparse_layout.proofs.MadeBones.{IsMade}
use Rattle.unparse_layout.proofs.layout.Layout.new.Given as goal

abbrev pub invariant-loop-item : goal.invariant-loop-item
invariant-loop-item g l = record {
  made :
      IsMade (bones_of program_sections l.tree.items) l.root.inner (plain_sections_left l.left) (drop l.k (nodes l.tree.items));
  within : l.k ≤ length (nodes l.tree.items);
}

abbrev pub decreases-loop-item : goal.decreases-loop-item
decreases-loop-item g l = length (nodes l.tree.items) - l.k
