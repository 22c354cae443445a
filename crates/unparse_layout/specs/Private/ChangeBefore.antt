-- Layouts before one kind of change.
use Rattle.std.specs.Prelude.{ℕ, ◌≤◌}
use Rattle.template_tree.specs.declared.change.What.{What}
use Rattle.template_tree.specs.Edits.Edit.{DifferBy, changed_in}
use Rattle.template_tree.specs.Programs.PlainTree.{PlainTree}
use Rattle.template_tree.specs.Programs.Slots.{times}
use Rattle.template_tree.specs.Programs.Tree.{IsTree}
use Rattle.unparse_layout.specs.Agreement.{IsLayoutOf}
use Rattle.unparse_layout.specs.Bones.{PlainLayout}

-- the layout is that of a tree from which this one differs by what was done in a slot that stands where that was done
pub record IsBeforeChange (what : What) (slot : ℕ) (layout : PlainLayout) (after : PlainTree) : Type 0 where
  pub before : PlainTree
  pub tree : IsTree before
  pub agrees : IsLayoutOf layout before
  pub differ : DifferBy what slot before.items after.items
  pub stands : 1 ≤ times slot (changed_in what before.items after.items)
