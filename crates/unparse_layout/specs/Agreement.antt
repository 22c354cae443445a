-- Which layout is that of which tree.
use Rattle.std.specs.Prelude.{◌≡◌, ◌↔◌, ℕ, List}
use Rattle.plcs_grammar.specs.Template.{program_sections}
use Rattle.template_tree.specs.Programs.PlainTree.{PlainTree, roomless_tree}
use Rattle.template_tree.specs.Edits.Elision.{with_toggled_at}
use Rattle.unparse_layout.specs.Bones.{PlainLayout, bones_of}

-- the layout is that of the tree
abbrev pub IsLayoutOf : PlainLayout → PlainTree → Type 0
IsLayoutOf layout tree = layout ≡ bones_of program_sections tree.items

-- the room of lists plays no part in which layout is that of a tree
abbrev pub LayoutsIgnoreRoom : Type 0
LayoutsIgnoreRoom =
    (layout : PlainLayout) (tree : PlainTree) → IsLayoutOf layout tree ↔ IsLayoutOf layout (roomless_tree tree)

-- the layout is that of a tree that becomes this one where the comment at the path is turned
pub record IsLayoutBeforeToggle (layout : PlainLayout) (path : List ℕ) (tree : PlainTree) : Type 0 where
  pub before : PlainTree
  pub turned : tree ≡ with_toggled_at path before
  pub agrees : IsLayoutOf layout before
