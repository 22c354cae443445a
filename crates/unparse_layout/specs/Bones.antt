-- What a layout keeps of a tree.
use Rattle.std.specs.Prelude.{ℕ, ◌+◌, Bool, List, is_some}
use Rattle.plcs_grammar.specs.declared.node_kind.NodeKind.{NodeKind}
use Rattle.plcs_grammar.specs.Template.{PlainSection, row_of}
use Rattle.template_tree.specs.Programs.PlainTree.{Forest}
use Rattle.template_tree.specs.Programs.Program.{sort_of}
use Rattle.template_tree.specs.Listings.Section.{left_for, left_after, next_lead}

-- what a layout keeps of a node: its slot, its kind, whether it is elided, and whether a line stands before it that
-- the table of templates has there
pub record Bone : Type 0 where
  pub slot : ℕ
  pub kind : NodeKind
  pub elided : Bool
  pub led : Bool

-- what a layout keeps of nodes in order: each without its phrases, with what stands inside it
pub data PlainLayout : Type 0 where
  nil : PlainLayout
  cons : (bone : Bone) (inner rest : PlainLayout) → PlainLayout

-- what a layout keeps of the nodes of a tree, for which these sections are left
abbrev pub bones_of : (left : List PlainSection) → Forest → PlainLayout
bones_of left Forest.nil = nil
bones_of left (Forest.cons label inner rest) =
    let here = left_for (sort_of label.kind) left in
    cons record { slot = label.slot; kind = label.kind; elided = label.elided; led = is_some (next_lead here) }
    (bones_of (row_of label.kind).sections inner) (bones_of (left_after here) rest)

-- how many nodes a layout keeps
abbrev pub bone_count : PlainLayout → ℕ
bone_count PlainLayout.nil = 0
bone_count (PlainLayout.cons bone inner rest) = bone_count inner + bone_count rest + 1
