-- Nodes of a layout as plain data.
use Rattle.std.specs.Prelude.{Bool, ◌≡◌, ℕ, List, [], ◌∷◌, ◌++◌, refl}
use Rattle.std.proofs.Common.{ap}
use Rattle.plcs_grammar.specs.Template.{row_of}
use Rattle.template_tree.specs.Programs.PlainTree.{PlainNode}
use Rattle.unparse_layout.specs.Bones.{Bone, PlainLayout, bones_of}

-- a node of a layout: what is kept of a node of the tree, and of the nodes inside it
pub record PlainNodeLayout : Type 0 where
  pub bone : Bone
  pub inner : PlainLayout

-- a list of nodes of a layout, with how many more it has room for
pub record PlainNodeLayouts : Type 0 where
  pub items : List PlainNodeLayout
  pub spare : ℕ

-- nodes of a layout in order as a list
abbrev pub node_layouts : PlainLayout → List PlainNodeLayout
node_layouts PlainLayout.nil = []
node_layouts (PlainLayout.cons bone inner rest) = record { bone = bone; inner = inner } ∷ node_layouts rest

-- a list of nodes of a layout as nodes in order
abbrev pub bones : List PlainNodeLayout → PlainLayout
bones [] = PlainLayout.nil
bones (node_layout ∷ rest) = PlainLayout.cons node_layout.bone node_layout.inner (bones rest)

-- as plain data, a list of nodes of a layout, made nodes in order and these a list again, is that list
pub node_layouts_bones : (items : List PlainNodeLayout) → node_layouts (bones items) ≡ items
node_layouts_bones [] = refl
node_layouts_bones (node_layout ∷ rest) = ap (λ items. node_layout ∷ items) (node_layouts_bones rest)

-- as plain data, nodes of a layout in order, made a list and that nodes in order again, are those nodes
pub bones_node_layouts : (items : PlainLayout) → bones (node_layouts items) ≡ items
bones_node_layouts PlainLayout.nil = refl
bones_node_layouts (PlainLayout.cons bone inner rest) =
    ap (λ items. PlainLayout.cons bone inner items) (bones_node_layouts rest)

-- the node of a layout for a node of the tree, before which a line of the table stands where it is led
abbrev pub node_layout_of : Bool → PlainNode → PlainNodeLayout
node_layout_of led node =
    record {
      bone =
          record
          { slot = node.label.slot; kind = node.label.kind; elided = node.label.elided; led = led };
      inner = bones_of (row_of node.label.kind).sections node.inner;
    }

-- a node of a layout with an item behind the nodes inside it
abbrev pub with_last_node_layout : PlainNodeLayout → PlainNodeLayout → PlainNodeLayout
with_last_node_layout node_layout item =
    record node_layout { inner = bones (node_layouts node_layout.inner ++ (item ∷ [])) }
