-- The lines of the screen that one node has, and where they stand.
use Rattle.std.specs.Prelude.{ℕ, zero, suc, None, ◌+◌, ◌-◌, if◌then◌else◌, List, [], ◌∷◌, ◌++◌, map, sum, take, codes, Option, option_map, unwrap_or, slice_get}
use Rattle.plcs_grammar.specs.Template.{PlainSection, row_of}
use Rattle.template_tree.specs.Programs.Program.{sort_of}
use Rattle.template_tree.specs.Listings.Section.{left_for, left_after, next_lead}
use Rattle.template_tree.specs.Programs.PlainTree.{Forest, PlainNode}
use Rattle.unparse_layout.specs.declared.line.LineKind.{LineKind}
use Rattle.unparse_layout.specs.Bones.{PlainLayout}
use Rattle.unparse_layout.specs.OwnedLine.{OwnedLine, first_line, owned_lines, partless_line, table_line}
use Rattle.unparse_layout.specs.Private.PlainNodeLayout.{node_layouts}
use Rattle.unparse_layout.specs.Private.Height.{height, one_if}

-- the lines of the screen that one node has behind its first one
abbrev pub lines_below : ℕ → PlainNode → List OwnedLine
lines_below level node =
    (if node.label.elided
    then partless_line node.label.slot LineKind.Elision (level + 1) (codes "...") ∷ []
    else owned_lines node.label.slot (level + 1) (row_of node.label.kind).sections node.inner)
    ++ table_line node.label.slot LineKind.Last level (row_of node.label.kind).last

-- the lines of the screen that one node has, without the line before it
abbrev pub node_lines : ℕ → PlainNode → List OwnedLine
node_lines level node = first_line level node.label ∷ lines_below level node

-- the lines of the screen that an item of the node in a slot has: the line of the table before it, if there is one, and
-- its own
abbrev pub item_lines : (owner level : ℕ) (lead : Option (List ℕ)) → PlainNode → List OwnedLine
item_lines owner level lead node =
    table_line owner LineKind.Lead (level - 1) lead ++ node_lines level node

-- how many lines of the screen stand before the first line of the node at a path, which begins with this number
abbrev pub lines_before : PlainLayout → (k : ℕ) (rest : List ℕ) → ℕ
lines_before items k [] =
    sum (take k (map height (node_layouts items)))
    + unwrap_or (option_map (λ item. one_if item.bone.led) (slice_get (node_layouts items) k)) 0
lines_before items k (next ∷ rest) =
    sum (take k (map height (node_layouts items)))
    + unwrap_or
    (option_map
    (λ item. one_if item.bone.led + 1 + lines_before item.inner next rest)
    (slice_get (node_layouts items) k))
    0

-- the line of the screen that stands before those of one node, that of this number, if there is one, where these
-- sections are left for the nodes
abbrev pub lead_at : List PlainSection → Forest → ℕ → Option (List ℕ)
lead_at left Forest.nil k = None
lead_at left (Forest.cons label inner rest) zero = next_lead (left_for (sort_of label.kind) left)
lead_at left (Forest.cons label inner rest) (suc k) = lead_at (left_after (left_for (sort_of label.kind) left)) rest k
