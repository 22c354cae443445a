-- How many lines nodes have, and how many nodes there are.
use Rattle.std.specs.Prelude.{◌≡◌, refl, ℕ, zero, suc, ◌+◌, ◌*◌, ◌≤◌, Bool, true, false, if◌then◌else◌, List, length, map, sum, Option, Some, None, slice_get}
use Rattle.std.proofs.Common.{ap, sym, ◌∙◌, arith}
use Rattle.std.proofs.lemmas.List.Sums.{sum_by-cons}
use mir.Val.{bool_byte}
use Rattle.plcs_grammar.specs.Template.{PlainSection, row_of}
use Rattle.template_tree.specs.Programs.PlainTree.{Forest, PlainNode, nodes}
use Rattle.template_tree.specs.Programs.Program.{sort_of}
use Rattle.template_tree.specs.Listings.Section.{left_for, left_after}
use Rattle.template_tree.specs.Programs.Slots.{count}
use Rattle.unparse_layout.specs.Bones.{Bone, PlainLayout, bones_of, bone_count}
use Rattle.unparse_layout.specs.Private.PlainNodeLayout.{PlainNodeLayout, node_layouts, bones, node_layouts_bones}
use Rattle.unparse_layout.specs.Private.Height.{line_count, one_if, height_around, height, heights}

-- the numbers of a list's nodes add up to the number of the list
pub heights_sum : (items : PlainLayout) → sum (map height (node_layouts items)) ≡ heights items
heights_sum PlainLayout.nil = refl
heights_sum (PlainLayout.cons bone inner rest) =
    sum_by-cons (λ n. n) (height_around bone (heights inner)) (map height (node_layouts rest))
    ∙ ap (λ n. height_around bone (heights inner) + n) (heights_sum rest)

-- the same of a list
pub heights_of_list : (items : List PlainNodeLayout) → sum (map height items) ≡ heights (bones items)
heights_of_list items = ap (λ xs. sum (map height xs)) (sym (node_layouts_bones items)) ∙ heights_sum (bones items)

-- a truth value as a number
pub byte_is_one_if : (led : Bool) → bool_byte led ≡ one_if led
byte_is_one_if true = refl
byte_is_one_if false = refl

-- at most one
pub one_if_le : (led : Bool) → one_if led ≤ 1
one_if_le true = omega arith
one_if_le false = omega arith

pub line_count_le : (line : Option (List ℕ)) → line_count line ≤ 1
line_count_le None = omega arith
line_count_le (Some bytes) = omega arith

pub inside_le : (elided : Bool) (inside : ℕ) → (if elided then 1 else inside) ≤ inside + 1
inside_le true inside = omega arith
inside_le false inside = omega arith

-- a node has at most four lines beside those of what stands inside it
pub around_le : (bone : Bone) (inside : ℕ) → height_around bone inside ≤ inside + 4
around_le bone inside =
    omega (arith, one_if_le bone.led, line_count_le (row_of bone.kind).last, inside_le bone.elided inside)

-- nodes have at most four lines each
pub heights_le : (items : PlainLayout) → heights items ≤ 4 * bone_count items
heights_le PlainLayout.nil = omega arith
heights_le (PlainLayout.cons bone inner rest) =
    omega (arith, around_le bone (heights inner), heights_le inner, heights_le rest)

pub height_le : (node_layout : PlainNodeLayout) → height node_layout ≤ 4 * bone_count node_layout.inner + 4
height_le node_layout = omega (arith, around_le node_layout.bone (heights node_layout.inner), heights_le node_layout.inner)

-- as many nodes are kept as there are
pub count_bones : (left : List PlainSection) (items : Forest) → bone_count (bones_of left items) ≡ count items
count_bones left Forest.nil = refl
count_bones left (Forest.cons label inner rest) =
    omega (
      arith,
      count_bones (row_of label.kind).sections inner,
      count_bones (left_after (left_for (sort_of label.kind) left)) rest,
    )

-- a list has no more items than there are nodes
pub node_layouts_few : (items : PlainLayout) → length (node_layouts items) ≤ bone_count items
node_layouts_few PlainLayout.nil = omega arith
node_layouts_few (PlainLayout.cons bone inner rest) = omega (arith, node_layouts_few rest)

pub nodes_few : (items : Forest) → length (nodes items) ≤ count items
nodes_few Forest.nil = omega arith
nodes_few (Forest.cons label inner rest) = omega (arith, nodes_few rest)

-- an item, with what stands inside it, is no more than its list
pub item_few : (items : Forest) (k : ℕ) (node : PlainNode) → slice_get (nodes items) k ≡ Some node → count node.inner + 1 ≤ count items
item_few Forest.nil k node there = absurd (cc)
item_few (Forest.cons label inner rest) zero node there =
    let same : record { label = label; inner = inner } ≡ node = cc in rw (← same) (omega arith)
item_few (Forest.cons label inner rest) (suc k) node there = omega (arith, item_few rest k node there)

pub node_layout_few : (items : PlainLayout) (k : ℕ) (node_layout : PlainNodeLayout) → slice_get (node_layouts items) k ≡ Some node_layout
    → bone_count node_layout.inner + 1 ≤ bone_count items
node_layout_few PlainLayout.nil k node_layout there = absurd (cc)
node_layout_few (PlainLayout.cons bone inner rest) zero node_layout there =
    let same : record { bone = bone; inner = inner } ≡ node_layout = cc in rw (← same) (omega arith)
node_layout_few (PlainLayout.cons bone inner rest) (suc k) node_layout there = omega (arith, node_layout_few rest k node_layout there)
