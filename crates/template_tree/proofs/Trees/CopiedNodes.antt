-- A copy of a node is a subtree where the node is one, and has as many slots and the same depth.
use Rattle.std.specs.Prelude.{◌≡◌, refl, ℕ, ◌+◌, ◌≤◌, max, false, List, [], ◌∷◌, length, map, take, Option}
use Rattle.std.proofs.Common.{ap, sym, ◌∙◌, subst}
use Rattle.std.proofs.Math.Bool.{false≢true}
use Rattle.std.proofs.lemmas.List.{take_all}
use Rattle.plcs_grammar.specs.PlainPhrase.{PlainPhrase}
use Rattle.plcs_grammar.specs.Template.{row_of}
use Rattle.template_tree.specs.Programs.PlainTree.{Label, Forest, PlainNode, forest, roomless, roomless_node}
use Rattle.template_tree.specs.Programs.Program.{sorts, Fill, AreNodes, IsNode, IsSubtree}
use Rattle.template_tree.specs.Programs.Slots.{count, depth}
use Rattle.template_tree.specs.Edits.Edit.{whole}
use Rattle.template_tree.specs.Edits.Copy.{whole_node, IsCopy}
use Rattle.template_tree.proofs.Room.Rooms.{sorts_roomless, count_roomless, depth_roomless, nodes_roomless}
use Rattle.template_tree.proofs.Puts.PutTrees.{sorts_whole, count_whole, nodes_whole}

-- a node as it is copied
abbrev pub copied : PlainNode → PlainNode
copied node = roomless_node (whole_node node)

-- room is forgotten node by node
roomless_each : (items : List PlainNode) → roomless (forest items) ≡ forest (map roomless_node items)
roomless_each [] = refl
roomless_each (node ∷ rest) = ap (Forest.cons (record node.label { spare = 0 }) (roomless node.inner)) (roomless_each rest)

-- and so is elision
copied_each : (items : List PlainNode) → forest (map copied items) ≡ roomless (whole (forest items))
copied_each [] = refl
copied_each (node ∷ rest) =
    ap (Forest.cons (record node.label { elided = false; spare = 0 }) (roomless (whole node.inner))) (copied_each rest)

-- where all items were copied, the list is copied
pub all_copied : (copies items : List PlainNode) (k : ℕ) (inner : Forest) → length items ≤ k → forest items ≡ inner
    → map roomless_node copies ≡ map copied (take k items) → roomless (forest copies) ≡ roomless (whole inner)
all_copied copies items k inner past are so_far =
    roomless_each copies
    ∙ (ap forest (so_far ∙ ap (map copied) (take_all k items past))
    ∙ (copied_each items ∙ ap (λ f. roomless (whole f)) are))

-- it makes no difference to how deep nodes are that nothing is elided
depth_whole : (items : Forest) → depth (whole items) ≡ depth items
depth_whole Forest.nil = refl
depth_whole (Forest.cons label inner rest) = λ i. max (depth_whole inner i + 1) (depth_whole rest i)

-- nodes that are equal but for room are as many
count_same : (one other : Forest) → roomless one ≡ roomless other → count one ≡ count other
count_same one other e = sym (count_roomless one) ∙ (ap count e ∙ count_roomless other)

depth_same : (one other : Forest) → roomless one ≡ roomless other → depth one ≡ depth other
depth_same one other e = sym (depth_roomless one) ∙ (ap depth e ∙ depth_roomless other)

sorts_same : (one other : Forest) → roomless one ≡ roomless other → sorts one ≡ sorts other
sorts_same one other e = sym (sorts_roomless one) ∙ (ap sorts e ∙ sorts_roomless other)

-- where nodes are what their rows ask for, they are with other room
nodes_of_roomless : (items : Forest) → AreNodes items → AreNodes (roomless items)
nodes_of_roomless Forest.nil h = h
nodes_of_roomless (Forest.cons label inner rest) h = (
  record {
    parts = h.0.parts;
    inner = subst (λ ss. Fill (row_of label.kind).sections ss) (sym (sorts_roomless inner)) h.0.inner;
    elision = h.0.elision;
  },
  nodes_of_roomless inner h.1,
  nodes_of_roomless rest h.2,
)

-- a copy has as many slots as the node
pub copy_count : (node copy : PlainNode) → IsCopy node copy → count copy.inner ≡ count node.inner
copy_count node copy e = count_same copy.inner (whole node.inner) (ap (λ n. n.inner) e) ∙ count_whole node.inner

-- and the same depth
pub copy_depth : (node copy : PlainNode) → IsCopy node copy → depth copy.inner ≡ depth node.inner
copy_depth node copy e = depth_same copy.inner (whole node.inner) (ap (λ n. n.inner) e) ∙ depth_whole node.inner

-- it is a subtree where the node is one
pub copy_subtree : (node copy : PlainNode) → IsCopy node copy → IsSubtree node → IsSubtree copy
copy_subtree node copy e sound =
    let inner : roomless copy.inner ≡ roomless (whole node.inner) = ap (λ n. n.inner) e in
    let kinds : sorts copy.inner ≡ sorts node.inner = sorts_same copy.inner (whole node.inner) inner ∙ sorts_whole node.inner in
    let copied_label : IsNode (roomless_node copy).label (sorts node.inner) =
    subst (λ (n : PlainNode). IsNode n.label (sorts node.inner)) (sym e)
    record { parts = sound.0.parts; inner = sound.0.inner; elision = λ h. absurd (false≢true h) }
    in (
      record {
        parts = copied_label.parts;
        inner = subst (λ ss. Fill (row_of copy.label.kind).sections ss) (sym kinds) copied_label.inner;
        elision = copied_label.elision;
      },
      nodes_roomless copy.inner (subst AreNodes (sym inner) (nodes_of_roomless (whole node.inner) (nodes_whole node.inner sound.1))),
    )

-- a node with copied parts and copied inner nodes is a copy
pub put_together : (label : Label) (parts : List (Option PlainPhrase)) (copies before : Forest) (spare : ℕ) → parts ≡ label.parts
    → roomless copies ≡ roomless (whole before)
    → IsCopy record { label = label; inner = before } record { label = record label { parts = parts; elided = false; spare = spare }; inner = copies }
put_together label parts copies before spare same_parts same_inner =
    λ i. record { label = record label { parts = same_parts i; elided = false; spare = 0 }; inner = same_inner i }
