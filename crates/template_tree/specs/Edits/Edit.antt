-- Edits of a tree, each at a slot: the tree after one, and how the trees before it and after it differ.
use Rattle.std.specs.Prelude.{◌≡◌, ℕ, zero, suc, ◌+◌, false, if◌then◌else◌, ◌==◌, nat_lt, List, [], ◌∷◌, ◌++◌, find, Option, Some, option_map}
use Rattle.plcs_grammar.specs.PlainPhrase.{PlainPhrase}
use Rattle.template_tree.specs.declared.side.Side.{Side}
use Rattle.template_tree.specs.declared.change.Change.{Change}
use Rattle.template_tree.specs.declared.change.What.{What}
use Rattle.template_tree.specs.Programs.PlainTree.{Forest, PlainNode, PlainTree, nodes, forest, join, roomless}
use Rattle.template_tree.specs.Programs.Program.{sort_of}
use Rattle.template_tree.specs.Programs.Part.{with_part}
use Rattle.template_tree.specs.Edits.Hole.{hole_list, hole_of}
use Rattle.template_tree.specs.Programs.Slots.{count, times, with_slots_from}

-- the item of this number gives way to a list of items by an edit
abbrev pub give_way : (PlainNode → List PlainNode) → ℕ → Forest → Forest
give_way change k Forest.nil = Forest.nil
give_way change zero (Forest.cons label inner rest) =
    join (forest (change record { label = label; inner = inner })) rest
give_way change (suc k) (Forest.cons label inner rest) = Forest.cons label inner (give_way change k rest)

-- what a node becomes where the node at the path below it gives way to a list of items
abbrev pub edit_below : (PlainNode → List PlainNode) → List ℕ → PlainNode → List PlainNode
edit_below change [] node = change node
edit_below change (k ∷ path) node = record node { inner = give_way (edit_below change path) k node.inner } ∷ []

-- the nodes after the one at the path gave way to a list of items: every edit is this one
abbrev pub edit_at : (PlainNode → List PlainNode) → List ℕ → Forest → Forest
edit_at change [] items = items
edit_at change (k ∷ path) items = give_way (edit_below change path) k items

-- the nodes after the one in the slot gave way to a list of items
abbrev pub edit_slot : ℕ → (PlainNode → List PlainNode) → Forest → Forest
edit_slot slot change Forest.nil = Forest.nil
edit_slot slot change (Forest.cons label inner rest) =
    if label.slot == slot
    then join (forest (change record { label = label; inner = inner })) (edit_slot slot change rest)
    else Forest.cons label (edit_slot slot change inner) (edit_slot slot change rest)

-- the tree with its items edited to these, and with so many slots drawn
abbrev pub with_items : PlainTree → Forest → ℕ → PlainTree
with_items tree items drawn = record { items = items; spare = tree.spare; drawn = drawn; live = count items }

-- what an edit of a tree puts at a slot where it is given these nodes: they, with nothing in them elided
abbrev pub whole : Forest → Forest
whole Forest.nil = Forest.nil
whole (Forest.cons label inner rest) = Forest.cons (record label { elided = false }) (whole inner) (whole rest)

-- what an edit of a tree, at a slot, makes of a node that it puts there: the inner nodes take the next slots in listing
-- order, and nothing in the node is elided
abbrev pub node_in_slot : ℕ → ℕ → PlainNode → PlainNode
node_in_slot slot next node =
    record
    { label = record node.label { slot = slot; elided = false }; inner = with_slots_from next (whole node.inner) }

-- what an item of a tree gives way to in the edit that adds a hole: the item, with a hole of its sort, in the slot, on
-- this side of it
abbrev pub with_hole : ℕ → Side → PlainNode → List PlainNode
with_hole slot Side.Before item = hole_list slot (hole_of (sort_of item.label.kind)) ++ item ∷ []
with_hole slot Side.After item = item ∷ hole_list slot (hole_of (sort_of item.label.kind))

-- the tree after an edit at a slot, which put the node in place of what stood there
abbrev pub Put : PlainTree → ℕ → PlainNode → PlainTree
Put tree slot node =
    with_items tree (edit_slot slot (λ _. node_in_slot slot tree.drawn node ∷ []) tree.items)
    (tree.drawn + count node.inner)

-- the tree after an edit at a slot, which added a hole beside the item there
abbrev pub Add : PlainTree → ℕ → Side → PlainTree
Add tree slot side = with_items tree (edit_slot slot (with_hole tree.drawn side) tree.items) (tree.drawn + 1)

-- the tree after an edit at a slot, which dropped the item there
abbrev pub Drop : PlainTree → ℕ → PlainTree
Drop tree slot = with_items tree (edit_slot slot (λ _. []) tree.items) tree.drawn

-- the tree after an edit at a slot, which set a part of the node there to this
abbrev pub Part : PlainTree → ℕ → ℕ → Option PlainPhrase → PlainTree
Part tree slot part place =
    with_items tree (edit_slot slot (λ node. with_part part place node ∷ []) tree.items) tree.drawn

-- for an edit at a slot of a tree: the slot of main, the procedure or the procedure hole in which that stands
abbrev pub procedure_of : Forest → ℕ → Option ℕ
procedure_of items slot =
    option_map (λ item. item.label.slot) (find (λ item. nat_lt 0 (times slot (forest (item ∷ [])))) (nodes items))

-- how the nodes before an edit and after it differ, where it did this in the slot
abbrev pub DifferBy : What → ℕ → Forest → Forest → Type 0
DifferBy What.Node slot before after =
    (node : PlainNode) × (node.label.slot ≡ slot)
    × (roomless after ≡ roomless (edit_slot slot (λ _. node ∷ []) before))
DifferBy (What.Part part) slot before after =
    (place : Option PlainPhrase)
    × (roomless after ≡ roomless (edit_slot slot (λ node. with_part part place node ∷ []) before))
DifferBy What.Added slot before after =
    (times slot after ≡ 1) × (roomless before ≡ roomless (edit_slot slot (λ _. []) after))
DifferBy What.Dropped slot before after =
    (times slot before ≡ 1) × (roomless after ≡ roomless (edit_slot slot (λ _. []) before))

-- the nodes in which the slot stands that an edit of a tree changed: those before the edit, where its item was dropped,
-- or else those after
abbrev pub changed_in : What → Forest → Forest → Forest
changed_in What.Node before after = after
changed_in (What.Part part) before after = after
changed_in What.Added before after = after
changed_in What.Dropped before after = before

-- the trees before an edit at a slot and after it differ by the change
pub record Differs (before after : PlainTree) (change : Change) : Type 0 where
  pub by : DifferBy change.what change.slot.0 before.items after.items
  pub within : procedure_of (changed_in change.what before.items after.items) change.slot.0 ≡ Some change.procedure.0
