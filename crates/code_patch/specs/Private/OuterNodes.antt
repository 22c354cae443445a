-- What has nodes of a tree inside, as contracts see it.
use Rattle.std.specs.Prelude.{◌<◌}
use Rattle.template_tree.specs.Programs.Limit.{most_slots}
use Rattle.template_tree.specs.Programs.PlainTree.{Forest}
use Rattle.template_tree.specs.Programs.Program.{IsSubtree}
use Rattle.template_tree.specs.Programs.Slots.{count}
use Rattle.template_tree.specs.Programs.Tree.{IsTree}
use Rattle.code_patch.specs.declared.outer.Outer.{Outer}

-- the nodes inside: the items of the program, or what stands inside the node
abbrev pub nodes_inside : Outer → Forest
nodes_inside (Outer.Program tree) = tree.now.items
nodes_inside (Outer.Node node) = node.now.inner

-- the program is a tree, and the node a part of one
abbrev pub IsOuter : Outer → Type 0
IsOuter (Outer.Program tree) = IsTree tree.now
IsOuter (Outer.Node node) = IsSubtree node.now × (count node.now.inner < most_slots)
