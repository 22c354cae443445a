-- Nodes and trees that are built from their leaves.
use Rattle.std.specs.Prelude.{ℕ, ◌<◌, ◌≤◌, false, List, Option}
use Rattle.plcs_grammar.specs.declared.node_kind.NodeKind.{NodeKind}
use Rattle.plcs_grammar.specs.PlainPhrase.{PlainPhrase}
use Rattle.template_tree.specs.declared.build.BuildLimit.{BuildLimit}
use Rattle.template_tree.specs.Programs.Limit.{deepest_path, most_slots}
use Rattle.template_tree.specs.Programs.PlainTree.{Label, Forest, PlainNodes, PlainTree, forest}
use Rattle.template_tree.specs.Programs.Slots.{count, depth, with_slots_from}

-- the label of a node that is built: of the kind with these parts; its slot isn't drawn yet, and nothing is elided
abbrev pub built_label : NodeKind → List (Option PlainPhrase) → (spare : ℕ) → Label
built_label kind parts spare = record { slot = 0; kind = kind; parts = parts; elided = false; spare = spare }

-- the tree that is built of these items, whose slots are drawn from 0 in listing order
abbrev pub built_tree : PlainNodes → PlainTree
built_tree list =
    record {
      items = with_slots_from 0 (forest list.items);
      spare = list.spare;
      drawn = count (forest list.items);
      live = count (forest list.items);
    }

-- the items of which a tree is to be built are over the limit; the depth comes first
abbrev pub IsOverBuildLimit : Forest → BuildLimit → Type 0
IsOverBuildLimit items BuildLimit.TooDeep = deepest_path < depth items
IsOverBuildLimit items BuildLimit.TooLarge = (depth items ≤ deepest_path) × (most_slots < count items)
