-- Where the cursor stands after an edit.
use Rattle.std.specs.Prelude.{ℕ, pred, Bool, false, nat_eq, if◌then◌else◌, List}
use Rattle.std.specs.List.{starts_with}
use Rattle.std.specs.Option.{option_map_or}
use Rattle.plcs_grammar.specs.declared.node_kind.Sort.{Sort}
use Rattle.template_tree.specs.Positions.Path.{node_at, with_last}
use Rattle.template_tree.specs.Programs.PlainTree.{Forest}
use Rattle.template_tree.specs.Programs.Program.{sort_of}
use Rattle.template_tree.specs.Listings.Section.{same_sort}
use Rattle.template_tree.specs.Positions.Stop.{PlainStop}
use Rattle.cursor_moves.specs.Move.{stop_right}

-- of a stop that was filled and the next one, that to which the cursor goes: the next, where it lies in the same node
-- or in a node inside it
abbrev pub stop_or_next : PlainStop → PlainStop → PlainStop
stop_or_next stop next = if starts_with nat_eq next.path stop.path then next else stop

-- where the cursor goes from a stop that was filled: to the next one, where that lies in the same node or in a node
-- inside it; without such a next stop it stays
abbrev pub onward : Forest → PlainStop → PlainStop
onward items stop = option_map_or (stop_or_next stop) (stop_right items stop) stop

-- whether a node of the sort of an item that was dropped stands at the path, to which the cursor then goes
abbrev pub has_sort : Sort → Forest → List ℕ → Bool
has_sort sort items path = option_map_or (λ node. same_sort (sort_of node.label.kind) sort) (node_at items path) false

-- where the cursor goes from an item of the sort that was dropped, over the nodes that are left: to the item of its
-- list that is now at its number, or else to the last one, which stood before it; the lists in a node are of different
-- sorts
abbrev pub path_after_drop : Sort → Forest → List ℕ → List ℕ
path_after_drop sort items path = if has_sort sort items path then path else with_last pred path
