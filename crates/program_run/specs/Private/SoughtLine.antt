-- Numbers of lines, by which the line of a run is sought.
use Rattle.std.specs.Prelude.{ℕ, ◌+◌, ◌*◌, ◌==◌, if◌then◌else◌, List, Option, Some, None, option_map}
use Rattle.plcs_grammar.specs.Template.{row_of}
use Rattle.template_tree.specs.Positions.Place.{PlainPlace}
use Rattle.template_tree.specs.Programs.Limit.{most_slots}
use Rattle.template_tree.specs.Programs.PlainTree.{PlainNode}
use Rattle.program_run.specs.StoppedLine.{lines_to_place, lines_to_point}

-- how many lines are counted, where the line of a run is sought, for one that the table of templates may have
abbrev pub fixed_count : Option (List ℕ) → ℕ
fixed_count None = 0
fixed_count (Some text) = 1

-- where the line of a run is sought in a node: how many of the node's lines stand before it, by the run's place; none
-- where the slot is neither the node's nor that of a node in it
abbrev pub lines_to_inside : PlainPlace → PlainNode → Option ℕ
lines_to_inside place node =
    if node.label.slot == place.slot then Some (lines_to_point node.label node.inner place.point)
    else option_map (λ count. 1 + count) (lines_to_place place (row_of node.label.kind).sections node.inner)

-- no listing has more lines: a node has a line before it, a first one and a last one at most
abbrev pub most_lines : ℕ
most_lines = 3 * most_slots
