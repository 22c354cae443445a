-- The line of a listing at which a run stands.
use Rattle.std.specs.Prelude.{ℕ, ◌+◌, ◌==◌, ◌&&◌, Bool, true, false, if◌then◌else◌, List, length, take, slice_get, Option, Some, None, is_some, option_and_then, option_map}
use Rattle.std.specs.Option.{option_or}
use Rattle.plcs_grammar.specs.declared.node_kind.NodeKind.{NodeKind}
use Rattle.plcs_grammar.specs.declared.node_kind.Sort.{Sort}
use Rattle.plcs_grammar.specs.Template.{PlainSection, program_sections, row_of}
use Rattle.template_tree.specs.Listings.Line.{fixed_line, line_bytes, lines, listing_lines}
use Rattle.template_tree.specs.Listings.Section.{left_after, left_for, next_lead}
use Rattle.template_tree.specs.Positions.Place.{PlainPlace}
use Rattle.template_tree.specs.Programs.PlainTree.{Forest, Label}
use Rattle.template_tree.specs.Programs.Program.{sort_of}
use Rattle.plcs_store.specs.Configuration.{PlainConfiguration, top_place}
use Rattle.program_run.specs.declared.ending.Ending.{Ending}
use Rattle.program_run.specs.declared.stopped_line.TheConstants.{LONGEST_SHOWN}

-- a line of a listing at which a run stands: its number, from 1, and its bytes, or so many first ones as are shown
pub record PlainStoppedLine : Type 0 where
  pub number : ℕ
  pub text : List ℕ

-- ---- the number of the line

-- whether what stands in a slot of the sort is main, or a procedure or a hole for one, so that a run may stand at its
-- end
abbrev pub is_outermost : Sort → Bool
is_outermost Sort.Main = true
is_outermost Sort.Procedure = true
is_outermost Sort.Declaration = false
is_outermost Sort.Statement = false

-- whether a run at this point stands at the last line of the node, as at point 1 of main and of a procedure, and not
-- at its first
abbrev pub is_at_last_line : NodeKind → (point : ℕ) → Bool
is_at_last_line kind point = point == 1 && (is_outermost (row_of kind).sort && is_some (row_of kind).last)

-- how many lines of a listing what stands inside a node has
abbrev pub inner_line_count : Label → Forest → ℕ
inner_line_count label inner = length (lines false 0 (row_of label.kind).sections inner)

-- how many lines of a listing a node has: its first one, those inside it, and its last one, if it has one; what is
-- claimed of a report's line, at which a run stands, counts by it
abbrev pub node_line_count : Label → Forest → ℕ
node_line_count label inner = 1 + (inner_line_count label inner + length (fixed_line 0 (row_of label.kind).last))

-- how many lines of a node stand before the one at which a run stands at this point of it
abbrev pub lines_to_point : Label → Forest → (point : ℕ) → ℕ
lines_to_point label inner point = if is_at_last_line label.kind point then 1 + inner_line_count label inner else 0

-- how many lines of nodes in order, where these sections are left for them, stand before the one at which a run
-- stands, by its place; none where the slot isn't among theirs
abbrev pub lines_to_place : PlainPlace → (left : List PlainSection) → Forest → Option ℕ
lines_to_place place left Forest.nil = None
lines_to_place place left (Forest.cons label inner rest) =
    let here = left_for (sort_of label.kind) left in
    let lead = length (fixed_line 0 (next_lead here)) in
    option_or
    (if label.slot == place.slot then Some (lead + lines_to_point label inner place.point)
    else option_map (λ count. lead + (1 + count)) (lines_to_place place (row_of label.kind).sections inner))
    (option_map (λ count. lead + (node_line_count label inner + count)) (lines_to_place place (left_after here) rest))

-- ---- the line

-- the line of this number of a program's listing, counted from 0
abbrev pub line_numbered : (program : Forest) → ℕ → Option PlainStoppedLine
line_numbered program count =
    option_map (λ line. record { number = count + 1; text = take LONGEST_SHOWN (line_bytes line) })
    (slice_get (listing_lines program) count)

-- the line of a program's listing at which a run stands at this place, if its slot is there
abbrev pub line_at_place : (program : Forest) → PlainPlace → Option PlainStoppedLine
line_at_place program place = option_and_then (line_numbered program) (lines_to_place place program_sections program)

-- the line of a program's listing at which the newest frame of a run stands
abbrev pub line_of_run : (program : Forest) → PlainConfiguration → Option PlainStoppedLine
line_of_run program c = option_and_then (line_at_place program) (top_place c.frames)

-- the line that is told of a run, by how it ended: the one at which it stands, where it might have gone on
abbrev pub line_told : Ending → (program : Forest) → PlainConfiguration → Option PlainStoppedLine
line_told (Ending.Stopped reason) program c = line_of_run program c
line_told Ending.StepsMade program c = line_of_run program c
line_told Ending.Ended program c = None
line_told Ending.NoMemory program c = None
line_told Ending.WriteFault program c = None
line_told Ending.BadWords program c = None
line_told (Ending.ProgramRefused refusal) program c = None
line_told (Ending.InputRefused refusal) program c = None
