-- Lines of the screen, told by their nodes, and the one on which a place of a run is shown.
use Rattle.std.specs.Prelude.{ℕ, Bool, true, false, ◌==◌, ◌&&◌, if◌then◌else◌, Option, Some, None, is_some}
use Rattle.plcs_grammar.specs.declared.node_kind.NodeKind.{NodeKind}
use Rattle.plcs_grammar.specs.declared.node_kind.Sort.{Sort}
use Rattle.plcs_grammar.specs.declared.node_kind.Sort.TheVariants.{Main, Procedure, Declaration, Statement}
use Rattle.plcs_grammar.specs.Template.{row_of}
use Rattle.template_tree.specs.Programs.PlainTree.{Label, Forest}
use Rattle.unparse_layout.specs.declared.line.LineKind.{LineKind}
use Rattle.unparse_layout.specs.declared.line.LineKind.TheVariants.{First, Lead, Elision, Last}
use Rattle.unparse_layout.specs.LaidLine.{PlainLine}
use Rattle.screen_window.specs.declared.node_line.NodeLine.{NodeLine}

-- whether two lines of the screen are told by the same one of the kinds of a node's lines
abbrev pub same_line_kind : LineKind → LineKind → Bool
same_line_kind First First = true
same_line_kind First Lead = false
same_line_kind First Elision = false
same_line_kind First Last = false
same_line_kind Lead First = false
same_line_kind Lead Lead = true
same_line_kind Lead Elision = false
same_line_kind Lead Last = false
same_line_kind Elision First = false
same_line_kind Elision Lead = false
same_line_kind Elision Elision = true
same_line_kind Elision Last = false
same_line_kind Last First = false
same_line_kind Last Lead = false
same_line_kind Last Elision = false
same_line_kind Last Last = true

-- whether a laid line is this line, which is told by its node
abbrev pub is_line : NodeLine → PlainLine → Bool
is_line line laid = (laid.slot == line.slot) && same_line_kind line.kind laid.kind

-- ---- the line of a place of a run

-- for the line of a point of a run: whether the sort is that of main, or of a procedure or a hole for one
abbrev pub is_outer : Sort → Bool
is_outer Main = true
is_outer Procedure = true
is_outer Declaration = false
is_outer Statement = false

-- whether a node is a procedure, which has a last line on which a point of a run may be shown
abbrev pub is_procedure : NodeKind → Bool
is_procedure kind = is_outer (row_of kind).sort && is_some (row_of kind).last

-- the line of a node on which a point of a run is shown: point 1 of a procedure on its last line, every other on its
-- first
abbrev pub point_line : Label → ℕ → NodeLine
point_line label point =
    record { slot = label.slot; kind = if is_procedure label.kind && (point == 1) then Last else First }

-- the line on which a place of a run inside a node is shown: where the node is elided, the line that stands for its
-- refinement
abbrev pub line_inside : Label → Option NodeLine → Option NodeLine
line_inside label None = None
line_inside label (Some line) = Some (if label.elided then record { slot = label.slot; kind = Elision } else line)

-- the line of the screen, told by its node, that was found for a place of a run, or where none was the other one
abbrev pub found_line : Option NodeLine → Option NodeLine → Option NodeLine
found_line None other = other
found_line (Some line) other = Some line

-- the line on which a place of a run is shown, a point of what stands in a slot, if the slot is live
abbrev pub place_line : (slot point : ℕ) → Forest → Option NodeLine
place_line slot point Forest.nil = None
place_line slot point (Forest.cons label inner rest) =
    found_line
    (if label.slot == slot then Some (point_line label point) else line_inside label (place_line slot point inner))
    (place_line slot point rest)
