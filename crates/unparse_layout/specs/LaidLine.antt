-- Lines of the screen as cells.
use Rattle.std.specs.Prelude.{ℕ, ◌+◌, ◌*◌, Bool, true, false, ◌&&◌, List, ◌++◌, map, flat_map, take, replicate, Option, Some, None, is_some}
use Rattle.std.specs.FinMap.{get}
use Rattle.plcs_base.specs.Mark.{MarkMap}
use Rattle.template_tree.specs.Programs.PlainTree.{Forest}
use Rattle.unparse_layout.specs.declared.line.LineKind.{LineKind}
use Rattle.unparse_layout.specs.declared.line.TheConstants.{LONGEST_LINE}
use Rattle.unparse_layout.specs.OwnedLine.{Stretch, OwnedLine, OwnedLines}

-- how many cells a line of the screen may have
abbrev pub longest_line : ℕ
longest_line = LONGEST_LINE

-- a byte as a cell of the screen: in negative image 256 more than the byte
abbrev pub screen_cell : Bool → ℕ → ℕ
screen_cell false byte = byte
screen_cell true byte = byte + 256

-- whether the part of the node in a slot, if it is one, has a mark, so that its cells are in negative image
abbrev pub has_mark : MarkMap → ℕ → Option ℕ → Bool
has_mark marks slot None = false
has_mark marks slot (Some part) = is_some (get marks record { slot = record { 0 = slot }; part = part })

-- whether a stretch is marked, so that its cells are in negative image, of a line that belongs to the slot: it is a
-- phrase, in a part that has a mark
abbrev pub is_marked : MarkMap → ℕ → Stretch → Bool
is_marked marks slot stretch = stretch.filled && has_mark marks slot stretch.part

-- the cells of a stretch of a line that belongs to the slot
abbrev pub stretch_cells : MarkMap → ℕ → Stretch → List ℕ
stretch_cells marks slot stretch = map (screen_cell (is_marked marks slot stretch)) stretch.bytes

-- the cells of a line, as many as a line may have: two blanks for each level, and what is written
abbrev pub line_cells : MarkMap → OwnedLine → List ℕ
line_cells marks line =
    take longest_line (replicate (2 * line.level) 32 ++ flat_map (stretch_cells marks line.slot) line.stretches)

-- a line as it is laid: the slot of the node to which it belongs, which of the node's lines it is, and its cells
pub record PlainLine : Type 0 where
  pub slot : ℕ
  pub kind : LineKind
  pub cells : List ℕ

-- a line as it is laid under these marks
abbrev pub laid_line : MarkMap → OwnedLine → PlainLine
laid_line marks line = record { slot = line.slot; kind = line.kind; cells = line_cells marks line }

-- the lines that are shown of a program, laid as cells under these marks
abbrev pub LaidLines : MarkMap → Forest → List PlainLine
LaidLines marks items = map (laid_line marks) (OwnedLines items)
