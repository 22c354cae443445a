-- The lines of the screen, each with the node to which it belongs.
use Rattle.std.specs.Prelude.{◌≡◌, ℕ, ◌+◌, ◌-◌, Bool, false, if◌then◌else◌, List, [], ◌∷◌, ◌++◌, map, flat_map, codes, Option, Some, None, is_some}
use Rattle.plcs_grammar.specs.PlainPhrase.{PlainPhrase}
use Rattle.plcs_grammar.specs.Template.{PlainSegment, PlainSection, row_of, program_sections}
use Rattle.template_tree.specs.Programs.Part.{part_at}
use Rattle.template_tree.specs.Programs.PlainTree.{Label, Forest}
use Rattle.template_tree.specs.Programs.Program.{sort_of}
use Rattle.template_tree.specs.Listings.Section.{left_for, left_after, next_lead}
use Rattle.template_tree.specs.Listings.Line.{Line, Lines, part_text}
use Rattle.unparse_layout.specs.declared.line.LineKind.{LineKind}

-- a stretch of a line of the screen that belongs to a node: some bytes, in which part of the node they stand, if in
-- one, and whether they are those of a phrase
pub record Stretch : Type 0 where
  pub part : Option ℕ
  pub filled : Bool
  pub bytes : List ℕ

-- a line of the screen: the slot of the node to which it belongs, which of the node's lines it is, its level, and what
-- is written behind the level's blanks
pub record OwnedLine : Type 0 where
  pub slot : ℕ
  pub kind : LineKind
  pub level : ℕ
  pub stretches : List Stretch

-- the stretch of a line of the screen that is written for a segment of its node's line, where the next part has this
-- number
abbrev pub stretch_of : (next : ℕ) → PlainSegment → List (Option PlainPhrase) → Stretch
stretch_of next (PlainSegment.words bytes) parts = record { part = None; filled = false; bytes = bytes }
stretch_of next (PlainSegment.part category) parts =
    record { part = Some next; filled = is_some (part_at parts next); bytes = part_text category (part_at parts next) }

-- the number of the next part in a line of the screen that belongs to a node, behind the stretch of a segment
abbrev pub next_after : ℕ → PlainSegment → ℕ
next_after next (PlainSegment.words bytes) = next
next_after next (PlainSegment.part category) = next + 1

-- the stretches of the first line of the screen that belongs to a node, written for these segments, of which the next
-- part has this number
abbrev pub stretches_of : (next : ℕ) → List PlainSegment → List (Option PlainPhrase) → List Stretch
stretches_of next [] parts = []
stretches_of next (segment ∷ segments) parts =
    stretch_of next segment parts ∷ stretches_of (next_after next segment) segments parts

-- a line of the screen that belongs to a node, and in which no part stands
abbrev pub partless_line : ℕ → LineKind → ℕ → List ℕ → OwnedLine
partless_line slot kind level bytes =
    record
    { slot = slot; kind = kind; level = level; stretches = record { part = None; filled = false; bytes = bytes } ∷ [] }

-- a line of the screen that belongs to a node, and that the table of templates has as it stands, or none where it has
-- none
abbrev pub table_line : ℕ → LineKind → ℕ → Option (List ℕ) → List OwnedLine
table_line slot kind level None = []
table_line slot kind level (Some bytes) = partless_line slot kind level bytes ∷ []

-- the line of the screen that belongs to a node as its first one
abbrev pub first_line : ℕ → Label → OwnedLine
first_line level label =
    record {
      slot = label.slot;
      kind = LineKind.First;
      level = level;
      stretches = stretches_of 0 (row_of label.kind).line label.parts;
    }

-- the lines of nodes in order at a level, inside the node in a slot, where these sections are left for them. What
-- stands before a section of a node belongs to that node, as do its last line and the line for its elided refinement
abbrev pub owned_lines : (owner level : ℕ) (left : List PlainSection) → Forest → List OwnedLine
owned_lines owner level left Forest.nil = []
owned_lines owner level left (Forest.cons label inner rest) =
    let here = left_for (sort_of label.kind) left in
    table_line owner LineKind.Lead (level - 1) (next_lead here)
    ++ (first_line level label
    ∷ ((if label.elided
    then partless_line label.slot LineKind.Elision (level + 1) (codes "...") ∷ []
    else owned_lines label.slot (level + 1) (row_of label.kind).sections inner)
    ++ (table_line label.slot LineKind.Last level (row_of label.kind).last
    ++ owned_lines owner level (left_after here) rest)))

-- the lines that are shown of a program, each with the node to which it belongs; before a section of the program itself
-- no line stands
abbrev pub OwnedLines : Forest → List OwnedLine
OwnedLines = owned_lines 0 0 program_sections

-- a line of the screen without the node to which it belongs: its level and its text
abbrev pub bare_line : OwnedLine → Line
bare_line line = record { level = line.level; text = flat_map (λ stretch. stretch.bytes) line.stretches }

-- the lines of the screen, without the nodes to which they belong, are the lines that are shown
abbrev pub OwnedLinesAreLines : Type 0
OwnedLinesAreLines = (items : Forest) → map bare_line (OwnedLines items) ≡ Lines items
