-- The lines of a program.
use Rattle.std.specs.Prelude.{ℕ, ◌+◌, ◌-◌, ◌*◌, Bool, true, false, ◌&&◌, if◌then◌else◌, List, [], ◌∷◌, ◌++◌, replicate, codes, Option, Some, None}
use Rattle.plcs_grammar.specs.declared.category.Category.{Category}
use Rattle.plcs_grammar.specs.PlainPhrase.{PlainPhrase}
use Rattle.plcs_grammar.specs.Canon.{Canon}
use Rattle.plcs_grammar.specs.Placeholder.{placeholder}
use Rattle.plcs_grammar.specs.Template.{PlainSegment, PlainSection, row_of, program_sections}
use Rattle.template_tree.specs.Programs.PlainTree.{Label, Forest}
use Rattle.template_tree.specs.Programs.Program.{sort_of}
use Rattle.template_tree.specs.Listings.Section.{left_for, left_after, next_lead}

-- a line of a program: its level, and what is written behind the level's blanks
pub record Line : Type 0 where
  pub level : ℕ
  pub text : List ℕ

-- the bytes of a line of a program: the blanks, two for each level, and the text
abbrev pub line_bytes : Line → List ℕ
line_bytes line = replicate (2 * line.level) 32 ++ line.text

-- what is written for a part in a line of a program: its phrase, or the placeholder of its category where it is empty
abbrev pub part_text : Category → Option PlainPhrase → List ℕ
part_text category None = placeholder category
part_text category (Some phrase) = Canon phrase

-- what is written for a segment of a program's line where these parts are left: its words, or the first of the parts
abbrev pub segment_text : PlainSegment → List (Option PlainPhrase) → List ℕ
segment_text (PlainSegment.words bytes) parts = bytes
segment_text (PlainSegment.part category) [] = part_text category None
segment_text (PlainSegment.part category) (part ∷ parts) = part_text category part

-- the parts of a node that are left behind a segment of its line
abbrev pub parts_after : PlainSegment → List (Option PlainPhrase) → List (Option PlainPhrase)
parts_after (PlainSegment.words bytes) parts = parts
parts_after (PlainSegment.part category) [] = []
parts_after (PlainSegment.part category) (part ∷ parts) = parts

-- what is written for the segments of a line, with these parts in them
abbrev pub segments_text : List PlainSegment → List (Option PlainPhrase) → List ℕ
segments_text [] parts = []
segments_text (segment ∷ segments) parts =
    segment_text segment parts ++ segments_text segments (parts_after segment parts)

-- a fixed line of a program, which the table of templates has as it stands, before a section or last in a node: one
-- line, or none where it has none
abbrev pub fixed_line : ℕ → Option (List ℕ) → List Line
fixed_line level None = []
fixed_line level (Some text) = record { level = level; text = text } ∷ []

-- the first line of a node of a program: the segments of its row, with its parts in them
abbrev pub head_line : ℕ → Label → Line
head_line level label = record { level = level; text = segments_text (row_of label.kind).line label.parts }

-- the line that stands for an elided refinement
abbrev pub elision_line : ℕ → Line
elision_line level = record { level = level; text = codes "..." }

-- the lines of nodes in order at a level, where these sections are left for them. A line before a section stands at the
-- level of the node that the section is in; what stands inside a node, one level deeper than it. Where `elides`, one
-- line stands for an elided refinement
abbrev pub lines : (elides : Bool) (level : ℕ) (left : List PlainSection) → Forest → List Line
lines elides level left Forest.nil = []
lines elides level left (Forest.cons label inner rest) =
    let here = left_for (sort_of label.kind) left in
    fixed_line (level - 1) (next_lead here)
    ++ (head_line level label
    ∷ ((if elides && label.elided
    then elision_line (level + 1) ∷ []
    else lines elides (level + 1) (row_of label.kind).sections inner)
    ++ (fixed_line level (row_of label.kind).last
    ++ lines elides level (left_after here) rest)))

-- all lines of a program, which its listing has: elided refinements too
abbrev pub listing_lines : Forest → List Line
listing_lines = lines false 0 program_sections

-- the lines that are shown, one for each elided refinement
abbrev pub Lines : Forest → List Line
Lines = lines true 0 program_sections
