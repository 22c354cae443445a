-- The lines of a listing, and in which of them a node begins.
use Rattle.std.specs.Prelude.{ℕ, ◌+◌, ◌-◌, Bool, true, false, List, [], ◌∷◌, ◌++◌, map, Option}
use Rattle.plcs_grammar.specs.Template.{PlainSection, row_of, program_sections}
use Rattle.template_tree.specs.Listings.Line.{Line, fixed_line, head_line}
use Rattle.template_tree.specs.Listings.Listing.{bytes_of_lines}
use Rattle.template_tree.specs.Programs.PlainTree.{Forest}
use Rattle.template_tree.specs.Programs.Program.{sort_of}
use Rattle.template_tree.specs.Listings.Section.{left_for, left_after, next_lead}

-- a line of a listing, and whether a node begins in it
pub record ListedLine : Type 0 where
  pub line : Line
  pub opens : Bool

-- a line of a listing that the table of templates has as it stands, or none where it has none: no node begins in it
abbrev pub listed_fixed : ℕ → Option (List ℕ) → List ListedLine
listed_fixed level text = map (λ line. record { line = line; opens = false }) (fixed_line level text)

-- the lines of a listing that nodes in order have at a level, each with whether a node begins in it, where these
-- sections are left for the nodes; nothing is elided in them
abbrev pub listed_lines : (level : ℕ) (left : List PlainSection) → Forest → List ListedLine
listed_lines level left Forest.nil = []
listed_lines level left (Forest.cons label inner rest) =
    let here = left_for (sort_of label.kind) left in
    listed_fixed (level - 1) (next_lead here)
    ++ (record { line = head_line level label; opens = true }
    ∷ (listed_lines (level + 1) (row_of label.kind).sections inner
    ++ (listed_fixed level (row_of label.kind).last
    ++ listed_lines level (left_after here) rest)))

-- the lines of a program's listing, each with whether a node begins in it
abbrev pub listed_program : Forest → List ListedLine
listed_program = listed_lines 0 program_sections

-- the bytes of these listed lines, each with its line end, whether a node begins in it or not
abbrev pub text_of_lines : List ListedLine → List ℕ
text_of_lines rows = bytes_of_lines (map (λ row. row.line) rows)
