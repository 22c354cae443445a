-- Layouts and lines with their nodes, with and without the room of lists.
use Rattle.std.specs.Prelude.{◌≡◌, refl, ℕ, ◌+◌, ◌-◌, if◌then◌else◌, List, [], ◌∷◌, ◌++◌, codes, is_some}
use Rattle.std.proofs.Common.{sym, ◌∙◌}
use Rattle.plcs_grammar.specs.Template.{PlainSection, row_of, program_sections}
use Rattle.template_tree.specs.Programs.PlainTree.{Forest, roomless}
use Rattle.template_tree.specs.Programs.Program.{sort_of}
use Rattle.template_tree.specs.Listings.Section.{left_for, left_after, next_lead}
use Rattle.unparse_layout.specs.declared.line.LineKind.{LineKind}
use Rattle.unparse_layout.specs.Agreement.{LayoutsIgnoreRoom}
use Rattle.unparse_layout.specs.Bones.{PlainLayout, bones_of}
use Rattle.unparse_layout.specs.OwnedLine.{OwnedLines, first_line, owned_lines, partless_line, table_line}

-- what a layout keeps of nodes
pub bones_roomless : (left : List PlainSection) (items : Forest) → bones_of left (roomless items) ≡ bones_of left items
bones_roomless left Forest.nil = refl
bones_roomless left (Forest.cons label inner rest) =
    λ i.
    PlainLayout.cons
    record { slot = label.slot; kind = label.kind; elided = label.elided; led = is_some (next_lead (left_for (sort_of label.kind) left)) }
    (bones_roomless (row_of label.kind).sections inner i)
    (bones_roomless (left_after (left_for (sort_of label.kind) left)) rest i)

-- the lines of nodes
pub owned_roomless : (owner level : ℕ) (left : List PlainSection) (items : Forest)
    → owned_lines owner level left (roomless items) ≡ owned_lines owner level left items
owned_roomless owner level left Forest.nil = refl
owned_roomless owner level left (Forest.cons label inner rest) =
    λ i.
    table_line owner LineKind.Lead (level - 1) (next_lead (left_for (sort_of label.kind) left))
    ++ (first_line level label
    ∷ ((if label.elided
    then partless_line label.slot LineKind.Elision (level + 1) (codes "...") ∷ []
    else owned_roomless label.slot (level + 1) (row_of label.kind).sections inner i)
    ++ (table_line label.slot LineKind.Last level (row_of label.kind).last
    ++ owned_roomless owner level (left_after (left_for (sort_of label.kind) left)) rest i)))

-- the lines of a program
pub program_roomless : (items : Forest) → OwnedLines (roomless items) ≡ OwnedLines items
program_roomless items = owned_roomless 0 0 program_sections items

-- a layout is that of a tree where it is that of the tree without room
pub layouts_roomless : LayoutsIgnoreRoom
layouts_roomless layout tree =
    (λ agrees. agrees ∙ sym (bones_roomless program_sections tree.items), λ agrees. agrees ∙ bones_roomless program_sections tree.items)
