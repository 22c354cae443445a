-- Lines and visible stops, with and without the room of lists.
use Rattle.std.specs.Prelude.{◌≡◌, refl, ℕ, ◌+◌, ◌-◌, ◌&&◌, Bool, true, if◌then◌else◌, List, [], ◌∷◌, ◌++◌, length, map, flat_map}
use Rattle.std.proofs.Common.{ap, ◌∙◌}
use Rattle.plcs_grammar.specs.Template.{PlainSection, row_of, program_sections}
use Rattle.template_tree.specs.Programs.PlainTree.{Forest, roomless}
use Rattle.template_tree.specs.Programs.Program.{sort_of}
use Rattle.template_tree.specs.Listings.Section.{left_for, left_after, next_lead}
use Rattle.template_tree.specs.Listings.Line.{lines, elision_line, fixed_line, head_line}
use Rattle.template_tree.specs.Positions.Stop.{Stops, inside, part_stops, stops_of, visible_nodes}

pub lines_roomless : (elides : Bool) (level : ℕ) (left : List PlainSection) (items : Forest)
    → lines elides level left (roomless items) ≡ lines elides level left items
lines_roomless elides level left Forest.nil = refl
lines_roomless elides level left (Forest.cons label inner rest) =
    λ i.
    fixed_line (level - 1) (next_lead (left_for (sort_of label.kind) left))
    ++ (head_line level label
    ∷ ((if elides && label.elided
    then elision_line (level + 1) ∷ []
    else lines_roomless elides (level + 1) (row_of label.kind).sections inner i)
    ++ (fixed_line level (row_of label.kind).last
    ++ lines_roomless elides level (left_after (left_for (sort_of label.kind) left)) rest i)))

visible_nodes_roomless : (left : List PlainSection) (k line : ℕ) (items : Forest)
    → visible_nodes left k line (roomless items) ≡ visible_nodes left k line items
visible_nodes_roomless left k line Forest.nil = refl
visible_nodes_roomless left k line (Forest.cons label inner rest) =
    let here = left_for (sort_of label.kind) left in
    let first = line + length (fixed_line 0 (next_lead here)) in
    λ i.
    map (inside k)
    (record { path = []; line = first; parts = part_stops label.kind }
    ∷ (if label.elided then [] else visible_nodes_roomless (row_of label.kind).sections 0 (first + 1) inner i))
    ++ (ap (λ n. visible_nodes (left_after here) (k + 1) (line + n) (roomless rest))
    (ap length (lines_roomless true 0 left (Forest.cons label inner Forest.nil)))
    ∙ visible_nodes_roomless (left_after here) (k + 1) (line + length (lines true 0 left (Forest.cons label inner Forest.nil))) rest) i

-- the visible stops are those with the room
pub stops_roomless : (items : Forest) → Stops (roomless items) ≡ Stops items
stops_roomless items = ap (flat_map stops_of) (visible_nodes_roomless program_sections 0 0 items)
