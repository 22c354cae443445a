-- The stops of the cursor, and the lines on which they stand.
use Rattle.std.specs.Prelude.{ℕ, ◌+◌, ◌<◌, Bool, true, ◌&&◌, nat_eq, if◌then◌else◌, List, [], ◌∷◌, ◌++◌, length, map, find, flat_map, Option, Some, None, IsSomeAnd, option_and_then, slice_get}
use Rattle.std.specs.List.{range_with_len}
use Rattle.std.specs.Option.{option_eq, option_map_or}
use Rattle.std.specs.Str.{bytes_eq}
use Rattle.plcs_grammar.specs.declared.node_kind.NodeKind.{NodeKind}
use Rattle.plcs_grammar.specs.Template.{PlainSection, row_of, program_sections}
use Rattle.template_tree.specs.declared.stop.Stop.{Stop}
use Rattle.template_tree.specs.Programs.PlainTree.{Forest, PlainNode, nodes}
use Rattle.template_tree.specs.Programs.Program.{parts_of, sort_of}
use Rattle.template_tree.specs.Listings.Section.{left_for, left_after, next_lead}
use Rattle.template_tree.specs.Listings.Line.{lines, fixed_line}

-- a visible node: the path to it, the number of its first line counted from 0, and how many of its parts are stops
pub record VisibleNode : Type 0 where
  pub path : List ℕ
  pub line : ℕ
  pub parts : ℕ

-- a stop: the node at the path, or one of its parts
pub record PlainStop : Type 0 where
  pub path : List ℕ
  pub part : Option ℕ

-- the plain form of a stop of the cursor
abbrev pub plain_stop : Stop → PlainStop
plain_stop stop = record { path = stop.path.items; part = stop.part }

-- the stop of a node itself
abbrev pub node_stop : List ℕ → PlainStop
node_stop path = record { path = path; part = None }

-- whether two stops are one
abbrev pub same_stop : PlainStop → PlainStop → Bool
same_stop one other = bytes_eq one.path other.path && option_eq nat_eq one.part other.part

-- a visible stop of the cursor, and the number of the line on which it stands
pub record VisibleStop : Type 0 where
  pub stop : PlainStop
  pub line : ℕ

-- how many parts of a node are stops: each, but in an assignment none, since there the node itself is where one types
abbrev pub part_stops : NodeKind → ℕ
part_stops NodeKind.Assign = 0
part_stops kind = length (parts_of (row_of kind).line)

-- a visible node inside the item of this number, whose stops are listed, as it is seen from outside of that
abbrev pub inside : ℕ → VisibleNode → VisibleNode
inside k node = record node { path = k ∷ node.path }

-- the visible nodes in listing order, where the first item has this number and the lines begin at this one:
-- those inside an elided refinement are not
abbrev pub visible_nodes : (left : List PlainSection) (k line : ℕ) → Forest → List VisibleNode
visible_nodes left k line Forest.nil = []
visible_nodes left k line (Forest.cons label inner rest) =
    let here = left_for (sort_of label.kind) left in
    let first = line + length (fixed_line 0 (next_lead here)) in
    map (inside k)
    (record { path = []; line = first; parts = part_stops label.kind }
    ∷ (if label.elided then [] else visible_nodes (row_of label.kind).sections 0 (first + 1) inner))
    ++ visible_nodes (left_after here) (k + 1)
    (line + length (lines true 0 left (Forest.cons label inner Forest.nil))) rest

-- the stops of a visible node: its own, then its parts
abbrev pub stops_of : VisibleNode → List VisibleStop
stops_of node =
    record { stop = record { path = node.path; part = None }; line = node.line }
    ∷ map (λ part. record { stop = record { path = node.path; part = Some part }; line = node.line })
    (range_with_len 0 node.parts)

-- the visible stops in listing order
abbrev pub Stops : Forest → List VisibleStop
Stops items = flat_map stops_of (visible_nodes program_sections 0 0 items)

-- the first of the listed stops of the cursor that is this one, with the line on which it stands, if there is one
abbrev pub listed_stop : List VisibleStop → PlainStop → Option VisibleStop
listed_stop stops stop = find (λ listed. same_stop listed.stop stop) stops

-- the number of the line on which a visible stop stands, counted from 0; it is 0 where the stop isn't visible
abbrev pub line_at : Forest → PlainStop → ℕ
line_at items stop = option_map_or (λ listed. listed.line) (listed_stop (Stops items) stop) 0

-- the visible node at the path below a node, where the cursor may have a stop: nothing on the way to it is elided
abbrev pub visible_below : PlainNode → List ℕ → Option PlainNode
visible_below node [] = Some node
visible_below node (k ∷ path) =
    if node.label.elided then None
    else option_and_then (λ item. visible_below item path) (slice_get (nodes node.inner) k)

-- the visible node at the path: nothing on the way to it is elided
abbrev pub visible_at : Forest → List ℕ → Option PlainNode
visible_at items [] = None
visible_at items (k ∷ path) = option_and_then (λ item. visible_below item path) (slice_get (nodes items) k)

-- the cursor may stand in a node of the kind as the part says: on the node itself, or in a part that is a stop
abbrev pub MayStand : Option ℕ → NodeKind → Type 0
MayStand None kind = Unit {0}
MayStand (Some part) kind = part < part_stops kind

-- the cursor may stand at the stop: it is visible
abbrev pub IsStop : Forest → PlainStop → Type 0
IsStop items stop = IsSomeAnd (visible_at items stop.path) (λ node. MayStand stop.part node.label.kind)
