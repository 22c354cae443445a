-- The line of a point of a run on the path to its node.
use Rattle.std.specs.Prelude.{ℕ, if◌then◌else◌, List, [], ◌∷◌, Option, Some, None, option_and_then, slice_get}
use Rattle.template_tree.specs.Programs.PlainTree.{Forest, PlainNode, nodes}
use Rattle.unparse_layout.specs.declared.line.LineKind.TheVariants.{Elision}
use Rattle.screen_window.specs.declared.node_line.NodeLine.{NodeLine}
use Rattle.screen_window.specs.NodeLine.{point_line}

-- the line on which a point of a run is shown in the node at a path below a node: that of the first elided node above
-- it, from this one on, or else its own
abbrev pub line_below : ℕ → PlainNode → List ℕ → Option NodeLine
line_below point node [] = Some (point_line node.label point)
line_below point node (k ∷ path) =
    if node.label.elided
    then Some record { slot = node.label.slot; kind = Elision }
    else option_and_then (λ item. line_below point item path) (slice_get (nodes node.inner) k)

-- the line on which a point of a run is shown in the node at a path: that of the first elided node above it, or else its
-- own
abbrev pub line_on_path : ℕ → Forest → List ℕ → Option NodeLine
line_on_path point items [] = None
line_on_path point items (k ∷ path) = option_and_then (λ item. line_below point item path) (slice_get (nodes items) k)
