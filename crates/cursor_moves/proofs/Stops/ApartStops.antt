-- Stops that are apart since their nodes are.
use Rattle.std.specs.Prelude.{List, [], ◌∷◌, flat_map, All}
use Rattle.std.proofs.lemmas.List.Elements.{All-append, All-head, All-nil, All-tail}
use Rattle.template_tree.specs.Positions.Stop.{VisibleNode, VisibleStop, stops_of}
use Rattle.cursor_moves.proofs.ApartLists.{Apart, apart_append}

-- the stops of a node and those of nodes that are apart from it
between : (R : VisibleStop → VisibleStop → Type 0) (Q : VisibleNode → VisibleNode → Type 0)
    → ((node other : VisibleNode) → Q node other → All (λ stop. All (R stop) (stops_of other)) (stops_of node))
    → (node : VisibleNode) (nodes : List VisibleNode) → All (Q node) nodes → All (λ stop. All (R stop) (flat_map stops_of nodes)) (stops_of node)
between R Q law node [] h k d within = All-nil _
between R Q law node (other ∷ nodes) h k d within =
    All-append (R _) (stops_of other) (flat_map stops_of nodes)
    (law node other (All-head (Q node) other nodes h) k d within)
    (between R Q law node nodes (All-tail (Q node) other nodes h) k d within)

-- the stops of nodes that are apart
pub flat_apart : (R : VisibleStop → VisibleStop → Type 0) (Q : VisibleNode → VisibleNode → Type 0)
    → ((node : VisibleNode) → Apart R (stops_of node))
    → ((node other : VisibleNode) → Q node other → All (λ stop. All (R stop) (stops_of other)) (stops_of node))
    → (nodes : List VisibleNode) → Apart Q nodes → Apart R (flat_map stops_of nodes)
flat_apart R Q own law [] h = tt
flat_apart R Q own law (node ∷ nodes) h =
    apart_append R (stops_of node) (flat_map stops_of nodes) (own node) (flat_apart R Q own law nodes h.1) (between R Q law node nodes h.0)
