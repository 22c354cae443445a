-- The lines of stops rise from node to node.
use Rattle.std.specs.Prelude.{◌≡◌, ◌⊎◌, refl, ℕ, ◌+◌, ◌<◌, true, List, [], ◌∷◌, length, All, Some, None}
use Rattle.std.specs.List.{range_with_len}
use Rattle.std.proofs.Common.{inl, inr, arith}
use Rattle.std.proofs.lemmas.List.Elements.{All-cons, All-map, All-nil, All-weaker}
use Rattle.plcs_grammar.specs.Template.{program_sections}
use Rattle.template_tree.specs.Listings.Line.{lines}
use Rattle.template_tree.specs.Positions.Stop.{Stops, VisibleNode, VisibleStop, stops_of}
use Rattle.cursor_moves.specs.StopLaws.{StopsRise}
use Rattle.cursor_moves.proofs.ApartLists.{Apart, apart_any, apart_map, pairs_apart}
use Rattle.cursor_moves.proofs.Nodes.RisingLines.{Rises, rises}
use Rattle.cursor_moves.proofs.Stops.ApartStops.{flat_apart}
use Rattle.cursor_moves.proofs.Stops.DividedStops.{stop_of}
use Rattle.cursor_moves.proofs.Stops.StopMoves.{all_nodes, own_line}

-- a later node stands on a later line
abbrev IsLower : VisibleNode → VisibleNode → Type 0
IsLower node other = node.line < other.line

-- a later stop is at the same node and on the same line, or on a later one
abbrev IsLaterStop : VisibleStop → VisibleStop → Type 0
IsLaterStop stop later = ((later.stop.path ≡ stop.stop.path) × (later.line ≡ stop.line)) ⊎ (stop.line < later.line)

-- nodes whose lines rise stand below a line before them
all_lower : (line low high : ℕ) (nodes : List VisibleNode) → line < low → Rises low high nodes → All (λ node. line < node.line) nodes
all_lower line low high [] l h = All-nil _
all_lower line low high (node ∷ nodes) l h =
    All-cons (λ other. line < other.line) node nodes (omega (arith, l, h.0))
    (all_lower line (node.line + 1) high nodes (omega (arith, l, h.0)) h.1)

-- and each below those before it
lower_apart : (low high : ℕ) (nodes : List VisibleNode) → Rises low high nodes → Apart IsLower nodes
lower_apart low high [] h = tt
lower_apart low high (node ∷ nodes) h =
    (all_lower node.line (node.line + 1) high nodes (omega arith) h.1, lower_apart (node.line + 1) high nodes h.1)

-- the stops of one node
same_node : (node : VisibleNode) → Apart IsLaterStop (stops_of node)
same_node node =
    let part : ℕ → VisibleStop = λ n. stop_of node (Some n) in (
      All-map (IsLaterStop (stop_of node None)) part (range_with_len 0 node.parts) (λ _ _ _. inl (refl, refl)),
      apart_map part IsLaterStop (range_with_len 0 node.parts)
          (apart_any (λ n m. IsLaterStop (part n) (part m)) (λ n m. inl (refl, refl)) (range_with_len 0 node.parts)),
    )

-- the stops of a node and those of a later one
later_node : (node other : VisibleNode) → IsLower node other → All (λ stop. All (IsLaterStop stop) (stops_of other)) (stops_of node)
later_node node other h =
    All-weaker (λ stop. stop.line < other.line) (λ stop. All (IsLaterStop stop) (stops_of other))
    (λ stop below.
    All-weaker (λ later. stop.line < later.line) (IsLaterStop stop) (λ later lower. inr lower) (stops_of other)
    (own_line (λ line. stop.line < line) other below))
    (stops_of node) (own_line (λ line. line < other.line) node h)

-- each stop behind another one
pub stops_rise : StopsRise
stops_rise items =
    pairs_apart IsLaterStop (Stops items)
    (flat_apart IsLaterStop IsLower same_node later_node (all_nodes items)
    (lower_apart 0 (0 + length (lines true 0 program_sections items)) (all_nodes items) (rises program_sections 0 0 items)))
