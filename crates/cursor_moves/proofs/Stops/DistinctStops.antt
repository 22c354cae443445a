-- No stop is listed twice.
use Rattle.std.specs.Prelude.{◌≡◌, ◌≢◌, refl, ℕ, zero, suc, ◌+◌, ◌<◌, map, All, slice_index_or, Option, Some, None}
use Rattle.std.specs.List.{range_with_len}
use Rattle.std.proofs.Common.{ap, sym, ◌∙◌, arith}
use Rattle.std.proofs.lemmas.Option.{none-some}
use Rattle.std.proofs.lemmas.List.Elements.{All-cons, All-map, All-nil, All-weaker}
use Rattle.plcs_grammar.specs.Template.{program_sections}
use Rattle.template_tree.specs.Positions.Stop.{PlainStop, Stops, VisibleNode, VisibleStop, stops_of}
use Rattle.cursor_moves.specs.StopLaws.{StopsAreDistinct}
use Rattle.cursor_moves.proofs.ApartLists.{Apart, apart_map, apart_weaker, pairs_apart}
use Rattle.cursor_moves.proofs.Nodes.DistinctNodes.{IsElsewhere, nodes_apart}
use Rattle.cursor_moves.proofs.Stops.DividedStops.{stop_of}
use Rattle.cursor_moves.proofs.Stops.ApartStops.{flat_apart}
use Rattle.cursor_moves.proofs.Stops.StopMoves.{all_nodes}

-- another stop is a different one
abbrev IsOther : VisibleStop → VisibleStop → Type 0
IsOther stop later = later.stop ≢ stop.stop

-- the number of a part, or else none
abbrev number : Option ℕ → ℕ
number None = 0
number (Some part) = part

-- numbers in order, from one on
range_above : (first count : ℕ) → All (λ n. first < n) (range_with_len (first + 1) count)
range_above first zero = All-nil _
range_above first (suc count) =
    All-cons (λ n. first < n) (first + 1) (range_with_len (first + 1 + 1) count) (omega arith)
    (All-weaker (λ n. first + 1 < n) (λ n. first < n) (λ n h. omega (arith, h)) (range_with_len (first + 1 + 1) count)
    (range_above (first + 1) count))

range_apart : (first count : ℕ) → Apart (λ n m. n < m) (range_with_len first count)
range_apart first zero = tt
range_apart first (suc count) = (range_above first count, range_apart (first + 1) count)

-- the node itself is no part
no_part : (n : ℕ) → Some n ≡ None → ⊥
no_part n e = none-some n (sym e)

-- the stops of one node
own_apart : (node : VisibleNode) → Apart IsOther (stops_of node)
own_apart node =
    let part : ℕ → VisibleStop = λ n. stop_of node (Some n) in (
      All-map (IsOther (stop_of node None)) part (range_with_len 0 node.parts)
          (λ i d h e. no_part (slice_index_or (range_with_len 0 node.parts) i d) (ap (λ (stop : PlainStop). stop.part) e)),
      apart_map part IsOther (range_with_len 0 node.parts)
          (apart_weaker (λ n m. n < m) (λ n m. IsOther (part n) (part m))
          (λ n m h e. let same : m ≡ n = ap (λ (stop : PlainStop). number stop.part) e in absurd (omega (arith, h, same)))
          (range_with_len 0 node.parts) (range_apart 0 node.parts)),
    )

-- the stops of a node are at it
own_path : (node : VisibleNode) → All (λ stop. stop.stop.path ≡ node.path) (stops_of node)
own_path node =
    All-cons (λ stop. stop.stop.path ≡ node.path) (stop_of node None) (map (λ n. stop_of node (Some n)) (range_with_len 0 node.parts)) refl
    (All-map (λ stop. stop.stop.path ≡ node.path) (λ n. stop_of node (Some n)) (range_with_len 0 node.parts) (λ _ _ _. refl))

-- the stops of a node that stands elsewhere are others
others_apart : (node other : VisibleNode) → IsElsewhere node other → All (λ stop. All (IsOther stop) (stops_of other)) (stops_of node)
others_apart node other h =
    All-weaker (λ stop. stop.stop.path ≡ node.path) (λ stop. All (IsOther stop) (stops_of other))
    (λ stop at.
    All-weaker (λ later. later.stop.path ≡ other.path) (IsOther stop) (λ later is e. h (sym is ∙ ap (λ (s : PlainStop). s.path) e ∙ at))
    (stops_of other) (own_path other))
    (stops_of node) (own_path node)

-- no stop is listed twice
pub distinct : StopsAreDistinct
distinct items =
    pairs_apart (λ stop later. later ≢ stop) (map (λ listed. listed.stop) (Stops items))
    (apart_map (λ listed. listed.stop) (λ stop later. later ≢ stop) (Stops items)
    (flat_apart IsOther IsElsewhere own_apart others_apart (all_nodes items) (nodes_apart program_sections 0 0 items)))
