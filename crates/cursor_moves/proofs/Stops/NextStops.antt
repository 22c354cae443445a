-- Moves to the next stop, and to the next line.
use Rattle.std.specs.Prelude.{◌≡◌, refl, ℕ, ◌+◌, nat_lt, Bool, true, false, length, List, [], ◌∷◌, ◌++◌, find, flat_map, Option, Some, None, option_map}
use Rattle.std.specs.Option.{option_or}
use Rattle.std.proofs.Common.{ap, sym, ◌∙◌, subst, arith}
use Rattle.std.proofs.lemmas.Bool.{le-ltb, lt-ltb}
use Rattle.std.proofs.lemmas.List.Folds.{find-append}
use Rattle.template_tree.specs.Programs.PlainTree.{Forest, PlainNode}
use Rattle.plcs_grammar.specs.Template.{program_sections}
use Rattle.template_tree.specs.Listings.Line.{lines}
use Rattle.template_tree.specs.Positions.Stop.{MayStand, PlainStop, Stops, VisibleNode, VisibleStop, node_stop, part_stops, stops_of, visible_at}
use Rattle.cursor_moves.specs.Move.{first_of, next_stop, stop_below}
use Rattle.cursor_moves.specs.Private.Number.{next_number}
use Rattle.cursor_moves.specs.Private.NextPath.{next_of}
use Rattle.cursor_moves.proofs.ListEnds.{first_append, map_map, map_or}
use Rattle.cursor_moves.proofs.Nodes.RisingLines.{Rises, rises, rises_behind}
use Rattle.cursor_moves.proofs.Stops.DividedStops.{rear, stop_of}
use Rattle.cursor_moves.proofs.Stops.ListedStops.{within}
use Rattle.cursor_moves.proofs.Stops.StopMoves.{find_none, first_rear, move_at, place_of, rear_line}
use Rattle.cursor_moves.proofs.Stops.MoveRelation.{IsMove}

-- the first of the stops of all nodes is the first node's own
first_flat : (nodes : List VisibleNode) → first_of (flat_map stops_of nodes) ≡ option_map (λ node. stop_of node None) (first_of nodes)
first_flat [] = refl
first_flat (node ∷ nodes) = refl

-- the own stop of the first of these nodes, by its path
own_path : (nodes : List VisibleNode) (next : Option (List ℕ)) → option_map (λ node. node.path) (first_of nodes) ≡ next
    → option_map (λ chosen. chosen.stop) (option_map (λ node. stop_of node None) (first_of nodes)) ≡ option_map node_stop next
own_path [] next e = ap (option_map node_stop) e
own_path (node ∷ nodes) next e = ap (option_map node_stop) e

-- the move to the next stop: to the next part, or else to the next node
pub next_move : (items : Forest) (stop : PlainStop) (node : PlainNode) (to : Option PlainStop)
    → visible_at items stop.path ≡ Some node → MayStand stop.part node.label.kind
    → to
    ≡ option_or (option_map (λ part. record { path = stop.path; part = Some part }) (next_number (part_stops node.label.kind) stop.part))
    (option_map node_stop (next_of items stop.path))
    → IsMove next_stop (Stops items) stop to
next_move items stop node to there stands goes =
    let place = place_of items stop.path node there in
    let here = place.here in
    let plain : VisibleStop → PlainStop = λ chosen. chosen.stop in
    let next = next_number (part_stops node.label.kind) stop.part in
    let part : option_map plain (first_of (rear here stop.part)) ≡ option_map (λ part. record { path = stop.path; part = Some part }) next =
    ap (option_map plain) (first_rear here stop.part)
    ∙ map_map plain (λ n. stop_of here (Some n)) (next_number here.parts stop.part)
    ∙ ap (λ parts. option_map (λ n. plain (stop_of here (Some n))) (next_number parts stop.part)) place.parts_are
    ∙ ap (λ way. option_map (λ n. record { path = way; part = Some n }) next) place.path_is in
    let behind : option_map plain (first_of (flat_map stops_of place.behind)) ≡ option_map node_stop (next_of items stop.path) =
    ap (option_map plain) (first_flat place.behind) ∙ own_path place.behind (next_of items stop.path) place.next_is in
    move_at next_stop items stop place.before here place.behind to place.stands place.path_is
    (within stop.part node.label.kind here.parts place.parts_are stands)
    (goes
    ∙ sym
    (ap (option_map plain) (first_append (rear here stop.part) (flat_map stops_of place.behind))
    ∙ map_or plain (first_of (rear here stop.part)) (first_of (flat_map stops_of place.behind))
    ∙ ap (λ o. option_or o (option_map plain (first_of (flat_map stops_of place.behind)))) part
    ∙ ap (λ o. option_or (option_map (λ part. record { path = stop.path; part = Some part }) next) o) behind))

-- the first stop on a later line among the stops of nodes on later lines is the first node's own
later_flat : (line high : ℕ) (nodes : List VisibleNode) → Rises (line + 1) high nodes
    → find (λ stop. nat_lt line stop.line) (flat_map stops_of nodes) ≡ option_map (λ node. stop_of node None) (first_of nodes)
later_flat line high [] h = refl
later_flat line high (node ∷ nodes) h = let e : nat_lt line node.line ≡ true = lt-ltb line node.line (omega (arith, h.0)) in rw e refl

-- the move to the next line: to the next node
pub move_below : (items : Forest) (stop : PlainStop) (node : PlainNode) (to : Option PlainStop)
    → visible_at items stop.path ≡ Some node → MayStand stop.part node.label.kind
    → to ≡ option_map node_stop (next_of items stop.path)
    → IsMove stop_below (Stops items) stop to
move_below items stop node to there stands goes =
    let place = place_of items stop.path node there in
    let here = place.here in
    let plain : VisibleStop → PlainStop = λ chosen. chosen.stop in
    let later : VisibleStop → Bool = λ other. nat_lt here.line other.line in
    let high = 0 + length (lines true 0 program_sections items) in
    let up_to : Rises 0 high (place.before ++ here ∷ place.behind) =
    subst (Rises 0 high) place.stands (rises program_sections 0 0 items) in
    let same : find later (rear here stop.part) ≡ None =
    find_none later (rear here stop.part)
    (rear_line (λ line. nat_lt here.line line ≡ false) here stop.part (le-ltb here.line here.line (omega arith))) in
    let behind : find later (flat_map stops_of place.behind) ≡ option_map (λ other. stop_of other None) (first_of place.behind) =
    later_flat here.line high place.behind (rises_behind 0 high place.before here place.behind up_to) in
    move_at stop_below items stop place.before here place.behind to place.stands place.path_is
    (within stop.part node.label.kind here.parts place.parts_are stands)
    (goes
    ∙ sym
    (ap (option_map plain)
    (find-append later (rear here stop.part) (flat_map stops_of place.behind)
    ∙ ap (λ o. option_or o (find later (flat_map stops_of place.behind))) same
    ∙ behind)
    ∙ own_path place.behind (next_of items stop.path) place.next_is))
