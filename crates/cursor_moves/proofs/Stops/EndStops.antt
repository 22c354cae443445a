-- The first and the last stop.
use Rattle.std.specs.Prelude.{◌≡◌, refl, ℕ, ◌+◌, List, [], ◌∷◌, ◌++◌, length, flat_map, Some, None, option_map, IsSome, IsSomeAnd}
use Rattle.std.proofs.Common.{ap, sym, ◌∙◌, subst, arith}
use Rattle.std.proofs.lemmas.Option.{none-some, same_Some, slice_get_past}
use Rattle.plcs_grammar.specs.declared.node_kind.Sort.{Sort}
use Rattle.template_tree.specs.Programs.PlainTree.{Forest, PlainNode, nodes}
use Rattle.template_tree.specs.Positions.Path.{node_at}
use Rattle.template_tree.specs.Programs.Program.{IsProgram}
use Rattle.template_tree.specs.Positions.Stop.{IsStop, PlainStop, Stops, VisibleNode, node_stop, part_stops, stops_of, visible_at}
use Rattle.cursor_moves.specs.Move.{first_of, last_of}
use Rattle.cursor_moves.specs.Private.Number.{last_number}
use Rattle.cursor_moves.specs.Private.NextPath.{IsLastBelow, next_of}
use Rattle.cursor_moves.proofs.FoundNodes.{holds}
use Rattle.cursor_moves.proofs.Nodes.PathSteps.{seen}
use Rattle.cursor_moves.proofs.Nodes.PreviousNodes.{last_from, last_of_all}
use Rattle.cursor_moves.proofs.Stops.ListedStops.{there_is}
use Rattle.cursor_moves.proofs.Stops.PreviousStops.{first_node, last_flat}
use Rattle.cursor_moves.proofs.Stops.StopMoves.{all_nodes, place_of}

-- a program has a first node
has_first : (items : Forest) → IsProgram items → (node : PlainNode) × (visible_at items (0 ∷ []) ≡ Some node)
has_first Forest.nil p =
    let e : [] ≡ Sort.Main ∷ p.listed.1 = p.listed.2 ∙ ap (λ own. own ++ p.listed.1) p.listed.3 in absurd (cc)
has_first (Forest.cons label inner rest) p = (record { label = label; inner = inner }, refl)

-- its own stop is the first one
pub first_listed : (items : Forest) (way : List ℕ) → IsProgram items → way ≡ 0 ∷ []
    → option_map (λ listed. listed.stop) (first_of (Stops items)) ≡ Some (node_stop way)
first_listed items way p way_is =
    let node = has_first items p in
    let place = first_node items node.0 node.1 in
    ap (λ nodes. option_map (λ listed. listed.stop) (first_of (flat_map stops_of nodes))) place.stands
    ∙ ap (λ path. Some (node_stop path)) (place.path_is ∙ sym way_is)

pub first_stands : (items : Forest) (way : List ℕ) → IsProgram items → way ≡ 0 ∷ [] → IsStop items (node_stop way)
first_stands items way p way_is =
    let node = has_first items p in holds (λ _. Unit {0}) (visible_at items way) node.0 (ap (visible_at items) way_is ∙ node.1) tt

-- a list of nodes that has no first one
none_left : (nodes : List VisibleNode) → option_map (λ node. node.path) (first_of nodes) ≡ None → nodes ≡ []
none_left [] e = refl
none_left (node ∷ others) e = absurd (none-some node.path (sym e))

-- the last visible node, with no other behind it
pub record IsEnd (items : Forest) (way : List ℕ) : Type 0 where
  pub node : PlainNode
  pub visible : visible_at items way ≡ Some node
  pub none : next_of items way ≡ None

-- the last node of the last item is it
pub end_at : (items : Forest) (k : ℕ) (begin way rest : List ℕ) → k + 1 ≡ length (nodes items) → begin ≡ k ∷ [] → way ≡ begin ++ rest
    → IsSomeAnd (visible_at items begin) (λ node. IsLastBelow node rest) → IsEnd items way
end_at items k begin way rest last_is begin_is way_is below =
    let item = there_is (λ node. IsLastBelow node rest) (visible_at items (k ∷ []))
    (subst (λ path. IsSomeAnd (visible_at items path) (λ node. IsLastBelow node rest)) begin_is below) in
    let last = last_from items (k ∷ []) rest item.0 item.1 item.2 in
    let same : way ≡ k ∷ rest = way_is ∙ ap (λ path. path ++ rest) begin_is in
    record {
      node = last.node;
      visible = ap (visible_at items) same ∙ last.visible;
      none = ap (next_of items) same ∙ last_of_all items k rest last (slice_get_past (nodes items) (k + 1) (omega (arith, last_is)));
    }

-- its last stop is the last of all
pub last_listed : (items : Forest) (way : List ℕ) (to : PlainStop) → IsEnd items way
    → IsSomeAnd (node_at items way) (λ node. to ≡ record { path = way; part = last_number (part_stops node.label.kind) })
    → option_map (λ listed. listed.stop) (last_of (Stops items)) ≡ Some to
last_listed items way to end last =
    let there = there_is (λ node. to ≡ record { path = way; part = last_number (part_stops node.label.kind) }) (node_at items way) last in
    let same : there.0 ≡ end.node = same_Some there.0 end.node (sym there.1 ∙ seen items way end.node end.visible) in
    let place = place_of items way end.node end.visible in
    let behind : place.behind ≡ [] = none_left place.behind (place.next_is ∙ end.none) in
    let all : all_nodes items ≡ place.before ++ place.here ∷ [] =
    place.stands ∙ ap (λ nodes. place.before ++ place.here ∷ nodes) behind in
    ap (λ nodes. option_map (λ listed. listed.stop) (last_of (flat_map stops_of nodes))) all
    ∙ ap (option_map (λ listed. listed.stop)) (last_flat place.before place.here)
    ∙ ap (λ parts. Some record { path = place.here.path; part = last_number parts }) place.parts_are
    ∙ ap (λ path. Some record { path = path; part = last_number (part_stops end.node.label.kind) }) place.path_is
    ∙ sym (ap Some there.2 ∙ ap (λ (n : PlainNode). Some record { path = way; part = last_number (part_stops n.label.kind) }) same)

pub end_there : (items : Forest) (way : List ℕ) → IsEnd items way → IsSome (node_at items way)
end_there items way end = rw (seen items way end.node end.visible) refl
