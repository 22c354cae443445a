-- Moves to the previous stop, and to the line before.
use Rattle.std.specs.Prelude.{◌≡◌, refl, ℕ, ◌+◌, ◌<◌, ◌==◌, nat_lt, Bool, true, false, length, List, [], ◌∷◌, ◌++◌, filter, find, flat_map, All, Option, Some, None, option_and_then, option_map}
use Rattle.std.specs.Option.{option_or}
use Rattle.std.proofs.Common.{ap, sym, ◌∙◌, subst, arith, append_assoc}
use Rattle.std.proofs.lemmas.Bool.{eq-eqb, le-ltb, lt-ltb, ne_eqb}
use Rattle.std.proofs.lemmas.Option.{none-some, same_Some}
use Rattle.std.proofs.lemmas.List.{append-nil}
use Rattle.std.proofs.lemmas.List.Concat.{flat_map-append}
use Rattle.std.proofs.lemmas.List.Elements.{All-cons, All-contains, All-nil, All-weaker, filter-append}
use Rattle.std.proofs.lemmas.List.Folds.{find-append}
use Rattle.plcs_grammar.specs.Template.{program_sections}
use Rattle.template_tree.specs.Listings.Line.{lines}
use Rattle.template_tree.specs.Programs.PlainTree.{Forest, PlainNode}
use Rattle.template_tree.specs.Positions.Stop.{MayStand, PlainStop, Stops, VisibleNode, VisibleStop, node_stop, part_stops, stops_of, visible_at}
use Rattle.cursor_moves.specs.Move.{above_line, first_of, last_of, previous_stop, stop_above}
use Rattle.cursor_moves.specs.Private.Number.{last_number}
use Rattle.cursor_moves.specs.Private.NextPath.{first_inside, next_of, next_with}
use Rattle.cursor_moves.proofs.ListEnds.{last_append}
use Rattle.cursor_moves.proofs.Nodes.RisingLines.{Rises, rises, rises_before, rises_on}
use Rattle.cursor_moves.proofs.Nodes.VisibleNodes.{IsListedFrom, all_listed}
use Rattle.cursor_moves.proofs.Stops.DividedStops.{ahead, stop_of}
use Rattle.cursor_moves.proofs.Stops.ListedStops.{all_flat, contains_at, from_zero, within}
use Rattle.cursor_moves.proofs.Stops.StopMoves.{ahead_line, all_nodes, filter_all, filter_none, find_none, last_own, move_at, own_line, place_of}
use Rattle.cursor_moves.proofs.Stops.MoveRelation.{IsMove}

-- a visible node and the one before it have their places among all
pub record IsBehind (items : Forest) (way : List ℕ) (before_parts : ℕ) (path : List ℕ) (parts : ℕ) : Type 0 where
  pub before : List VisibleNode
  pub previous : VisibleNode
  pub here : VisibleNode
  pub behind : List VisibleNode
  pub stands : all_nodes items ≡ (before ++ previous ∷ []) ++ here ∷ behind
  pub previous_is : previous.path ≡ way
  pub previous_parts : previous.parts ≡ before_parts
  pub path_is : here.path ≡ path
  pub parts_are : here.parts ≡ parts

-- the node whose next one is there
came_from : (way : List ℕ) (f : PlainNode → Option (List ℕ)) (o : Option PlainNode) → option_and_then f o ≡ Some way
    → (node : PlainNode) × (o ≡ Some node)
came_from way f None e = absurd (none-some way e)
came_from way f (Some node) e = (node, refl)

-- a node that another one comes next to is visible
pub next_visible : (items : Forest) (way path : List ℕ) → next_of items way ≡ Some path → (node : PlainNode) × (visible_at items way ≡ Some node)
next_visible items way path e =
    came_from path (λ node. next_with (first_inside node) items way) (visible_at items way) e

-- a list of nodes begins with that of the path
pub begins_with : (nodes : List VisibleNode) (path : List ℕ) → option_map (λ node. node.path) (first_of nodes) ≡ Some path
    → (node : VisibleNode) × (others : List VisibleNode) × (nodes ≡ node ∷ others) × (node.path ≡ path)
begins_with [] path e = absurd (none-some path e)
begins_with (node ∷ others) path e = (node, others, refl, same_Some node.path path e)

-- a listed node has as many parts as the visible one at its path
listed_parts : (items : Forest) (listed : VisibleNode) (node : PlainNode) → IsListedFrom 0 items listed
    → visible_at items listed.path ≡ Some node → listed.parts ≡ part_stops node.label.kind
listed_parts items listed node h there =
    let same : Some h.node ≡ Some node =
    sym h.there ∙ sym (ap (visible_at items) (h.path_is ∙ from_zero h.number h.path)) ∙ there in
    h.parts_are ∙ ap (λ (n : PlainNode). part_stops n.label.kind) (same_Some h.node node same)

-- the places of a node and of the one before it
pub behind_of : (items : Forest) (way path : List ℕ) (node previous : PlainNode)
    → visible_at items path ≡ Some node → visible_at items way ≡ Some previous → next_of items way ≡ Some path
    → IsBehind items way (part_stops previous.label.kind) path (part_stops node.label.kind)
behind_of items way path node previous there there_before next =
    let place = place_of items way previous there_before in
    let begins = begins_with place.behind path (place.next_is ∙ next) in
    let stands : all_nodes items ≡ (place.before ++ place.here ∷ []) ++ begins.0 ∷ begins.1 =
    place.stands
    ∙ ap (λ behind. place.before ++ place.here ∷ behind) begins.2
    ∙ sym (append_assoc place.before (place.here ∷ []) (begins.0 ∷ begins.1)) in
    let listed : IsListedFrom 0 items begins.0 =
    All-contains (IsListedFrom 0 items) ((place.before ++ place.here ∷ []) ++ begins.0 ∷ begins.1) begins.0
    (subst (All (IsListedFrom 0 items)) stands (all_listed program_sections 0 0 items))
    (contains_at (place.before ++ place.here ∷ []) begins.0 begins.1) in
    record {
      before = place.before;
      previous = place.here;
      here = begins.0;
      behind = begins.1;
      stands = stands;
      previous_is = place.path_is;
      previous_parts = place.parts_are;
      path_is = begins.3;
      parts_are = listed_parts items begins.0 node listed (ap (visible_at items) begins.3 ∙ there);
    }

-- the first node has its place before all others
pub record IsFirstNode (items : Forest) (parts : ℕ) : Type 0 where
  pub here : VisibleNode
  pub behind : List VisibleNode
  pub stands : all_nodes items ≡ here ∷ behind
  pub path_is : here.path ≡ 0 ∷ []
  pub parts_are : here.parts ≡ parts

-- what is there, or else the node
abbrev taken : PlainNode → Option PlainNode → PlainNode
taken node None = node
taken node (Some there) = there

pub first_node : (items : Forest) (node : PlainNode) → visible_at items (0 ∷ []) ≡ Some node → IsFirstNode items (part_stops node.label.kind)
first_node Forest.nil node e = absurd (none-some node e)
first_node (Forest.cons label inner rest) node e =
    record {
      here = _;
      behind = _;
      stands = refl;
      path_is = refl;
      parts_are = ap (λ (n : PlainNode). part_stops n.label.kind) (ap (taken node) e);
    }

-- the last stop of these nodes is the last one of the last node
pub last_flat : (before : List VisibleNode) (previous : VisibleNode)
    → last_of (flat_map stops_of (before ++ previous ∷ [])) ≡ Some (stop_of previous (last_number previous.parts))
last_flat before previous =
    ap last_of (flat_map-append stops_of before (previous ∷ []) ∙ ap (λ stops. flat_map stops_of before ++ stops) (append-nil (stops_of previous)))
    ∙ last_append (flat_map stops_of before) (stops_of previous)
    ∙ ap (λ o. option_or o (last_of (flat_map stops_of before))) (last_own previous previous.parts)

-- the move from a part to the previous stop: to the previous part, or to the node itself
pub move_from_part : (items : Forest) (path : List ℕ) (part : ℕ) (node : PlainNode) (to : Option PlainStop)
    → visible_at items path ≡ Some node → MayStand (Some part) node.label.kind
    → to ≡ Some record { path = path; part = last_number part }
    → IsMove previous_stop (Stops items) record { path = path; part = Some part } to
move_from_part items path part node to there stands goes =
    let place = place_of items path node there in
    let here = place.here in
    let stop : PlainStop = record { path = path; part = Some part } in
    let plain : VisibleStop → PlainStop = λ chosen. chosen.stop in
    move_at previous_stop items stop place.before here place.behind to place.stands place.path_is
    (within (Some part) node.label.kind here.parts place.parts_are stands)
    (goes
    ∙ sym
    (ap (option_map plain)
    (last_append (flat_map stops_of place.before) (ahead here (Some part))
    ∙ ap (λ o. option_or o (last_of (flat_map stops_of place.before))) (last_own here part))
    ∙ ap (λ way. Some record { path = way; part = last_number part }) place.path_is))

-- the move from a node to the previous stop: to the last stop of the node before it
pub move_from_node : (items : Forest) (path way : List ℕ) (node previous : PlainNode) (to : Option PlainStop)
    → visible_at items path ≡ Some node → visible_at items way ≡ Some previous → next_of items way ≡ Some path
    → to ≡ Some record { path = way; part = last_number (part_stops previous.label.kind) }
    → IsMove previous_stop (Stops items) (node_stop path) to
move_from_node items path way node previous to there there_before next goes =
    let place = behind_of items way path node previous there there_before next in
    let plain : VisibleStop → PlainStop = λ chosen. chosen.stop in
    move_at previous_stop items (node_stop path) (place.before ++ place.previous ∷ []) place.here place.behind to place.stands place.path_is tt
    (goes
    ∙ sym
    (ap (λ stops. option_map plain (last_of stops)) (append-nil (flat_map stops_of (place.before ++ place.previous ∷ [])))
    ∙ ap (option_map plain) (last_flat place.before place.previous)
    ∙ ap (λ way. Some record { path = way; part = last_number place.previous.parts }) place.previous_is
    ∙ ap (λ parts. Some record { path = way; part = last_number parts }) place.previous_parts))

-- no stop is before the first node
pub move_from_first : (items : Forest) (path : List ℕ) (node : PlainNode) (to : Option PlainStop)
    → visible_at items path ≡ Some node → path ≡ 0 ∷ [] → to ≡ None
    → IsMove previous_stop (Stops items) (node_stop path) to
move_from_first items path node to there first goes =
    let place = first_node items node (sym (ap (visible_at items) first) ∙ there) in
    move_at previous_stop items (node_stop path) [] place.here place.behind to place.stands (place.path_is ∙ sym first) tt goes

-- nodes stand on lines before the one up to which they rise
nodes_above : (low high : ℕ) (nodes : List VisibleNode) → Rises low high nodes → All (λ node. node.line < high) nodes
nodes_above low high [] h = All-nil _
nodes_above low high (node ∷ nodes) h =
    All-cons (λ other. other.line < high) node nodes (omega (arith, rises_on (node.line + 1) high nodes h.1))
    (nodes_above (node.line + 1) high nodes h.1)

-- the stops of these nodes stand on lines before the one up to which they rise
flat_above : (low high : ℕ) (nodes : List VisibleNode) → Rises low high nodes → All (λ stop. stop.line < high) (flat_map stops_of nodes)
flat_above low high nodes h =
    all_flat (λ stop. stop.line < high) (λ node. node.line < high) (λ node below. own_line (λ line. line < high) node below) nodes
    (nodes_above low high nodes h)

-- the stops before a node and one of its stops that stand on lines before
above_here : (low : ℕ) (nodes : List VisibleNode) (here : VisibleNode) (part : Option ℕ) → Rises low here.line nodes
    → above_line here.line (flat_map stops_of nodes ++ ahead here part) ≡ flat_map stops_of nodes
above_here low nodes here part h =
    let above : VisibleStop → Bool = λ stop. nat_lt stop.line here.line in
    filter-append above (flat_map stops_of nodes) (ahead here part)
    ∙ ap (λ stops. filter above (flat_map stops_of nodes) ++ stops)
    (filter_none above (ahead here part) (ahead_line (λ line. nat_lt line here.line ≡ false) here part (le-ltb here.line here.line (omega arith))))
    ∙ append-nil (filter above (flat_map stops_of nodes))
    ∙ filter_all above (flat_map stops_of nodes)
    (All-weaker (λ stop. stop.line < here.line) (λ stop. above stop ≡ true) (λ stop below. lt-ltb stop.line here.line below)
    (flat_map stops_of nodes) (flat_above low here.line nodes h))

-- the first stop on the line of a node is its own
first_on_line : (low : ℕ) (before : List VisibleNode) (previous : VisibleNode) (behind : List VisibleStop) → Rises low previous.line before
    → find (λ stop. stop.line == previous.line) (flat_map stops_of (before ++ previous ∷ []) ++ behind) ≡ Some (stop_of previous None)
first_on_line low before previous behind h =
    let same : VisibleStop → Bool = λ stop. stop.line == previous.line in
    let front = flat_map stops_of before in
    let none : find same front ≡ None =
    find_none same front
    (All-weaker (λ stop. stop.line < previous.line) (λ stop. same stop ≡ false)
    (λ stop below. ne_eqb stop.line previous.line (λ e. absurd (omega (arith, below, e)))) front (flat_above low previous.line before h)) in
    ap (λ stops. find same (stops ++ behind)) (flat_map-append stops_of before (previous ∷ []))
    ∙ ap (find same) (append_assoc front (flat_map stops_of (previous ∷ [])) behind)
    ∙ find-append same front (flat_map stops_of (previous ∷ []) ++ behind)
    ∙ ap (λ o. option_or o (find same (flat_map stops_of (previous ∷ []) ++ behind))) none
    ∙ rw (eq-eqb previous.line previous.line refl) refl

-- the move to the line before: to the previous node
pub move_above : (items : Forest) (stop : PlainStop) (way : List ℕ) (node previous : PlainNode) (to : Option PlainStop)
    → visible_at items stop.path ≡ Some node → MayStand stop.part node.label.kind
    → visible_at items way ≡ Some previous → next_of items way ≡ Some stop.path
    → to ≡ Some (node_stop way)
    → IsMove stop_above (Stops items) stop to
move_above items stop way node previous to there stands there_before next goes =
    let place = behind_of items way stop.path node previous there there_before next in
    let here = place.here in
    let nodes = place.before ++ place.previous ∷ [] in
    let plain : VisibleStop → PlainStop = λ chosen. chosen.stop in
    let before = flat_map stops_of nodes ++ ahead here stop.part in
    let high = 0 + length (lines true 0 program_sections items) in
    let up_to : Rises 0 here.line nodes =
    rises_before 0 high nodes here place.behind (subst (Rises 0 high) place.stands (rises program_sections 0 0 items)) in
    let near : last_of (above_line here.line before) ≡ Some (stop_of place.previous (last_number place.previous.parts)) =
    ap last_of (above_here 0 nodes here stop.part up_to) ∙ last_flat place.before place.previous in
    move_at stop_above items stop nodes here place.behind to place.stands place.path_is
    (within stop.part node.label.kind here.parts place.parts_are stands)
    (goes
    ∙ sym
    (ap (λ o. option_map plain (option_and_then (λ (nearest : VisibleStop). find (λ other. other.line == nearest.line) before) o)) near
    ∙ ap (option_map plain)
    (first_on_line 0 place.before place.previous (ahead here stop.part) (rises_before 0 here.line place.before place.previous [] up_to))
    ∙ ap (λ path. Some (node_stop path)) place.previous_is))

-- no line with a stop is before that of the first node
pub move_above_first : (items : Forest) (stop : PlainStop) (node : PlainNode) (to : Option PlainStop)
    → visible_at items stop.path ≡ Some node → MayStand stop.part node.label.kind → stop.path ≡ 0 ∷ [] → to ≡ None
    → IsMove stop_above (Stops items) stop to
move_above_first items stop node to there stands first goes =
    let place = first_node items node (sym (ap (visible_at items) first) ∙ there) in
    let here = place.here in
    let plain : VisibleStop → PlainStop = λ chosen. chosen.stop in
    let none : above_line here.line (ahead here stop.part) ≡ [] = above_here here.line [] here stop.part (omega arith) in
    move_at stop_above items stop [] here place.behind to place.stands (place.path_is ∙ sym first)
    (within stop.part node.label.kind here.parts place.parts_are stands)
    (goes
    ∙ sym
    (ap
    (λ stops.
    option_map plain
    (option_and_then (λ (nearest : VisibleStop). find (λ other. other.line == nearest.line) (ahead here stop.part)) (last_of stops)))
    none))
