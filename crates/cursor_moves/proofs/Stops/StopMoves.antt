-- Where a move begins among the visible stops.
use Rattle.std.specs.Prelude.{◌≡◌, refl, ℕ, zero, suc, ◌+◌, ◌-◌, nat_lt, Bool, true, false, if◌then◌else◌, List, [], ◌∷◌, ◌++◌, map, filter, find, flat_map, All, Option, Some, None, option_and_then, option_map}
use Rattle.std.specs.List.{range_with_len}
use Rattle.std.specs.Option.{option_or}
use Rattle.std.proofs.Common.{ap, sym, ◌∙◌, arith, add-one}
use Rattle.std.proofs.lemmas.Bool.{lt-ltb}
use Rattle.std.proofs.lemmas.Bool.Decides.{nat_tests}
use Rattle.std.proofs.lemmas.Option.{none-some}
use Rattle.std.proofs.lemmas.List.Elements.{All-cons, All-head, All-map, All-nil, All-tail}
use Rattle.std.proofs.lemmas.List.FromFn.{map-range_with_len_more}
use Rattle.plcs_grammar.specs.Template.{program_sections}
use Rattle.template_tree.specs.Programs.PlainTree.{Forest, PlainNode}
use Rattle.template_tree.specs.Positions.Stop.{PlainStop, Stops, VisibleNode, VisibleStop, part_stops, stops_of, visible_at, visible_nodes}
use Rattle.cursor_moves.specs.Move.{Choice, first_of, last_of}
use Rattle.cursor_moves.specs.Private.Number.{last_number, next_number}
use Rattle.cursor_moves.specs.Private.NextPath.{first_inside, next_of, next_with}
use Rattle.cursor_moves.proofs.ListEnds.{last_append}
use Rattle.cursor_moves.proofs.Nodes.NextNodes.{IsPlaced, from_none, placed}
use Rattle.cursor_moves.proofs.Stops.DividedStops.{IsWithin, ahead, rear, stop_of, stops_divided}
use Rattle.cursor_moves.proofs.Stops.ListedStops.{from_zero}
use Rattle.cursor_moves.proofs.Stops.MoveRelation.{IsMove}

-- the visible nodes
abbrev pub all_nodes : Forest → List VisibleNode
all_nodes items = visible_nodes program_sections 0 0 items

-- a visible node has its place among all, with the one that comes next behind it
pub place_of : (items : Forest) (path : List ℕ) (node : PlainNode) → visible_at items path ≡ Some node
    → IsPlaced (all_nodes items) path (part_stops node.label.kind) (next_of items path)
place_of items [] node e = absurd (none-some node e)
place_of items (k ∷ path) node e =
    let place = placed program_sections 0 0 items k path node e in
    record {
      before = place.before;
      here = place.here;
      behind = place.behind;
      stands = place.stands;
      path_is = place.path_is ∙ from_zero k path;
      parts_are = place.parts_are;
      next_is =
          place.next_is
          ∙ from_none (next_with (first_inside node) items (k ∷ path))
          ∙ sym (ap (option_and_then (λ there. next_with (first_inside there) items (k ∷ path))) e);
    }

-- a move goes where the choice says
pub move_at : (choice : Choice) (items : Forest) (stop : PlainStop) (before : List VisibleNode) (here : VisibleNode) (behind : List VisibleNode)
    (to : Option PlainStop)
    → all_nodes items ≡ before ++ here ∷ behind → here.path ≡ stop.path → IsWithin stop.part here.parts
    → to
    ≡ option_map (λ chosen. chosen.stop)
    (choice (flat_map stops_of before ++ ahead here stop.part) (stop_of here stop.part) (rear here stop.part ++ flat_map stops_of behind))
    → IsMove choice (Stops items) stop to
move_at choice items stop before here behind to stands path_is within goes =
    record {
      before = flat_map stops_of before ++ ahead here stop.part;
      here = stop_of here stop.part;
      behind = rear here stop.part ++ flat_map stops_of behind;
      stands = stops_divided (all_nodes items) before here behind stop.part stands within;
      is_at = ap (λ way. record { path = way; part = stop.part }) path_is;
      goes = goes;
    }

-- the first of some parts in order
first_range : (node : VisibleNode) (first parts : ℕ)
    → first_of (map (λ n. stop_of node (Some n)) (range_with_len first parts)) ≡ (if nat_lt 0 parts then Some (stop_of node (Some first)) else None)
first_range node first zero = refl
first_range node first (suc parts) = rw (lt-ltb 0 (suc parts) (omega arith)) refl

-- the part behind a number is there exactly where parts are left
left_over : (first parts : ℕ) → nat_lt 0 (parts - first) ≡ nat_lt first parts
left_over first parts = grind (arith, nat_tests)

-- a choice of a stop by a choice of its part
chosen : (b : Bool) (node : VisibleNode) (part : ℕ)
    → (if b then Some (stop_of node (Some part)) else None) ≡ option_map (λ n. stop_of node (Some n)) (if b then Some part else None)
chosen true node part = refl
chosen false node part = refl

-- the first stop of the node behind one of its stops
pub first_rear : (node : VisibleNode) (part : Option ℕ)
    → first_of (rear node part) ≡ option_map (λ n. stop_of node (Some n)) (next_number node.parts part)
first_rear node None = first_range node 0 node.parts ∙ chosen (nat_lt 0 node.parts) node 0
first_rear node (Some part) =
    first_range node (part + 1) (node.parts - (part + 1))
    ∙ ap (λ b. if b then Some (stop_of node (Some (part + 1))) else None) (left_over (part + 1) node.parts)
    ∙ chosen (nat_lt (part + 1) node.parts) node (part + 1)

-- the last stop of the node, where it has so many parts
pub last_own : (node : VisibleNode) (parts : ℕ)
    → last_of (stop_of node None ∷ map (λ n. stop_of node (Some n)) (range_with_len 0 parts)) ≡ Some (stop_of node (last_number parts))
last_own node zero = refl
last_own node (suc parts) =
    let stop : ℕ → VisibleStop = λ n. stop_of node (Some n) in
    let z : 0 + parts ≡ parts = omega arith in
    let more : map stop (range_with_len 0 (suc parts)) ≡ map stop (range_with_len 0 parts) ++ stop parts ∷ [] =
    ap (λ n. map stop (range_with_len 0 n)) (sym (add-one parts)) ∙ map-range_with_len_more stop 0 parts parts z in
    let m : suc parts - 1 ≡ parts = omega arith in
    ap (λ stops. option_or (last_of stops) (Some (stop_of node None))) more
    ∙ ap (λ o. option_or o (Some (stop_of node None))) (last_append (map stop (range_with_len 0 parts)) (stop parts ∷ []))
    ∙ ap (λ n. Some (stop_of node (Some n))) (sym m)
    ∙ sym (ap (λ b. Some (stop_of node (if b then Some (suc parts - 1) else None))) (lt-ltb 0 (suc parts) (omega arith)))

-- where all fail a test none is found
pub find_none : {X : Type 0} (test : X → Bool) (xs : List X) → All (λ x. test x ≡ false) xs → find test xs ≡ None
find_none test [] h = refl
find_none test (x ∷ xs) h =
    rw (All-head (λ x. test x ≡ false) x xs h) (find_none test xs (All-tail (λ x. test x ≡ false) x xs h))

-- where all fail a test none is kept
pub filter_none : {X : Type 0} (test : X → Bool) (xs : List X) → All (λ x. test x ≡ false) xs → filter test xs ≡ []
filter_none test [] h = refl
filter_none test (x ∷ xs) h =
    rw (All-head (λ x. test x ≡ false) x xs h) (filter_none test xs (All-tail (λ x. test x ≡ false) x xs h))

-- where all pass a test all are kept
pub filter_all : {X : Type 0} (test : X → Bool) (xs : List X) → All (λ x. test x ≡ true) xs → filter test xs ≡ xs
filter_all test [] h = refl
filter_all test (x ∷ xs) h =
    rw (All-head (λ x. test x ≡ true) x xs h) (ap (λ ys. x ∷ ys) (filter_all test xs (All-tail (λ x. test x ≡ true) x xs h)))

-- the stops of a node behind one stand on its line
pub rear_line : (P : ℕ → Type 0) (node : VisibleNode) (part : Option ℕ) → P node.line → All (λ stop. P stop.line) (rear node part)
rear_line P node None h = All-map (λ stop. P stop.line) (λ n. stop_of node (Some n)) (range_with_len 0 node.parts) (λ _ _ _. h)
rear_line P node (Some part) h =
    All-map (λ stop. P stop.line) (λ n. stop_of node (Some n)) (range_with_len (part + 1) (node.parts - (part + 1))) (λ _ _ _. h)

-- and those before it
pub ahead_line : (P : ℕ → Type 0) (node : VisibleNode) (part : Option ℕ) → P node.line → All (λ stop. P stop.line) (ahead node part)
ahead_line P node None h = All-nil _
ahead_line P node (Some part) h =
    All-cons (λ stop. P stop.line) (stop_of node None) (map (λ n. stop_of node (Some n)) (range_with_len 0 part)) h
    (All-map (λ stop. P stop.line) (λ n. stop_of node (Some n)) (range_with_len 0 part) (λ _ _ _. h))

-- as do all
pub own_line : (P : ℕ → Type 0) (node : VisibleNode) → P node.line → All (λ stop. P stop.line) (stops_of node)
own_line P node h = ahead_line P node (Some node.parts) h
