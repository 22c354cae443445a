-- The cursor may stand exactly at the visible stops.
use Rattle.std.specs.Prelude.{◌≡◌, refl, ℕ, ◌+◌, ◌<◌, List, [], ◌∷◌, ◌++◌, length, map, flat_map, All, Contains, Option, Some, None, IsSomeAnd}
use Rattle.std.specs.List.{range_with_len}
use Rattle.std.proofs.Common.{ap, sym, ◌∙◌, subst, arith, length-append}
use Rattle.std.proofs.lemmas.List.{get_or_at, map-append}
use Rattle.std.proofs.lemmas.List.FromFn.{get_or-range_with_len, length-range_with_len}
use Rattle.std.proofs.lemmas.List.Elements.{All-append, All-cons, All-contains, All-head, All-map, All-nil, All-tail, All-weaker}
use Rattle.plcs_grammar.specs.declared.node_kind.NodeKind.{NodeKind}
use Rattle.plcs_grammar.specs.Template.{program_sections}
use Rattle.template_tree.specs.Programs.PlainTree.{Forest, PlainNode}
use Rattle.template_tree.specs.Positions.Stop.{IsStop, MayStand, PlainStop, Stops, VisibleNode, VisibleStop, part_stops, stops_of, visible_at, visible_nodes}
use Rattle.cursor_moves.specs.StopLaws.{StopsAreListed}
use Rattle.cursor_moves.proofs.Nodes.NextNodes.{from, placed}
use Rattle.cursor_moves.proofs.Nodes.VisibleNodes.{IsListedFrom, all_listed}
use Rattle.cursor_moves.proofs.Stops.DividedStops.{IsWithin, ahead, rear, stop_of, stops_divided}

-- a part where the cursor may stand is one of so many
pub within : (part : Option ℕ) (kind : NodeKind) (parts : ℕ) → parts ≡ part_stops kind → MayStand part kind → IsWithin part parts
within None kind parts e h = tt
within (Some part) kind parts e h = omega (arith, e, h)

-- a path counted from none
pub from_zero : (k : ℕ) (path : List ℕ) → from 0 (k ∷ path) ≡ k ∷ path
from_zero k path = let z : 0 + k ≡ k = omega arith in ap (λ n. n ∷ path) z

-- what holds of the node that is there
pub there_holds : (P : PlainNode → Type 0) (o : Option PlainNode) (node : PlainNode) → o ≡ Some node → P node → IsSomeAnd o P
there_holds P o node e h = rw e h

-- the node of which it holds
pub there_is : (P : PlainNode → Type 0) (o : Option PlainNode) → IsSomeAnd o P → (node : PlainNode) × (o ≡ Some node) × P node
there_is P None h = absurd h
there_is P (Some node) h = (node, refl, h)

-- what holds of all stops of each node holds of all stops
pub all_flat : (P : VisibleStop → Type 0) (Q : VisibleNode → Type 0) → ((node : VisibleNode) → Q node → All P (stops_of node))
    → (nodes : List VisibleNode) → All Q nodes → All P (flat_map stops_of nodes)
all_flat P Q law [] h = All-nil P
all_flat P Q law (node ∷ nodes) h =
    All-append P (stops_of node) (flat_map stops_of nodes) (law node (All-head Q node nodes h))
    (all_flat P Q law nodes (All-tail Q node nodes h))

-- the numbers of a range
range_below : (n : ℕ) → All (λ k. k < n) (range_with_len 0 n)
range_below n k d h =
    let inside : k < n = omega (arith, h, length-range_with_len 0 n) in
    let z : 0 + k ≡ k = omega arith in
    subst (λ m. m < n) (sym (get_or-range_with_len 0 n k d inside ∙ z)) inside

-- each stop of a listed node is a stop
own_stops : (items : Forest) (node : VisibleNode) → IsListedFrom 0 items node → All (λ listed. IsStop items listed.stop) (stops_of node)
own_stops items node h =
    let there : visible_at items node.path ≡ Some h.node =
    ap (visible_at items) (h.path_is ∙ from_zero h.number h.path) ∙ h.there in
    All-cons (λ listed. IsStop items listed.stop) (stop_of node None) (map (λ n. stop_of node (Some n)) (range_with_len 0 node.parts))
    (there_holds (λ _. Unit {0}) (visible_at items node.path) h.node there tt)
    (All-map (λ listed. IsStop items listed.stop) (λ n. stop_of node (Some n)) (range_with_len 0 node.parts)
    (All-weaker (λ n. n < node.parts) (λ n. IsStop items (stop_of node (Some n)).stop)
    (λ n below. there_holds (λ there. n < part_stops there.label.kind) (visible_at items node.path) h.node there (omega (arith, below, h.parts_are)))
    (range_with_len 0 node.parts) (range_below node.parts)))

-- each listed stop is a stop
pub all_stops : (items : Forest) → All (λ listed. IsStop items listed.stop) (Stops items)
all_stops items =
    all_flat (λ listed. IsStop items listed.stop) (IsListedFrom 0 items) (own_stops items)
    (visible_nodes program_sections 0 0 items) (all_listed program_sections 0 0 items)

-- a list has what stands in it
pub contains_at : {X : Type 0} (xs : List X) (x : X) (ys : List X) → Contains (xs ++ x ∷ ys) x
contains_at xs x ys = (length xs, omega (arith, length-append xs (x ∷ ys)), get_or_at xs x ys x (length xs) refl)

-- a stop stands in the list
stop_stands : (items : Forest) (path : List ℕ) (part : Option ℕ) → IsStop items record { path = path; part = part }
    → Contains (map (λ listed. listed.stop) (Stops items)) record { path = path; part = part }
stop_stands items [] part h = absurd h
stop_stands items (k ∷ path) part h =
    let there = there_is (λ node. MayStand part node.label.kind) (visible_at items (k ∷ path)) h in
    let place = placed program_sections 0 0 items k path there.0 there.1 in
    let stop : VisibleStop → PlainStop = λ listed. listed.stop in
    let before = flat_map stops_of place.before ++ ahead place.here part in
    let behind = rear place.here part ++ flat_map stops_of place.behind in
    let divided : map stop (Stops items) ≡ map stop before ++ record { path = place.here.path; part = part } ∷ map stop behind =
    ap (map stop)
    (stops_divided (visible_nodes program_sections 0 0 items) place.before place.here place.behind part place.stands
    (within part there.0.label.kind place.here.parts place.parts_are there.2))
    ∙ map-append stop before (stop_of place.here part ∷ behind) in
    let at : place.here.path ≡ k ∷ path = place.path_is ∙ from_zero k path in
    subst (λ stops. Contains stops record { path = k ∷ path; part = part })
    (sym (divided ∙ ap (λ way. map stop before ++ record { path = way; part = part } ∷ map stop behind) at))
    (contains_at (map stop before) record { path = k ∷ path; part = part } (map stop behind))

-- the cursor may stand exactly at the listed stops
pub listed : StopsAreListed
listed items stop = (
  stop_stands items stop.path stop.part,
  λ h. All-contains (IsStop items) (map (λ listed. listed.stop) (Stops items)) stop
      (All-map (IsStop items) (λ listed. listed.stop) (Stops items) (all_stops items)) h,
)
