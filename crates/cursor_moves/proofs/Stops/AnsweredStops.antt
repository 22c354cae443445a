-- The answers of moves, as the code finds them.
use Rattle.std.specs.Prelude.{◌≡◌, refl, ℕ, zero, suc, ◌-◌, ◌<◌, ◌≤◌, nat_lt, Bool, true, false, if◌then◌else◌, IsSomeAnd, SomeIff, List, [], ◌∷◌, ◌++◌, All, Option, Some, None, option_map, IfNone, IfSome, IsSome}
use Rattle.std.specs.Option.{option_or}
use Rattle.std.proofs.Common.{ap, sym, ◌∙◌, subst, arith, append_assoc}
use Rattle.std.proofs.lemmas.Bool.{lt-ltb, ltb-true}
use Rattle.std.proofs.lemmas.Option.{none-some, same_Some}
use Rattle.std.proofs.lemmas.List.Elements.{All-contains}
use Rattle.plcs_grammar.specs.Template.{program_sections}
use Rattle.plcs_grammar.specs.declared.node_kind.NodeKind.{NodeKind}
use Rattle.template_tree.specs.Positions.Path.{node_at}
use Rattle.template_tree.specs.Programs.PlainTree.{Forest, PlainNode}
use Rattle.template_tree.specs.Positions.Stop.{IsStop, MayStand, PlainStop, Stops, node_stop, part_stops, visible_at}
use Rattle.cursor_moves.specs.Move.{next_stop, previous_stop, stop_above, stop_below}
use Rattle.cursor_moves.specs.Private.Number.{last_number, next_number, number_behind}
use Rattle.cursor_moves.specs.Private.NextPath.{next_of}
use Rattle.cursor_moves.proofs.ListEnds.{map_map}
use Rattle.cursor_moves.proofs.FoundNodes.{holds}
use Rattle.cursor_moves.proofs.Nodes.NextPaths.{visible_is}
use Rattle.cursor_moves.proofs.Nodes.PathSteps.{seen}
use Rattle.cursor_moves.proofs.Nodes.VisibleNodes.{IsListedFrom, all_listed}
use Rattle.cursor_moves.proofs.Stops.ListedStops.{contains_at, from_zero, there_is}
use Rattle.cursor_moves.proofs.Stops.NextStops.{move_below, next_move}
use Rattle.cursor_moves.proofs.Stops.PreviousStops.{begins_with, move_above, move_above_first, move_from_first, move_from_node, move_from_part, next_visible}
use Rattle.cursor_moves.proofs.Stops.StopMoves.{all_nodes, place_of}
use Rattle.cursor_moves.proofs.Stops.MoveRelation.{IsMove}

-- the node at which a stop is
pub node_of : (items : Forest) (stop : PlainStop) → IsStop items stop
    → (node : PlainNode) × (visible_at items stop.path ≡ Some node) × MayStand stop.part node.label.kind
node_of items stop h = there_is (λ node. MayStand stop.part node.label.kind) (visible_at items stop.path) h

pub stop_visible : (items : Forest) (stop : PlainStop) → IsStop items stop → IsSome (visible_at items stop.path)
stop_visible items stop h = let node = node_of items stop h in rw (node.1) refl

-- the node that comes next is visible
pub next_seen : (items : Forest) (way path : List ℕ) → next_of items way ≡ Some path → (node : PlainNode) × (visible_at items path ≡ Some node)
next_seen items way path e =
    let previous = next_visible items way path e in
    let place = place_of items way previous.0 previous.1 in
    let begins = begins_with place.behind path (place.next_is ∙ e) in
    let stands : all_nodes items ≡ (place.before ++ place.here ∷ []) ++ begins.0 ∷ begins.1 =
    place.stands
    ∙ ap (λ behind. place.before ++ place.here ∷ behind) begins.2
    ∙ sym (append_assoc place.before (place.here ∷ []) (begins.0 ∷ begins.1)) in
    let listed : IsListedFrom 0 items begins.0 =
    All-contains (IsListedFrom 0 items) ((place.before ++ place.here ∷ []) ++ begins.0 ∷ begins.1) begins.0
    (subst (All (IsListedFrom 0 items)) stands (all_listed program_sections 0 0 items))
    (contains_at (place.before ++ place.here ∷ []) begins.0 begins.1) in
    (listed.node, sym (ap (visible_at items) (sym (listed.path_is ∙ from_zero listed.number listed.path) ∙ begins.3)) ∙ listed.there)

-- the node that comes next is a stop
next_is_stop : (items : Forest) (path : List ℕ) (next : Option (List ℕ)) → next_of items path ≡ next
    → IfSome (option_map node_stop next) (IsStop items)
next_is_stop items path None e = tt
next_is_stop items path (Some way) e =
    let node = next_seen items path way e in holds (λ _. Unit {0}) (visible_at items way) node.0 node.1 tt

-- going on to the next node is a stop
pub next_stands : (items : Forest) (path : List ℕ) (to : Option PlainStop) → to ≡ option_map node_stop (next_of items path) → IfSome to (IsStop items)
next_stands items path to e =
    subst (λ o. IfSome o (IsStop items)) (sym e) (next_is_stop items path (next_of items path) refl)

-- down
pub down_moved : (items : Forest) (stop : PlainStop) (to : Option PlainStop) → IsStop items stop → to ≡ option_map node_stop (next_of items stop.path)
    → IsMove stop_below (Stops items) stop to
down_moved items stop to h e = let node = node_of items stop h in move_below items stop node.0 to node.1 node.2 e

-- where an answer is given by paths
pub by_paths : {A : Type 0} (way : A → List ℕ) (answer : Option A) (next : Option (List ℕ)) (to : Option PlainStop)
    → option_map way answer ≡ next → to ≡ option_map (λ a. node_stop (way a)) answer → to ≡ option_map node_stop next
by_paths way answer next to e f = f ∙ sym (map_map node_stop way answer) ∙ ap (option_map node_stop) e

-- up
pub up_moved : {A : Type 0} (way : A → List ℕ) (items : Forest) (stop : PlainStop) (answer : Option A) (to : Option PlainStop) → IsStop items stop
    → IfNone answer (stop.path ≡ 0 ∷ []) → IfSome answer (λ a. next_of items (way a) ≡ Some stop.path)
    → to ≡ option_map (λ a. node_stop (way a)) answer
    → IsMove stop_above (Stops items) stop to
up_moved way items stop None to h first next e =
    let node = node_of items stop h in move_above_first items stop node.0 to node.1 node.2 first e
up_moved way items stop (Some a) to h first next e =
    let node = node_of items stop h in
    let previous = next_visible items (way a) stop.path next in
    move_above items stop (way a) node.0 previous.0 to node.1 node.2 previous.1 next e

-- the node before is a stop
pub up_stands : {A : Type 0} (way : A → List ℕ) (items : Forest) (path : List ℕ) (answer : Option A) (to : Option PlainStop)
    → IfSome answer (λ a. next_of items (way a) ≡ Some path) → to ≡ option_map (λ a. node_stop (way a)) answer → IfSome to (IsStop items)
up_stands way items path None to next e = subst (λ o. IfSome o (IsStop items)) (sym e) tt
up_stands way items path (Some a) to next e =
    let previous = next_visible items (way a) path next in
    subst (λ o. IfSome o (IsStop items)) (sym e) (holds (λ _. Unit {0}) (visible_at items (way a)) previous.0 previous.1 tt)

-- a stop at the node that was found may stand there
pub stands_at : (items : Forest) (stop : PlainStop) (found : PlainNode) → IsStop items stop → visible_at items stop.path ≡ Some found
    → MayStand stop.part found.label.kind
stands_at items stop found h e =
    let node = node_of items stop h in
    subst (λ (n : PlainNode). MayStand stop.part n.label.kind) (same_Some node.0 found (sym node.1 ∙ e)) node.2

-- right
pub right_moved : (items : Forest) (stop : PlainStop) (found : PlainNode) (next : Option ℕ) (to : Option PlainStop) → IsStop items stop
    → Some found ≡ node_at items stop.path → next ≡ next_number (part_stops found.label.kind) stop.part
    → to ≡ option_or (option_map (λ part. record { path = stop.path; part = Some part }) next) (option_map node_stop (next_of items stop.path))
    → IsMove next_stop (Stops items) stop to
right_moved items stop found next to h f next_is e =
    let visible = visible_is items stop.path found (stop_visible items stop h) f in
    next_move items stop found to visible (stands_at items stop found h visible)
    (e
    ∙ ap (λ n. option_or (option_map (λ part. record { path = stop.path; part = Some part }) n) (option_map node_stop (next_of items stop.path)))
    next_is)

-- the next part is there
next_within : (number parts : ℕ) (part : ℕ) (b : Bool) → nat_lt number parts ≡ b → Some part ≡ (if b then Some number else None) → part < parts
next_within number parts part true e f = let same : part ≡ number = same_Some part number f in omega (arith, ltb-true number parts e)
next_within number parts part false e f = absurd (none-some part (sym f))

-- so it is a stop
pub part_stands : (items : Forest) (stop : PlainStop) (found : PlainNode) (way : List ℕ) (part : ℕ) → IsStop items stop
    → Some found ≡ node_at items stop.path → way ≡ stop.path → Some part ≡ next_number (part_stops found.label.kind) stop.part
    → IsStop items record { path = way; part = Some part }
part_stands items stop found way part h f way_is next_is =
    let visible = visible_is items stop.path found (stop_visible items stop h) f in
    holds (λ node. part < part_stops node.label.kind) (visible_at items way) found (ap (visible_at items) way_is ∙ visible)
    (next_within (number_behind stop.part) (part_stops found.label.kind) part (nat_lt (number_behind stop.part) (part_stops found.label.kind))
    refl next_is)

-- a number less one, if there is one, is that of the last of so many parts
last_less : (o : Option ℕ) (parts : ℕ) → SomeIff o (1 ≤ parts) (parts - 1) → o ≡ last_number parts
last_less None zero h = refl
last_less None (suc parts) h = absurd (h (omega arith))
last_less (Some part) zero h = absurd (omega (arith, h.0))
last_less (Some part) (suc parts) h = rw (lt-ltb 0 (suc parts) (omega arith)) (ap (λ n. Some n) h.1)

-- left, from a part
pub left_from_part : (items : Forest) (stop : PlainStop) (part : ℕ) (way : List ℕ) (less : Option ℕ) → IsStop items stop → stop.part ≡ Some part
    → way ≡ stop.path → SomeIff less (1 ≤ part) (part - 1)
    → IsMove previous_stop (Stops items) stop (Some record { path = way; part = less })
left_from_part items stop part way less h part_is way_is less_is =
    let node = node_of items stop h in
    subst (λ p. IsMove previous_stop (Stops items) record { path = stop.path; part = p } (Some record { path = way; part = less })) (sym part_is)
    (move_from_part items stop.path part node.0 (Some record { path = way; part = less }) node.1
    (subst (λ p. MayStand p node.0.label.kind) part_is node.2)
    (ap (λ p. Some record { path = way; part = p }) (last_less less part less_is)
    ∙ ap (λ path. Some record { path = path; part = last_number part }) way_is))

-- left, from the first node
pub left_from_first : (items : Forest) (stop : PlainStop) → IsStop items stop → stop.part ≡ None → stop.path ≡ 0 ∷ []
    → IsMove previous_stop (Stops items) stop None
left_from_first items stop h part_is first =
    let node = node_of items stop h in
    subst (λ p. IsMove previous_stop (Stops items) record { path = stop.path; part = p } None) (sym part_is)
    (move_from_first items stop.path node.0 None node.1 first refl)

-- left, from another node
pub left_from_node : (items : Forest) (stop : PlainStop) (way : List ℕ) (to : PlainStop) → IsStop items stop → stop.part ≡ None
    → next_of items way ≡ Some stop.path
    → IsSomeAnd (node_at items way) (λ node. to ≡ record { path = way; part = last_number (part_stops node.label.kind) })
    → IsMove previous_stop (Stops items) stop (Some to)
left_from_node items stop way to h part_is next last =
    let node = node_of items stop h in
    let previous = next_visible items way stop.path next in
    let there = there_is (λ node. to ≡ record { path = way; part = last_number (part_stops node.label.kind) }) (node_at items way) last in
    let same : there.0 ≡ previous.0 = same_Some there.0 previous.0 (sym there.1 ∙ seen items way previous.0 previous.1) in
    subst (λ p. IsMove previous_stop (Stops items) record { path = stop.path; part = p } (Some to)) (sym part_is)
    (move_from_node items stop.path way node.0 previous.0 (Some to) node.1 previous.1 next
    (ap Some there.2 ∙ ap (λ (n : PlainNode). Some record { path = way; part = last_number (part_stops n.label.kind) }) same))

-- the last part may be a stop
last_may : (kind : NodeKind) (parts : ℕ) → parts ≡ part_stops kind → MayStand (last_number parts) kind
last_may kind zero e = tt
last_may kind (suc parts) e = rw (lt-ltb 0 (suc parts) (omega arith)) (omega (arith, e))

-- the last stop of a visible node
pub last_stands : (items : Forest) (way : List ℕ) (node : PlainNode) (to : PlainStop) → visible_at items way ≡ Some node
    → IsSomeAnd (node_at items way) (λ node. to ≡ record { path = way; part = last_number (part_stops node.label.kind) })
    → IsStop items to
last_stands items way node to visible last =
    let there = there_is (λ node. to ≡ record { path = way; part = last_number (part_stops node.label.kind) }) (node_at items way) last in
    let same : there.0 ≡ node = same_Some there.0 node (sym there.1 ∙ seen items way node visible) in
    subst (IsStop items) (sym there.2)
    (holds (λ n. MayStand (last_number (part_stops there.0.label.kind)) n.label.kind) (visible_at items way) there.0
    (visible ∙ ap Some (sym same)) (last_may there.0.label.kind (part_stops there.0.label.kind) refl))

-- the node before another one is there
pub previous_there : (items : Forest) (way path : List ℕ) → next_of items way ≡ Some path → IsSome (node_at items way)
previous_there items way path next =
    let previous = next_visible items way path next in rw (seen items way previous.0 previous.1) refl
