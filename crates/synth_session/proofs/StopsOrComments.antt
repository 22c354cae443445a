-- stop_or_comment: the slot of a node that stands in a program is shown somewhere in it, and a stop of the node that
-- is shown there stands in the program.
use Rattle.std.proofs.Common.{◌≡◌, ℕ, zero, suc, ◌+◌, ◌==◌, Bool, true, false, if◌then◌else◌, List, [], ◌∷◌, Option, Some, None, option_map, refl, sym, ap, subst, ◌∙◌}
use Rattle.std.specs.Prelude.{IsSome, IsSomeAnd}
use Rattle.std.specs.Option.{option_or}
use Rattle.std.proofs.Math.Bool.{false≢true}
use Rattle.std.proofs.lemmas.Bool.{eq-eqb}
use Rattle.std.proofs.lemmas.Option.{none-some, same_Some}
use Rattle.template_tree.specs.Laws.RoomLaws.{NodesIgnoreRoom}
use Rattle.template_tree.specs.Positions.Path.{node_at}
use Rattle.template_tree.specs.Positions.Stop.{IsStop, MayStand, PlainStop, node_stop, visible_at}
use Rattle.template_tree.specs.Programs.PlainTree.{Forest, PlainNode, PlainTree, roomless, roomless_node, roomless_tree}
use Rattle.session_edit.specs.ShownStop.{shown_at, shown_path}
use Rattle.synth_session.proofs.NotedStops.{StandsIn, visible_there}

-- ---- a slot that stands is shown

first_some : (b : Bool) (here one other : Option (List ℕ)) → IsSome here → IsSome one → IsSome (if b then here else option_or one other)
first_some true here one other h some = h
first_some false here None other h some = absurd (false≢true some)
first_some false here (Some path) other h some = refl

last_some : (b : Bool) (here one other : Option (List ℕ)) → IsSome here → IsSome other → IsSome (if b then here else option_or one other)
last_some true here one other h some = h
last_some false here None other h some = some
last_some false here (Some path) other h some = refl

mapped_some : (f : List ℕ → List ℕ) (found : Option (List ℕ)) → IsSome found → IsSome (option_map f found)
mapped_some f None some = some
mapped_some f (Some path) some = refl

own_some : (own slot k : ℕ) (rest : Option (List ℕ)) → own ≡ slot → IsSome (if own == slot then Some (k ∷ []) else rest)
own_some own slot k rest same = rw (eq-eqb own slot same) refl

found_shown : (items : Forest) (path : List ℕ) (node : PlainNode) (k : ℕ) → node_at items path ≡ Some node
    → IsSome (shown_path node.label.slot k items)
found_shown Forest.nil [] node k there = absurd (none-some node there)
found_shown Forest.nil (j ∷ path) node k there = absurd (none-some node there)
found_shown (Forest.cons label inner rest) [] node k there = absurd (none-some node there)
found_shown (Forest.cons label inner rest) (zero ∷ []) node k there =
    own_some label.slot node.label.slot k _
    (ap (λ (item : PlainNode). item.label.slot) (same_Some record { label = label; inner = inner } node there))
found_shown (Forest.cons label inner rest) (zero ∷ (j ∷ path)) node k there =
    first_some (label.slot == node.label.slot) (Some (k ∷ []))
    (option_map (λ below. k ∷ (if label.elided then [] else below)) (shown_path node.label.slot 0 inner))
    (shown_path node.label.slot (k + 1) rest) refl
    (mapped_some (λ below. k ∷ (if label.elided then [] else below)) (shown_path node.label.slot 0 inner)
    (found_shown inner (j ∷ path) node 0 there))
found_shown (Forest.cons label inner rest) (suc j ∷ path) node k there =
    last_some (label.slot == node.label.slot) (Some (k ∷ []))
    (option_map (λ below. k ∷ (if label.elided then [] else below)) (shown_path node.label.slot 0 inner))
    (shown_path node.label.slot (k + 1) rest) refl (found_shown rest (j ∷ path) node (k + 1) there)

none_shown : (found : Option (List ℕ)) → IsSome found → option_map node_stop found ≡ None → ⊥
none_shown None some none = absurd (false≢true some)
none_shown (Some path) some none = none-some (node_stop path) (sym none)

-- the slot of a node that stands in a program is shown somewhere in it
pub shown_somewhere : NodesIgnoreRoom → (tree : PlainTree) (path : List ℕ) (node : PlainNode) (slot : ℕ) → Some node ≡ node_at tree.items path
    → slot ≡ node.label.slot → shown_at (roomless_tree tree) slot ≡ None → ⊥
unfolding shown_at
shown_somewhere bare tree path node slot there is none =
    none_shown (shown_path slot 0 (roomless tree.items))
    (subst (λ (n : ℕ). IsSome (shown_path n 0 (roomless tree.items))) (sym is)
    (found_shown (roomless tree.items) path (roomless_node node) 0
    (bare tree.items path ∙ ap (option_map roomless_node) (sym there))))
    none

-- ---- a stop of a node that is shown

bare_stands : (part : Option ℕ) (there : Option PlainNode) → IsSomeAnd there (λ node. MayStand part node.label.kind)
    → IsSomeAnd (option_map roomless_node there) (λ node. MayStand part node.label.kind)
bare_stands part None stands = stands
bare_stands part (Some node) stands = stands

-- what stands in a program stands in it without room
pub stands_bare : NodesIgnoreRoom → (items : Forest) (stop : PlainStop) → StandsIn items stop → StandsIn (roomless items) stop
stands_bare bare items stop stands =
    subst (λ (there : Option PlainNode). IsSomeAnd there (λ node. MayStand stop.part node.label.kind)) (sym (bare items stop.path))
    (bare_stands stop.part (node_at items stop.path) stands)

seen_stands : (items : Forest) (one other : PlainStop) (there : Option PlainNode) → visible_at items other.path ≡ there
    → IsSomeAnd there (λ node. MayStand one.part node.label.kind) → StandsIn items other → IsStop items other
seen_stands items one other None seen may stands = absurd may
seen_stands items one other (Some node) seen may stands =
    subst (λ (there : Option PlainNode). IsSomeAnd there (λ item. MayStand other.part item.label.kind)) (sym seen)
    (subst (λ (there : Option PlainNode). IsSomeAnd there (λ item. MayStand other.part item.label.kind))
    (visible_there items other.path node seen) stands)

-- a stop that stands in a program is one of the cursor, where one of the same node is
pub stands_shown : (items : Forest) (one other : PlainStop) → one.path ≡ other.path → IsStop items one → StandsIn items other
    → IsStop items other
stands_shown items one other same is stands =
    seen_stands items one other (visible_at items other.path) refl
    (subst (λ (path : List ℕ). IsSomeAnd (visible_at items path) (λ node. MayStand one.part node.label.kind)) same is) stands
