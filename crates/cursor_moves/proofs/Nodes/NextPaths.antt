-- The path of the node that comes next, as it is found.
use Rattle.std.specs.Prelude.{◌≡◌, refl, ℕ, ◌<◌, Bool, true, false, if◌then◌else◌, List, [], ◌∷◌, ◌++◌, length, Option, Some, None, option_and_then, option_map, slice_get, IsSome}
use Rattle.std.specs.Option.{is_some}
use Rattle.std.proofs.Common.{ap, sym, ◌∙◌, arith}
use Rattle.std.proofs.Math.Bool.{false≢true}
use Rattle.std.proofs.lemmas.Option.{none-some}
use Rattle.template_tree.specs.Programs.PlainTree.{Forest, PlainNode, nodes}
use Rattle.template_tree.specs.Positions.Path.{node_at}
use Rattle.template_tree.specs.Programs.Slots.{depth}
use Rattle.template_tree.specs.Positions.Stop.{visible_at}
use Rattle.cursor_moves.specs.Private.NextPath.{first_inside, next_of, next_with}
use Rattle.cursor_moves.proofs.FoundNodes.{known}
use Rattle.cursor_moves.proofs.Nodes.PathSteps.{entered, item_smaller, path_shallow, seen}

-- the path of the first item, where it is visible
abbrev first_if : Bool → Option PlainNode → Option (List ℕ)
first_if elided o = if elided then None else option_map (λ _. 0 ∷ []) o

-- where a visible node stands inside a node, it is its first item
inside_is : (elided : Bool) (o : Option PlainNode) → is_some (first_if elided o) ≡ true
    → (item : PlainNode) × (o ≡ Some item) × (first_if elided o ≡ Some (0 ∷ []))
inside_is true o h = absurd (false≢true h)
inside_is false None h = absurd (false≢true h)
inside_is false (Some item) h = (item, refl, refl)

-- it comes next
pub next_inside : (items : Forest) (path : List ℕ) (node : PlainNode) → visible_at items path ≡ Some node → is_some (first_inside node) ≡ true
    → next_of items path ≡ Some (path ++ 0 ∷ [])
next_inside items path node e h =
    let first = inside_is node.label.elided (slice_get (nodes node.inner) 0) h in
    ap (option_and_then (λ node. next_with (first_inside node) items path)) e
    ∙ ap (λ inside. next_with inside items path) first.2
    ∙ entered (0 ∷ []) items path

-- the path to it is no longer than the nodes are deep
pub room_inside : (items : Forest) (path : List ℕ) (node : PlainNode) → node_at items path ≡ Some node → is_some (first_inside node) ≡ true
    → length path < depth items
room_inside items path node e h =
    let first = inside_is node.label.elided (slice_get (nodes node.inner) 0) h in
    let smaller = item_smaller node.inner 0 first.0 first.1 in
    omega (arith, smaller.1, path_shallow items path node e)

-- none is there
none_is : {X : Type 0} (o : Option X) → is_some o ≡ false → o ≡ None
none_is None h = refl
none_is (Some x) h = absurd (false≢true (sym h))

-- where none stands inside it, what is behind it comes next
pub next_beyond : (items : Forest) (path : List ℕ) (node : PlainNode) → visible_at items path ≡ Some node → is_some (first_inside node) ≡ false
    → next_of items path ≡ next_with None items path
next_beyond items path node e h =
    ap (option_and_then (λ node. next_with (first_inside node) items path)) e
    ∙ ap (λ inside. next_with inside items path) (none_is (first_inside node) h)

-- the node that is found is the visible one
pub visible_is : (items : Forest) (path : List ℕ) (found : PlainNode) → IsSome (visible_at items path) → Some found ≡ node_at items path
    → visible_at items path ≡ Some found
visible_is items path found h f =
    let visible = known (visible_at items path) h in visible.1 ∙ sym (f ∙ seen items path visible.0 visible.1)

-- a visible node isn't missing
pub not_missing : (items : Forest) (path : List ℕ) → IsSome (visible_at items path) → ◌≡◌ {A = Option PlainNode} None (node_at items path) → ⊥
not_missing items path h f =
    let visible = known (visible_at items path) h in none-some visible.0 (f ∙ seen items path visible.0 visible.1)
