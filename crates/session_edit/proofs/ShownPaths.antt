-- The path to a slot, cut where a refinement is hidden.
use Rattle.std.specs.Prelude.{◌≡◌, refl, ℕ, zero, suc, ◌+◌, ◌≤◌, ◌==◌, Bool, true, false, if◌then◌else◌, List, [], ◌∷◌, Option, Some, None, IsSomeAnd, option_map, option_and_then, slice_get}
use Rattle.std.specs.Option.{option_or, option_map_or}
use Rattle.std.proofs.Common.{ap, ◌∙◌, arith}
use Rattle.std.proofs.lemmas.Bool.{eq-eqb}
use Rattle.std.proofs.lemmas.Option.{none-some}
use Rattle.template_tree.specs.Programs.PlainTree.{Forest, PlainNode, nodes, roomless}
use Rattle.template_tree.specs.Programs.Slots.{times}
use Rattle.template_tree.specs.Positions.Path.{below, node_at, slot_at}
use Rattle.template_tree.specs.Positions.Stop.{MayStand, visible_below, visible_at}
use Rattle.session_edit.specs.ShownStop.{shown_path}
use Rattle.session_edit.specs.Private.ShownPath.{shown_below, shown_numbers}

-- a label with the slot counts
counted : (a b : ℕ) (n : ℕ) → a ≡ b → 1 ≤ (if a == b then 1 else 0) + n
counted a b n e = rw (eq-eqb a b e) (omega arith)

-- a label with a slot that stands below it has another slot
other : (b : Bool) (n : ℕ) → (if b then 1 else 0) + n ≤ 1 → 1 ≤ n → b ≡ false
other true n few some = absurd (omega arith)
other false n few some = refl

zero_if : (b : Bool) (n : ℕ) → (if b then 1 else 0) + n ≡ 0 → b ≡ false
zero_if true n e = absurd (omega arith)
zero_if false n e = refl

-- the slot that was found, or else this one
abbrev or_slot : ℕ → Option ℕ → ℕ
or_slot slot None = slot
or_slot slot (Some there) = there

-- the slot at a path stands among the nodes
present : (items : Forest) (path : List ℕ) (slot : ℕ) → slot_at items path ≡ Some slot → 1 ≤ times slot items
present Forest.nil [] slot e = absurd (none-some slot e)
present Forest.nil (k ∷ path) slot e = absurd (none-some slot e)
present (Forest.cons label inner rest) [] slot e = absurd (none-some slot e)
present (Forest.cons label inner rest) (zero ∷ []) slot e = counted label.slot slot _ (ap (or_slot slot) e)
present (Forest.cons label inner rest) (zero ∷ (j ∷ path)) slot e =
    let h : 1 ≤ times slot inner = present inner (j ∷ path) slot e in omega arith
present (Forest.cons label inner rest) (suc k ∷ path) slot e =
    let h : 1 ≤ times slot rest = present rest (k ∷ path) slot e in omega arith

-- a slot that doesn't stand among the nodes has no path
pub no_path : (slot : ℕ) (items : Forest) (k : ℕ) → times slot items ≡ 0 → shown_path slot k items ≡ None
no_path slot Forest.nil k none = refl
no_path slot (Forest.cons label inner rest) k none =
    rw (zero_if (label.slot == slot) _ none)
    (rw (no_path slot inner 0 (omega arith)) (no_path slot rest (k + 1) (omega arith)))

-- the numbers of a path where the first item has this number
abbrev numbers_from : ℕ → Forest → List ℕ → List ℕ
numbers_from first items [] = []
numbers_from first items (k ∷ path) = (first + k) ∷ option_map_or (λ item. shown_below item path) (slice_get (nodes items) k) []

from_zero : (items : Forest) (path : List ℕ) → numbers_from 0 items path ≡ shown_numbers items path
from_zero items [] = refl
from_zero items (k ∷ path) = ap (λ n. n ∷ option_map_or (λ item. shown_below item path) (slice_get (nodes items) k) []) (omega arith)

shown_from : (slot first : ℕ) (items : Forest) (path : List ℕ)
    → times slot items ≤ 1 → slot_at items path ≡ Some slot → shown_path slot first items ≡ Some (numbers_from first items path)
shown_from slot first Forest.nil [] once e = absurd (none-some slot e)
shown_from slot first Forest.nil (k ∷ path) once e = absurd (none-some slot e)
shown_from slot first (Forest.cons label inner rest) [] once e = absurd (none-some slot e)
shown_from slot first (Forest.cons label inner rest) (zero ∷ []) once e =
    rw (eq-eqb label.slot slot (ap (or_slot slot) e)) (ap (λ n. Some (n ∷ [])) (omega arith))
shown_from slot first (Forest.cons label inner rest) (zero ∷ (j ∷ path)) once e =
    let stands : 1 ≤ times slot inner = present inner (j ∷ path) slot e in
    let within : shown_path slot 0 inner ≡ Some (shown_numbers inner (j ∷ path)) =
    shown_from slot 0 inner (j ∷ path) (omega arith) e ∙ ap Some (from_zero inner (j ∷ path))
    in
    rw (other (label.slot == slot) _ once (omega arith))
    (rw within (ap (λ n. Some (n ∷ shown_below record { label = label; inner = inner } (j ∷ path))) (omega arith)))
shown_from slot first (Forest.cons label inner rest) (suc k ∷ path) once e =
    let stands : 1 ≤ times slot rest = present rest (k ∷ path) slot e in
    let same : first + 1 + k ≡ first + suc k = omega arith in
    rw (other (label.slot == slot) _ once (omega arith))
    (rw (no_path slot inner 0 (omega arith))
    (shown_from slot (first + 1) rest (k ∷ path) (omega arith) e
    ∙ ap (λ n. Some (n ∷ option_map_or (λ item. shown_below item path) (slice_get (nodes rest) k) [])) same))

-- the path of a slot is shown as far as that goes
pub shown_is : (slot : ℕ) (items : Forest) (path : List ℕ)
    → times slot items ≤ 1 → slot_at items path ≡ Some slot → shown_path slot 0 items ≡ Some (shown_numbers items path)
shown_is slot items path once e = shown_from slot 0 items path once e ∙ ap Some (from_zero items path)

-- the room of lists makes no difference to where a slot is shown
pub shown_roomless : (slot : ℕ) (items : Forest) (k : ℕ) → shown_path slot k (roomless items) ≡ shown_path slot k items
shown_roomless slot Forest.nil k = refl
shown_roomless slot (Forest.cons label inner rest) k =
    λ i.
    if label.slot == slot
    then Some (k ∷ [])
    else
    option_or (option_map (λ path. k ∷ (if label.elided then [] else path)) (shown_roomless slot inner 0 i))
    (shown_roomless slot rest (k + 1) i)

-- a node was found
abbrev pub IsThere : Option PlainNode → Type 0
IsThere found = IsSomeAnd found (λ _. Unit {0})

-- the cursor may stand on the node that was found
abbrev pub IsSeen : Option PlainNode → Type 0
IsSeen found = IsSomeAnd found (λ node. MayStand None node.label.kind)

pub there : (found : Option PlainNode) (slot : ℕ) → option_map (λ (node : PlainNode). node.label.slot) found ≡ Some slot → IsThere found
there None slot e = absurd (none-some slot e)
there (Some node) slot e = tt

seen_unless : (b : Bool) (node : PlainNode) (k : ℕ) (rest : List ℕ)
    → node.label.elided ≡ b → IsSeen (option_and_then (λ item. visible_below item rest) (slice_get (nodes node.inner) k))
    → IsSeen (visible_below node (if b then [] else k ∷ rest))
seen_unless true node k rest same seen = tt
seen_unless false node k rest same seen = rw same seen

seen_item : (path : List ℕ) → ((node : PlainNode) → IsThere (below node path) → IsSeen (visible_below node (shown_below node path)))
    → (found : Option PlainNode) → IsThere (option_and_then (λ item. below item path) found)
    → IsSeen (option_and_then (λ item. visible_below item (option_map_or (λ item. shown_below item path) found [])) found)
seen_item path seen None h = absurd h
seen_item path seen (Some item) h = seen item h

seen_below : (path : List ℕ) (node : PlainNode) → IsThere (below node path) → IsSeen (visible_below node (shown_below node path))
seen_below [] node h = tt
seen_below (k ∷ path) node h =
    seen_unless node.label.elided node k (option_map_or (λ item. shown_below item path) (slice_get (nodes node.inner) k) []) refl
    (seen_item path (seen_below path) (slice_get (nodes node.inner) k) h)

-- what is shown of a path is visible
pub seen_shown : (items : Forest) (path : List ℕ) → IsThere (node_at items path) → IsSeen (visible_at items (shown_numbers items path))
seen_shown items [] h = absurd h
seen_shown items (k ∷ path) h = seen_item path (seen_below path) (slice_get (nodes items) k) h
