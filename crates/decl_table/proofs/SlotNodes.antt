-- The node in a slot before an edit and after it.
use Rattle.std.specs.Prelude.{◌≡◌, refl, ℕ, zero, suc, ◌+◌, ◌≤◌, ◌==◌, nat_lt, cond, Bool, true, false, if◌then◌else◌, List, [], ◌∷◌, find, Option, Some, None, option_map}
use Rattle.std.proofs.Common.{ap, sym, ◌∙◌, arith}
use Rattle.std.proofs.Math.Bool.{false≢true}
use Rattle.std.proofs.lemmas.Bool.{eq-eqb, eqb-true}
use Rattle.std.proofs.lemmas.Option.{none-some}
use Rattle.template_tree.specs.Edits.Edit.{edit_slot, procedure_of}
use Rattle.template_tree.specs.Positions.Path.{node_at, slot_at}
use Rattle.template_tree.specs.Programs.PlainTree.{Forest, Label, PlainNode, forest, nodes}
use Rattle.template_tree.specs.Programs.Slots.{times}

-- what is there, or else the number
abbrev taken_number : ℕ → Option ℕ → ℕ
taken_number n None = n
taken_number n (Some there) = there

-- a label in the slot counts
counted : (a b n : ℕ) → a ≡ b → 1 ≤ (if a == b then 1 else 0) + n
counted a b n e = rw (eq-eqb a b e) (omega arith)

-- a slot to which a path leads stands there
pub slot_counted : (items : Forest) (path : List ℕ) (slot : ℕ) → slot_at items path ≡ Some slot → 1 ≤ times slot items
slot_counted Forest.nil [] slot there = absurd (none-some slot there)
slot_counted Forest.nil (k ∷ path) slot there = absurd (none-some slot there)
slot_counted (Forest.cons label inner rest) [] slot there = absurd (none-some slot there)
slot_counted (Forest.cons label inner rest) (zero ∷ []) slot there = counted label.slot slot _ (ap (taken_number slot) there)
slot_counted (Forest.cons label inner rest) (zero ∷ (j ∷ path)) slot there =
    let h : 1 ≤ times slot inner = slot_counted inner (j ∷ path) slot there in omega arith
slot_counted (Forest.cons label inner rest) (suc k ∷ path) slot there =
    let h : 1 ≤ times slot rest = slot_counted rest (k ∷ path) slot there in omega arith

-- the node in the slot of which a path leads to it
pub node_of_slot : (o : Option PlainNode) (slot : ℕ) → option_map (λ node. node.label.slot) o ≡ Some slot
    → (node : PlainNode) × (o ≡ Some node) × (node.label.slot ≡ slot)
node_of_slot None slot e = absurd (none-some slot e)
node_of_slot (Some node) slot e = (node, refl, ap (taken_number slot) e)

-- a node that was there before another one came, and the other one
abbrev pub IsReplaced : (slot : ℕ) (node : PlainNode) (before after : Forest) (path : List ℕ) → Type 0
IsReplaced slot node before after path =
    (old : PlainNode) × (node_at before path ≡ Some old) × (old.label.slot ≡ slot) × (node_at after path ≡ Some node)

-- the first item gave way
here : (node : PlainNode) (slot : ℕ) (label : Label) (inner rest others : Forest) (k : ℕ) (path : List ℕ) → node.label.slot ≡ slot → label.slot ≡ slot
    → times slot (Forest.cons node.label node.inner others) ≤ 1 → slot_at (Forest.cons node.label node.inner others) (k ∷ path) ≡ Some slot
    → IsReplaced slot node (Forest.cons label inner rest) (Forest.cons node.label node.inner others) (k ∷ path)
here node slot label inner rest others zero [] is same once there = (record { label = label; inner = inner }, refl, same, refl)
here node slot label inner rest others zero (j ∷ path) is same once there =
    let own : 1 ≤ (if node.label.slot == slot then 1 else 0) + 0 = counted node.label.slot slot 0 is in
    absurd (omega (arith, own, once, slot_counted node.inner (j ∷ path) slot there))
here node slot label inner rest others (suc k) path is same once there =
    let own : 1 ≤ (if node.label.slot == slot then 1 else 0) + 0 = counted node.label.slot slot 0 is in
    absurd (omega (arith, own, once, slot_counted others (k ∷ path) slot there))

-- the first item has another slot
apart : (label : Label) (inner : Forest) (slot : ℕ) → (label.slot == slot) ≡ false → Some label.slot ≡ Some slot → ⊥
apart label inner slot other there = false≢true (sym other ∙ eq-eqb label.slot slot (ap (taken_number slot) there))

-- the nodes after an edit at the slot, by whether the first item has it
abbrev chosen : (is_own : Bool) (node : PlainNode) (label : Label) (inside others : Forest) → Forest
chosen is_own node label inside others = if is_own then Forest.cons node.label node.inner others else Forest.cons label inside others

-- what holds of nodes before the edit at the slot and after it
abbrev Replaces : (slot : ℕ) (node : PlainNode) (before after : Forest) → Type 0
Replaces slot node before after =
    (path : List ℕ) → times slot after ≤ 1 → slot_at after path ≡ Some slot → IsReplaced slot node before after path

-- the first item stays
below : (node : PlainNode) (slot : ℕ) (label : Label) (inner rest inside others : Forest) (k : ℕ) (path : List ℕ) → (label.slot == slot) ≡ false
    → Replaces slot node inner inside → Replaces slot node rest others → times slot (Forest.cons label inside others) ≤ 1
    → slot_at (Forest.cons label inside others) (k ∷ path) ≡ Some slot
    → IsReplaced slot node (Forest.cons label inner rest) (Forest.cons label inside others) (k ∷ path)
below node slot label inner rest inside others zero [] other within behind once there = absurd (apart label inner slot other there)
below node slot label inner rest inside others zero (j ∷ path) other within behind once there = within (j ∷ path) (omega (arith, once)) there
below node slot label inner rest inside others (suc k) path other within behind once there = behind (k ∷ path) (omega (arith, once)) there

either : (is_own : Bool) (node : PlainNode) (slot : ℕ) (label : Label) (inner rest inside others : Forest) (k : ℕ) (path : List ℕ)
    → node.label.slot ≡ slot → (label.slot == slot) ≡ is_own → Replaces slot node inner inside → Replaces slot node rest others
    → times slot (chosen is_own node label inside others) ≤ 1 → slot_at (chosen is_own node label inside others) (k ∷ path) ≡ Some slot
    → IsReplaced slot node (Forest.cons label inner rest) (chosen is_own node label inside others) (k ∷ path)
either true node slot label inner rest inside others k path is own within behind once there =
    here node slot label inner rest others k path is (eqb-true label.slot slot own) once there
either false node slot label inner rest inside others k path is other within behind once there =
    below node slot label inner rest inside others k path other within behind once there

-- where another node came into a slot, one stood at its path
pub replaced : (node : PlainNode) (slot : ℕ) (items : Forest) (path : List ℕ) → node.label.slot ≡ slot
    → times slot (edit_slot slot (λ _. node ∷ []) items) ≤ 1 → slot_at (edit_slot slot (λ _. node ∷ []) items) path ≡ Some slot
    → IsReplaced slot node items (edit_slot slot (λ _. node ∷ []) items) path
replaced node slot Forest.nil [] is once there = absurd (none-some slot there)
replaced node slot Forest.nil (k ∷ path) is once there = absurd (none-some slot there)
replaced node slot (Forest.cons label inner rest) [] is once there = absurd (none-some slot there)
replaced node slot (Forest.cons label inner rest) (k ∷ path) is once there =
    either (label.slot == slot) node slot label inner rest (edit_slot slot (λ _. node ∷ []) inner) (edit_slot slot (λ _. node ∷ []) rest) k path is refl
    (λ way few at. replaced node slot inner way is few at) (λ way few at. replaced node slot rest way is few at) once there

-- the slot of the item that is found among these
abbrev slot_found : ℕ → List PlainNode → Option ℕ
slot_found slot items = option_map (λ item. item.label.slot) (find (λ item. nat_lt 0 (times slot (forest (item ∷ [])))) items)

-- no item is found for a slot that doesn't stand there
not_found : (slot : ℕ) (items : Forest) → times slot items ≡ 0 → slot_found slot (nodes items) ≡ None
not_found slot Forest.nil none = refl
not_found slot (Forest.cons label inner rest) none =
    let own : times slot (Forest.cons label inner Forest.nil) ≡ 0 = omega (arith, none) in
    ap (λ n. option_map (λ (item : PlainNode). item.label.slot) (cond (nat_lt 0 n) (Some record { label = label; inner = inner }) (find (λ item. nat_lt 0 (times slot (forest (item ∷ [])))) (nodes rest)))) own
    ∙ not_found slot rest (omega (arith, none))

positive : (n : ℕ) → (n ≡ 0 → ⊥) → 1 ≤ n
positive zero never = absurd (never refl)
positive (suc n) never = omega arith

-- a slot of which the procedure is known stands there
pub stands : (slot procedure : ℕ) (items : Forest) → procedure_of items slot ≡ Some procedure → 1 ≤ times slot items
stands slot procedure items found =
    positive (times slot items) (λ none. none-some procedure (sym (not_found slot items none) ∙ found))
