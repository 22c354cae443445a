-- An edit by slot is the edit at the path of the slot's node.
use Rattle.std.specs.Prelude.{◌≡◌, refl, ℕ, zero, suc, ◌+◌, ◌≤◌, ◌==◌, Bool, true, false, if◌then◌else◌, List, [], ◌∷◌, Option, Some, None}
use Rattle.std.proofs.Common.{ap, sym, ◌∙◌, arith}
use Rattle.std.proofs.lemmas.Bool.{eq-eqb}
use Rattle.std.proofs.lemmas.Option.{none-some}
use Rattle.template_tree.specs.Programs.PlainTree.{Label, Forest, PlainNode, forest, join}
use Rattle.template_tree.specs.Programs.Slots.{times}
use Rattle.template_tree.specs.Positions.Path.{node_at}
use Rattle.template_tree.specs.Edits.Edit.{edit_at, edit_slot}

zero_if : (b : Bool) (n : ℕ) → (if b then 1 else 0) + n ≡ 0 → b ≡ false
zero_if true n e = absurd (omega arith)
zero_if false n e = refl

-- where a slot doesn't stand nothing gives way
pub absent : (slot : ℕ) (change : PlainNode → List PlainNode) (items : Forest) → times slot items ≡ 0 → edit_slot slot change items ≡ items
absent slot change Forest.nil none = refl
absent slot change (Forest.cons label inner rest) none =
    rw (zero_if (label.slot == slot) _ none)
    (λ i. Forest.cons label (absent slot change inner (omega arith) i) (absent slot change rest (omega arith) i))

-- a label with the slot counts
counted : (a b : ℕ) (n : ℕ) → a ≡ b → 1 ≤ (if a == b then 1 else 0) + n
counted a b n e = rw (eq-eqb a b e) (omega arith)

-- a label with a slot that stands below it has another slot
other : (b : Bool) (n : ℕ) → (if b then 1 else 0) + n ≤ 1 → 1 ≤ n → b ≡ false
other true n few some = absurd (omega arith)
other false n few some = refl

-- what is there, or else the node
abbrev taken : PlainNode → Option PlainNode → PlainNode
taken node None = node
taken node (Some there) = there

-- the node at a path stands there
pub present : (items : Forest) (path : List ℕ) (node : PlainNode) → node_at items path ≡ Some node → 1 ≤ times node.label.slot items
present Forest.nil [] node e = absurd (none-some node e)
present Forest.nil (k ∷ path) node e = absurd (none-some node e)
present (Forest.cons label inner rest) [] node e = absurd (none-some node e)
present (Forest.cons label inner rest) (zero ∷ []) node e =
    let same : record { label = label; inner = inner } ≡ node = ap (taken node) e in
    counted label.slot node.label.slot _ (ap (λ n. n.label.slot) same)
present (Forest.cons label inner rest) (zero ∷ (j ∷ path)) node e =
    let h : 1 ≤ times node.label.slot inner = present inner (j ∷ path) node e in omega arith
present (Forest.cons label inner rest) (suc k ∷ path) node e =
    let h : 1 ≤ times node.label.slot rest = present rest (k ∷ path) node e in omega arith

-- no path leads anywhere where nothing is
nowhere : (path : List ℕ) → node_at Forest.nil path ≡ None
nowhere [] = refl
nowhere (k ∷ path) = refl

-- the first item itself gives way
here : (change : PlainNode → List PlainNode) (label : Label) (inner rest : Forest) (slot : ℕ)
    → label.slot ≡ slot → times slot (Forest.cons label inner rest) ≤ 1
    → edit_slot slot change (Forest.cons label inner rest)
    ≡ join (forest (change record { label = label; inner = inner })) rest
here change label inner rest slot same once =
    let few : 1 ≤ (if label.slot == slot then 1 else 0) + 0 = counted label.slot slot 0 same in
    rw (eq-eqb label.slot slot same)
    (ap (λ r. join (forest (change record { label = label; inner = inner })) r) (absent slot change rest (omega arith)))

-- an edit by slot is the edit at the path of the node that stands there, where it stands but once
pub slot_edit_is_path_edit : (change : PlainNode → List PlainNode) (items : Forest) (path : List ℕ) (node : PlainNode)
    → times node.label.slot items ≤ 1 → node_at items path ≡ Some node → edit_slot node.label.slot change items ≡ edit_at change path items
slot_edit_is_path_edit change Forest.nil path node once e = absurd (none-some node (sym (nowhere path) ∙ e))
slot_edit_is_path_edit change (Forest.cons label inner rest) [] node once e = absurd (none-some node e)
slot_edit_is_path_edit change (Forest.cons label inner rest) (zero ∷ []) node once e =
    let same : record { label = label; inner = inner } ≡ node = ap (taken node) e in
    here change label inner rest node.label.slot (ap (λ n. n.label.slot) same) once
slot_edit_is_path_edit change (Forest.cons label inner rest) (zero ∷ (j ∷ path)) node once e =
    let stands : 1 ≤ times node.label.slot inner = present inner (j ∷ path) node e in
    let apart : (label.slot == node.label.slot) ≡ false = other (label.slot == node.label.slot) _ once (omega arith) in
    let beside : edit_slot node.label.slot change rest ≡ rest = absent node.label.slot change rest (omega arith) in
    let within : edit_slot node.label.slot change inner ≡ edit_at change (j ∷ path) inner =
    slot_edit_is_path_edit change inner (j ∷ path) node (omega arith) e
    in
    rw apart (λ i. Forest.cons label (within i) (beside i))
slot_edit_is_path_edit change (Forest.cons label inner rest) (suc k ∷ path) node once e =
    let stands : 1 ≤ times node.label.slot rest = present rest (k ∷ path) node e in
    let apart : (label.slot == node.label.slot) ≡ false = other (label.slot == node.label.slot) _ once (omega arith) in
    let beside : edit_slot node.label.slot change inner ≡ inner = absent node.label.slot change inner (omega arith) in
    let within : edit_slot node.label.slot change rest ≡ edit_at change (k ∷ path) rest =
    slot_edit_is_path_edit change rest (k ∷ path) node (omega arith) e
    in
    rw apart (λ i. Forest.cons label (beside i) (within i))
