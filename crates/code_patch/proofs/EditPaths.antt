-- The path to what an edit changed, in the program before it and in that after it.
use Rattle.std.proofs.Common.{◌≡◌, ℕ, zero, suc, ◌+◌, ◌≤◌, Bool, true, false, List, [], ◌∷◌, ◌++◌, Option, Some, None, refl, ap, sym, subst, ◌∙◌, arith, eq-eqb, eqb-true, true≢false}
use Rattle.std.specs.Prelude.{◌==◌, if◌then◌else◌, slice_get}
use Rattle.std.specs.Option.{option_map_or}
use Rattle.std.proofs.lemmas.Option.{same_Some}
use Rattle.template_tree.specs.Checks.Environment.{heading_of}
use Rattle.template_tree.specs.Edits.Edit.{edit_below, edit_slot, give_way}
use Rattle.template_tree.specs.Positions.Path.{node_at}
use Rattle.template_tree.specs.Programs.PlainTree.{Forest, Label, PlainNode, forest, join, nodes, roomless, roomless_node}
use Rattle.template_tree.specs.Programs.Slots.{times}
use Rattle.plcs_code.specs.OwnCode.{name_to_call}
use Rattle.code_patch.specs.ItemNames.{number_named}
use Rattle.code_patch.specs.Private.ItemNames.{numbered_items}
use Rattle.code_patch.specs.Private.NearCode.{is_short}
use Rattle.code_patch.proofs.KeptPlaces.{given_child}
use Rattle.code_patch.proofs.RoomlessTrees.{nodes_roomless}
use Rattle.code_patch.proofs.SlotNodes.{once_here, slot_there}

-- ---- back to the program before

-- what a node in the slot gives way to is one node in that slot
abbrev pub GivesOne : (s : ℕ) → (PlainNode → List PlainNode) → Type 0
GivesOne s change =
    (node : PlainNode) → node.label.slot ≡ s → (new : PlainNode) × (change node ≡ new ∷ []) × (new.label.slot ≡ s)

-- nodes after the edit, by whether the first of them is in the slot
abbrev edited_first : (s : ℕ) (change : PlainNode → List PlainNode) (label : Label) (inner rest : Forest) → Bool → Forest
edited_first s change label inner rest b =
    if b then join (forest (change record { label = label; inner = inner })) (edit_slot s change rest)
    else Forest.cons label (edit_slot s change inner) (edit_slot s change rest)

-- the path to the slot after the edit led to it before
pub path_back : (s : ℕ) (change : PlainNode → List PlainNode) → GivesOne s change → (program : Forest) → times s (edit_slot s change program) ≤ 1
    → (k : ℕ) (path : List ℕ) (node : PlainNode) → node_at (edit_slot s change program) (k ∷ path) ≡ Some node → node.label.slot ≡ s
    → (was : PlainNode) × (node_at program (k ∷ path) ≡ Some was) × (was.label.slot ≡ s)
path_back s change gives Forest.nil once zero path node there own = absurd (cc)
path_back s change gives Forest.nil once (suc k) path node there own = absurd (cc)
path_back s change gives (Forest.cons label inner rest) once k path node there own =
    by (label.slot == s) refl k path once there
    (λ single j way at. path_back s change gives inner single j way node at own)
    (λ single j way at. path_back s change gives rest single j way node at own)
  where
    by : (b : Bool) → (label.slot == s) ≡ b → (k : ℕ) (path : List ℕ) → times s (edited_first s change label inner rest b) ≤ 1
        → node_at (edited_first s change label inner rest b) (k ∷ path) ≡ Some node
        → (times s (edit_slot s change inner) ≤ 1 → (j : ℕ) (way : List ℕ) → node_at (edit_slot s change inner) (j ∷ way) ≡ Some node
        → (was : PlainNode) × (node_at inner (j ∷ way) ≡ Some was) × (was.label.slot ≡ s))
        → (times s (edit_slot s change rest) ≤ 1 → (j : ℕ) (way : List ℕ) → node_at (edit_slot s change rest) (j ∷ way) ≡ Some node
        → (was : PlainNode) × (node_at rest (j ∷ way) ≡ Some was) × (was.label.slot ≡ s))
        → (was : PlainNode) × (node_at (Forest.cons label inner rest) (k ∷ path) ≡ Some was) × (was.label.slot ≡ s)
    by true e zero [] single at inside_back behind_back = (record { label = label; inner = inner }, refl, eqb-true label.slot s e)
    by true e zero (j ∷ path) single at inside_back behind_back =
        let (new, came, here) = gives (record { label = label; inner = inner }) (eqb-true label.slot s e) in
        let inside : node_at new.inner (j ∷ path) ≡ Some node =
        subst (λ (ns : List PlainNode). node_at (join (forest ns) (edit_slot s change rest)) (0 ∷ j ∷ path) ≡ Some node) came at in
        let live : 1 ≤ times s new.inner = subst (λ (n : ℕ). 1 ≤ times n new.inner) own (slot_there new.inner j path node inside) in
        let less : times s (Forest.cons new.label new.inner (edit_slot s change rest)) ≤ 1 =
        subst (λ (ns : List PlainNode). times s (join (forest ns) (edit_slot s change rest)) ≤ 1) came single in
        absurd (omega (arith, live, less, once_here new.label.slot s here))
    by true e (suc k) path single at inside_back behind_back =
        let (new, came, here) = gives (record { label = label; inner = inner }) (eqb-true label.slot s e) in
        let behind : node_at (edit_slot s change rest) (k ∷ path) ≡ Some node =
        subst (λ (ns : List PlainNode). node_at (join (forest ns) (edit_slot s change rest)) (suc k ∷ path) ≡ Some node) came at in
        let less : times s (Forest.cons new.label new.inner (edit_slot s change rest)) ≤ 1 =
        subst (λ (ns : List PlainNode). times s (join (forest ns) (edit_slot s change rest)) ≤ 1) came single in
        behind_back (omega (arith, less)) k path behind
    by false e zero [] single at inside_back behind_back =
        let same : record { label = label; inner = edit_slot s change inner } ≡ node = cc in
        let here : label.slot ≡ s = ap (λ (n : PlainNode). n.label.slot) same ∙ own in
        absurd (true≢false (sym (eq-eqb label.slot s here) ∙ e))
    by false e zero (j ∷ path) single at inside_back behind_back = inside_back (omega (arith, single)) j path at
    by false e (suc k) path single at inside_back behind_back = behind_back (omega (arith, single)) k path at

-- ---- the item on the way

-- the item on the way stays in its slot
pub item_slot : (gives : PlainNode → List PlainNode) (other : PlainNode) (k : ℕ) (before after : Forest) (item later : PlainNode)
    → slice_get (nodes before) k ≡ Some item → gives item ≡ other ∷ [] → other.label.slot ≡ item.label.slot
    → roomless after ≡ roomless (give_way gives k before) → slice_get (nodes after) k ≡ Some later → later.label.slot ≡ item.label.slot
item_slot gives other k before after item later first is own same found =
    let slots : (o : Option PlainNode) → Option ℕ = (λ o. option_map_or (λ (n : PlainNode). Some n.label.slot) o None) in
    let one : slots (slice_get (nodes (roomless after)) k) ≡ Some later.label.slot = ap slots (nodes_roomless after k) ∙ ap (λ (o : Option PlainNode). slots (option_map_or (λ (n : PlainNode). Some (roomless_node n)) o None)) found in
    let two : slots (slice_get (nodes (roomless (give_way gives k before))) k) ≡ Some other.label.slot = ap slots (nodes_roomless (give_way gives k before) k) ∙ ap (λ (o : Option PlainNode). slots (option_map_or (λ (n : PlainNode). Some (roomless_node n)) o None)) (given_child gives other k before item first is) in
    same_Some later.label.slot other.label.slot (sym one ∙ ap (λ (f : Forest). slots (slice_get (nodes f) k)) same ∙ two) ∙ own

-- ---- the names of items

pub numbers_roomless : (number : ℕ) (program : Forest) → numbered_items number (roomless program) ≡ numbered_items number program
numbers_roomless number Forest.nil = refl
numbers_roomless number (Forest.cons label inner rest) =
    ap (λ (ns : List (List ℕ × ℕ)). number_named number (name_to_call (heading_of label.kind label.parts)) ++ ns)
    (numbers_roomless (number + 1) rest)

-- an edit inside an item leaves them
pub numbers_given : (change : PlainNode → List PlainNode) (j : ℕ) (path : List ℕ) (number k : ℕ) (program : Forest)
    → numbered_items number (give_way (edit_below change (j ∷ path)) k program) ≡ numbered_items number program
numbers_given change j path number k Forest.nil = refl
numbers_given change j path number zero (Forest.cons label inner rest) = refl
numbers_given change j path number (suc k) (Forest.cons label inner rest) =
    ap (λ (ns : List (List ℕ × ℕ)). number_named number (name_to_call (heading_of label.kind label.parts)) ++ ns)
    (numbers_given change j path (number + 1) k rest)

pub numbers_edited : (change : PlainNode → List PlainNode) (path : List ℕ) (k : ℕ) (one other : Forest)
    → roomless other ≡ roomless (give_way (edit_below change path) k one) → is_short path ≡ false
    → numbered_items 0 one ≡ numbered_items 0 other
numbers_edited change [] k one other same deep = absurd (true≢false deep)
numbers_edited change (j ∷ path) k one other same deep =
    sym (numbers_given change j path 0 k one)
    ∙ sym (numbers_roomless 0 (give_way (edit_below change (j ∷ path)) k one))
    ∙ sym (ap (numbered_items 0) same)
    ∙ numbers_roomless 0 other
