-- The effective items that an edit leaves: those of every procedure where it changes no declaration, and else those of
-- all but the one in which it was.
use Rattle.std.proofs.Common.{◌≡◌, ℕ, zero, suc, ◌≤◌, Bool, true, false, List, [], ◌∷◌, Option, Some, refl, ap, sym, subst, ◌∙◌, arith, ne_eqb, lt-ltb, ltb-true}
use Rattle.std.specs.Prelude.{◌==◌, find, if◌then◌else◌, nat_lt, option_map, slice_get, unwrap_or}
use Rattle.std.proofs.lemmas.Option.{none-some}
use Rattle.template_tree.specs.Checks.Environment.{Items, items_inside, procedure_at}
use Rattle.template_tree.specs.Edits.Edit.{edit_slot, give_way, procedure_of}
use Rattle.template_tree.specs.Positions.Path.{node_at}
use Rattle.template_tree.specs.Programs.PlainTree.{Forest, PlainNode, forest, join, nodes}
use Rattle.template_tree.specs.Programs.Slots.{times}
use Rattle.code_patch.proofs.QuietEdits.{AtSlot, GivesQuietly, NoItem, items_same}
use Rattle.code_patch.proofs.SlotNodes.{slot_there}

-- where no declaration changes all stay
pub items_quiet : (s : ℕ) (change : PlainNode → List PlainNode) (slot : ℕ) (program : Forest) → AtSlot s (GivesQuietly s change) program
    → NoItem s program → Items program slot ≡ Items (edit_slot s change program) slot
items_quiet s change slot Forest.nil quiet none = refl
items_quiet s change slot (Forest.cons label inner rest) quiet none =
    by (label.slot == slot) (items_quiet s change slot rest quiet.2 none.1)
    ∙ ap
    (λ (b : Bool).
    Items
    (if b then join (forest (change record { label = label; inner = inner })) (edit_slot s change rest)
    else Forest.cons label (edit_slot s change inner) (edit_slot s change rest))
    slot)
    (sym (ne_eqb label.slot s none.0))
  where
    by : (b : Bool) → Items rest slot ≡ Items (edit_slot s change rest) slot
        → unwrap_or
        (option_map (λ (node : PlainNode). items_inside node.inner)
        (if b then Some record { label = label; inner = inner } else procedure_at rest slot))
        []
        ≡ unwrap_or
        (option_map (λ (node : PlainNode). items_inside node.inner)
        (if b then Some record { label = label; inner = edit_slot s change inner } else procedure_at (edit_slot s change rest) slot))
        []
    by true again = items_same s change inner quiet.1
    by false again = again

-- nodes that are all in one slot
abbrev pub AreIn : (slot : ℕ) → List PlainNode → Type 0
AreIn slot [] = Unit {0}
AreIn slot (node ∷ nodes) = (node.label.slot ≡ slot) × AreIn slot nodes

-- another procedure is found behind them
found_behind : (t slot : ℕ) → (slot ≡ t → ⊥) → (came : List PlainNode) (rest : Forest) → AreIn t came
    → procedure_at (join (forest came) rest) slot ≡ procedure_at rest slot
found_behind t slot other [] rest are = refl
found_behind t slot other (node ∷ came) rest are =
    ap (λ (b : Bool). if b then Some record { label = node.label; inner = node.inner } else procedure_at (join (forest came) rest) slot)
    (ne_eqb node.label.slot slot (λ e. other (sym e ∙ are.0)))
    ∙ found_behind t slot other came rest are.1

-- where an item gives way to others in its slot, those of other slots stay
procedure_beside : (gives : PlainNode → List PlainNode) (slot k : ℕ) (program : Forest) (item : PlainNode)
    → slice_get (nodes program) k ≡ Some item → AreIn item.label.slot (gives item) → (slot ≡ item.label.slot → ⊥)
    → procedure_at program slot ≡ procedure_at (give_way gives k program) slot
procedure_beside gives slot zero Forest.nil item there are other = absurd (cc)
procedure_beside gives slot (suc k) Forest.nil item there are other = absurd (cc)
procedure_beside gives slot zero (Forest.cons label inner rest) item there are other =
    let first : PlainNode = record { label = label; inner = inner } in
    let same : item ≡ first = cc in
    let own : item.label.slot ≡ label.slot = ap (λ (n : PlainNode). n.label.slot) same in
    let in_slot : AreIn item.label.slot (gives first) = subst (λ (n : PlainNode). AreIn item.label.slot (gives n)) same are in
    ap (λ (b : Bool). if b then Some record { label = label; inner = inner } else procedure_at rest slot)
    (ne_eqb label.slot slot (λ e. other (sym e ∙ sym own)))
    ∙ sym (found_behind item.label.slot slot other (gives first) rest in_slot)
procedure_beside gives slot (suc k) (Forest.cons label inner rest) item there are other =
    ap (λ (found : Option PlainNode). if label.slot == slot then Some record { label = label; inner = inner } else found)
    (procedure_beside gives slot k rest item there are other)

pub items_beside : (gives : PlainNode → List PlainNode) (slot k : ℕ) (program : Forest) (item : PlainNode)
    → slice_get (nodes program) k ≡ Some item → AreIn item.label.slot (gives item) → (slot ≡ item.label.slot → ⊥)
    → Items program slot ≡ Items (give_way gives k program) slot
items_beside gives slot k program item there are other =
    ap (λ (found : Option PlainNode). unwrap_or (option_map (λ (node : PlainNode). items_inside node.inner) found) [])
    (procedure_beside gives slot k program item there are other)

-- ---- the procedure in which a slot stands

-- that of the item to which the path leads first
pub procedure_is : (program : Forest) (k : ℕ) (path : List ℕ) (item node : PlainNode) → slice_get (nodes program) k ≡ Some item
    → node_at program (k ∷ path) ≡ Some node → times node.label.slot program ≤ 1
    → procedure_of program node.label.slot ≡ Some item.label.slot
procedure_is Forest.nil zero path item node at there once = absurd (cc)
procedure_is Forest.nil (suc k) path item node at there once = absurd (cc)
procedure_is (Forest.cons label inner rest) zero path item node at there once =
    let first : PlainNode = record { label = label; inner = inner } in
    let same : first ≡ item = cc in
    let alone : node_at (Forest.cons label inner Forest.nil) (0 ∷ path) ≡ Some node = there in
    let live : 1 ≤ times node.label.slot (Forest.cons label inner Forest.nil) = slot_there (Forest.cons label inner Forest.nil) 0 path node alone in
    ap
    (λ (b : Bool).
    option_map (λ (n : PlainNode). n.label.slot)
    (if b then Some first else find (λ (n : PlainNode). nat_lt 0 (times node.label.slot (forest (n ∷ [])))) (nodes rest)))
    (lt-ltb 0 (times node.label.slot (Forest.cons label inner Forest.nil)) (omega (arith, live)))
    ∙ ap (λ (n : PlainNode). Some n.label.slot) same
procedure_is (Forest.cons label inner rest) (suc k) path item node at there once =
    let behind : node_at rest (k ∷ path) ≡ Some node = there in
    let live : 1 ≤ times node.label.slot rest = slot_there rest k path node behind in
    let none : times node.label.slot (Forest.cons label inner Forest.nil) ≡ 0 = omega (arith, live, once) in
    ap
    (λ (often : ℕ).
    option_map (λ (n : PlainNode). n.label.slot)
    (if nat_lt 0 often then Some record { label = label; inner = inner }
    else find (λ (n : PlainNode). nat_lt 0 (times node.label.slot (forest (n ∷ [])))) (nodes rest)))
    none
    ∙ procedure_is rest k path item node at behind (omega (arith, once))

-- a slot that stands in a procedure is live
pub procedure_live : (program : Forest) (slot found : ℕ) → procedure_of program slot ≡ Some found → 1 ≤ times slot program
procedure_live Forest.nil slot found is = absurd (none-some found is)
procedure_live (Forest.cons label inner rest) slot found is =
    by (nat_lt 0 (times slot (Forest.cons label inner Forest.nil))) refl (procedure_live rest slot found) is
  where
    by : (b : Bool) → nat_lt 0 (times slot (Forest.cons label inner Forest.nil)) ≡ b
        → (procedure_of rest slot ≡ Some found → 1 ≤ times slot rest)
        → option_map (λ (n : PlainNode). n.label.slot)
        (if b then Some record { label = label; inner = inner }
        else find (λ (n : PlainNode). nat_lt 0 (times slot (forest (n ∷ [])))) (nodes rest))
        ≡ Some found
        → 1 ≤ times slot (Forest.cons label inner rest)
    by true e again it = omega (arith, ltb-true 0 (times slot (Forest.cons label inner Forest.nil)) e)
    by false e again it = omega (arith, again it)
