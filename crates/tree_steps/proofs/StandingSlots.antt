-- A slot that is there but once stands at one place, and its procedure is the outermost node round it.
-- Both are inductions on the nodes: a slot stands in a node, inside it or behind it, and twice in two of these would
-- count two.
use Rattle.std.specs.Prelude.{◌≡◌, refl, ℕ, zero, suc, ◌+◌, ◌<◌, ◌≤◌, ◌==◌, nat_lt, Bool, true, false, if◌then◌else◌, List, [], ◌∷◌, find, Option, Some, option_map}
use Rattle.std.proofs.Common.{ap, sym, ◌∙◌, arith, inl, inr}
use Rattle.std.proofs.lemmas.Bool.{eq-eqb, eqb-true, lt-ltb, le-ltb}
use Rattle.plcs_grammar.specs.declared.node_kind.NodeKind.{NodeKind}
use Rattle.template_tree.specs.Programs.PlainTree.{Forest, Label, PlainNode, nodes, forest}
use Rattle.template_tree.specs.Programs.Slots.{times}
use Rattle.tree_steps.specs.StandingSlot.{Around, StandsBelow, outermost_slot}
use Rattle.tree_steps.specs.AgreementLaws.{LiveSlotsStand, ProceduresStandOutermost, SlotsStandOnce, StandingSlotsLive}

-- ---- how often a slot stands

-- one where the two are the same
abbrev pub one_if : ℕ → ℕ → ℕ
one_if a b = if a == b then 1 else 0

pub counted : (a b : ℕ) → a ≡ b → one_if a b ≡ 1
counted a b e = rw (eq-eqb a b e) refl

-- a slot that stands among nodes is counted there
pub stands_counted : (above : Around) (items : Forest) (slot : ℕ) (kind : NodeKind) (around : Around)
    → StandsBelow above items slot kind around → 1 ≤ times slot items
stands_counted above Forest.nil slot kind around h = absurd h
stands_counted above (Forest.cons label inner rest) slot kind around (inl h) =
    let one : one_if label.slot slot ≡ 1 = counted label.slot slot h.0 in
    omega (arith, one)
stands_counted above (Forest.cons label inner rest) slot kind around (inr (inl h)) =
    let some : 1 ≤ times slot inner = stands_counted ((label.slot, label.kind) ∷ above) inner slot kind around h in
    omega (arith, some)
stands_counted above (Forest.cons label inner rest) slot kind around (inr (inr h)) =
    let some : 1 ≤ times slot rest = stands_counted above rest slot kind around h in
    omega (arith, some)

pub standing_slots_live : StandingSlotsLive
standing_slots_live items slot kind around h = stands_counted [] items slot kind around h

-- where a slot stands, with what is around it
abbrev pub Standing : Around → Forest → ℕ → Type 0
Standing above items slot = (kind : NodeKind) × (around : Around) × StandsBelow above items slot kind around

-- the first node may have the slot
first_or : (same : Bool) (label : Label) (inner rest : Forest) (above : Around) (slot : ℕ) → (label.slot == slot) ≡ same
    → 1 ≤ (if same then 1 else 0) + (times slot inner + times slot rest)
    → (1 ≤ times slot inner → Standing ((label.slot, label.kind) ∷ above) inner slot) → (1 ≤ times slot rest → Standing above rest slot)
    → (n : ℕ) → n ≡ times slot inner
    → Standing above (Forest.cons label inner rest) slot
first_or true label inner rest above slot same some within behind n is =
    (label.kind, above, inl (eqb-true label.slot slot same, refl, refl))
first_or false label inner rest above slot same some within behind zero is =
    let there = behind (omega (arith, some, is)) in
    (there.0, there.1, inr (inr there.2))
first_or false label inner rest above slot same some within behind (suc n) is =
    let there = within (omega (arith, is)) in
    (there.0, there.1, inr (inl there.2))

pub counted_stands : (above : Around) (items : Forest) (slot : ℕ) → 1 ≤ times slot items → Standing above items slot
counted_stands above Forest.nil slot some = absurd (omega (arith, some))
counted_stands above (Forest.cons label inner rest) slot some =
    first_or (label.slot == slot) label inner rest above slot refl some
    (counted_stands ((label.slot, label.kind) ∷ above) inner slot) (counted_stands above rest slot) (times slot inner) refl

pub live_slots_stand : LiveSlotsStand
live_slots_stand items slot some = counted_stands [] items slot some

-- ---- one place

pub stands_once : (above : Around) (items : Forest) (slot : ℕ) (one two : NodeKind) (around other : Around) → times slot items ≤ 1
    → StandsBelow above items slot one around → StandsBelow above items slot two other → (one ≡ two) × (around ≡ other)
stands_once above Forest.nil slot one two around other once a b = absurd a
stands_once above (Forest.cons label inner rest) slot one two around other once (inl a) (inl b) =
    (sym a.1 ∙ b.1, sym a.2 ∙ b.2)
stands_once above (Forest.cons label inner rest) slot one two around other once (inl a) (inr (inl b)) =
    let here : one_if label.slot slot ≡ 1 = counted label.slot slot a.0 in
    let within : 1 ≤ times slot inner = stands_counted ((label.slot, label.kind) ∷ above) inner slot two other b in
    absurd (omega (arith, once, here, within))
stands_once above (Forest.cons label inner rest) slot one two around other once (inl a) (inr (inr b)) =
    let here : one_if label.slot slot ≡ 1 = counted label.slot slot a.0 in
    let behind : 1 ≤ times slot rest = stands_counted above rest slot two other b in
    absurd (omega (arith, once, here, behind))
stands_once above (Forest.cons label inner rest) slot one two around other once (inr (inl a)) (inl b) =
    let here : one_if label.slot slot ≡ 1 = counted label.slot slot b.0 in
    let within : 1 ≤ times slot inner = stands_counted ((label.slot, label.kind) ∷ above) inner slot one around a in
    absurd (omega (arith, once, here, within))
stands_once above (Forest.cons label inner rest) slot one two around other once (inr (inl a)) (inr (inl b)) =
    stands_once ((label.slot, label.kind) ∷ above) inner slot one two around other (omega (arith, once)) a b
stands_once above (Forest.cons label inner rest) slot one two around other once (inr (inl a)) (inr (inr b)) =
    let within : 1 ≤ times slot inner = stands_counted ((label.slot, label.kind) ∷ above) inner slot one around a in
    let behind : 1 ≤ times slot rest = stands_counted above rest slot two other b in
    absurd (omega (arith, once, within, behind))
stands_once above (Forest.cons label inner rest) slot one two around other once (inr (inr a)) (inl b) =
    let here : one_if label.slot slot ≡ 1 = counted label.slot slot b.0 in
    let behind : 1 ≤ times slot rest = stands_counted above rest slot one around a in
    absurd (omega (arith, once, here, behind))
stands_once above (Forest.cons label inner rest) slot one two around other once (inr (inr a)) (inr (inl b)) =
    let within : 1 ≤ times slot inner = stands_counted ((label.slot, label.kind) ∷ above) inner slot two other b in
    let behind : 1 ≤ times slot rest = stands_counted above rest slot one around a in
    absurd (omega (arith, once, within, behind))
stands_once above (Forest.cons label inner rest) slot one two around other once (inr (inr a)) (inr (inr b)) =
    stands_once above rest slot one two around other (omega (arith, once)) a b

pub slots_stand_once : SlotsStandOnce
slots_stand_once items slot one two around other once a b = stands_once [] items slot one two around other once a b

-- ---- the outermost node

-- what stands inside a node has the node round it that the node has
pub outermost_within : (items : Forest) (above : Around) (first : ℕ × NodeKind) (slot : ℕ) (kind : NodeKind) (around : Around)
    → StandsBelow (first ∷ above) items slot kind around → outermost_slot slot around ≡ outermost_slot first.0 above
outermost_within Forest.nil above first slot kind around h = absurd h
outermost_within (Forest.cons label inner rest) above first slot kind around (inl h) = ap (outermost_slot slot) (sym h.2)
outermost_within (Forest.cons label inner rest) above first slot kind around (inr (inl h)) =
    outermost_within inner (first ∷ above) (label.slot, label.kind) slot kind around h
outermost_within (Forest.cons label inner rest) above first slot kind around (inr (inr h)) =
    outermost_within rest above first slot kind around h

-- a slot that stands in an item or not
abbrev pub has : ℕ → PlainNode → Bool
has slot item = nat_lt 0 (times slot (forest (item ∷ [])))

-- the slot of the item that is found among these
abbrev pub slot_found : (PlainNode → Bool) → List PlainNode → Option ℕ
slot_found test items = option_map (λ item. item.label.slot) (find test items)

pub found_first : (test : PlainNode → Bool) (item : PlainNode) (items : List PlainNode) → test item ≡ true
    → slot_found test (item ∷ items) ≡ Some item.label.slot
found_first test item items e = rw e refl

pub found_later : (test : PlainNode → Bool) (item : PlainNode) (items : List PlainNode) → test item ≡ false
    → slot_found test (item ∷ items) ≡ slot_found test items
found_later test item items e = rw e refl

pub procedures_stand_outermost : ProceduresStandOutermost
procedures_stand_outermost Forest.nil slot kind around once h = absurd h
procedures_stand_outermost (Forest.cons label inner rest) slot kind around once (inl h) =
    let item : PlainNode = record { label = label; inner = inner } in
    let here : one_if label.slot slot ≡ 1 = counted label.slot slot h.0 in
    let there : 0 < times slot (forest (item ∷ [])) = omega (arith, here) in
    found_first (has slot) item (nodes rest) (lt-ltb 0 (times slot (forest (item ∷ []))) there)
    ∙ ap Some (h.0 ∙ ap (outermost_slot slot) h.2)
procedures_stand_outermost (Forest.cons label inner rest) slot kind around once (inr (inl h)) =
    let item : PlainNode = record { label = label; inner = inner } in
    let within : 1 ≤ times slot inner = stands_counted ((label.slot, label.kind) ∷ []) inner slot kind around h in
    let there : 0 < times slot (forest (item ∷ [])) = omega (arith, within) in
    found_first (has slot) item (nodes rest) (lt-ltb 0 (times slot (forest (item ∷ []))) there)
    ∙ ap Some (sym (outermost_within inner [] (label.slot, label.kind) slot kind around h))
procedures_stand_outermost (Forest.cons label inner rest) slot kind around once (inr (inr h)) =
    let item : PlainNode = record { label = label; inner = inner } in
    let behind : 1 ≤ times slot rest = stands_counted [] rest slot kind around h in
    let none : times slot (forest (item ∷ [])) ≤ 0 = omega (arith, once, behind) in
    found_later (has slot) item (nodes rest) (le-ltb 0 (times slot (forest (item ∷ []))) none)
    ∙ procedures_stand_outermost rest slot kind around (omega (arith, once)) h
