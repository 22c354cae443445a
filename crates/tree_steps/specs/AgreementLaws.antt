-- The laws of agreement: edits give it, and steps and going back to a kept tree keep it; what follows from it.
use Rattle.std.specs.Prelude.{◌≡◌, ℕ, ◌≤◌, Some}
use Rattle.plcs_grammar.specs.declared.node_kind.NodeKind.{NodeKind}
use Rattle.template_tree.specs.Edits.Edit.{procedure_of}
use Rattle.template_tree.specs.Programs.PlainTree.{Forest, PlainTree}
use Rattle.template_tree.specs.Programs.Slots.{AllBelow, times}
use Rattle.template_tree.specs.Programs.Tree.{IsTree}
use Rattle.tree_steps.specs.SlotAgreement.{AgreesWith}
use Rattle.tree_steps.specs.StandingSlot.{Around, StandsInside, outermost_slot}
use Rattle.tree_steps.specs.EditStep.{CameByEdits, IsEditStep, substance}

-- ---- where slots stand

-- one of the laws of agreement: a live slot of a tree stands somewhere
abbrev pub LiveSlotsStand : Type 0
LiveSlotsStand =
    (items : Forest) (slot : ℕ) → 1 ≤ times slot items
    → (kind : NodeKind) × (around : Around) × StandsInside items slot kind around

-- one of the laws of agreement: a slot that stands somewhere in a tree is live
abbrev pub StandingSlotsLive : Type 0
StandingSlotsLive =
    (items : Forest) (slot : ℕ) (kind : NodeKind) (around : Around) → StandsInside items slot kind around
    → 1 ≤ times slot items

-- one of the laws of agreement: a slot that is there but once in a tree stands at one place
abbrev pub SlotsStandOnce : Type 0
SlotsStandOnce =
    (items : Forest) (slot : ℕ) (kind other_kind : NodeKind) (around other : Around) → times slot items ≤ 1
    → StandsInside items slot kind around → StandsInside items slot other_kind other
    → (kind ≡ other_kind) × (around ≡ other)

-- of a tree, as agreement asks: the procedure of a slot is the outermost node round it
abbrev pub ProceduresStandOutermost : Type 0
ProceduresStandOutermost =
    (items : Forest) (slot : ℕ) (kind : NodeKind) (around : Around) → times slot items ≤ 1
    → StandsInside items slot kind around → procedure_of items slot ≡ Some (outermost_slot slot around)

-- ---- agreement

-- edits give agreement: a tree agrees with those from which edits made it
abbrev pub EditsAgree : Type 0
EditsAgree = (before after : PlainTree) → IsTree before → CameByEdits before after → AgreesWith before after

-- a step keeps the agreement with each earlier tree
abbrev pub EditStepsKeepAgreement : Type 0
EditStepsKeepAgreement =
    (earlier before after : PlainTree) → AgreesWith earlier before → IsEditStep before after → AgreesWith earlier after

-- going back to a kept tree that agreed keeps the agreement, also where more slots are drawn by now
abbrev pub GoingBackAgrees : Type 0
GoingBackAgrees =
    (earlier kept back : PlainTree) → AgreesWith earlier kept
    → substance back.items ≡ substance kept.items → kept.drawn ≤ back.drawn → AgreesWith earlier back

-- going back to a tree past one that agreed with it: what is gone back to agrees with the one that was left, as long as
-- the slots of that one stay drawn
abbrev pub GoingBackPastAgrees : Type 0
GoingBackPastAgrees =
    (one other back : PlainTree) → AgreesWith one other → AllBelow back.drawn other.items
    → substance back.items ≡ substance one.items → AgreesWith other back

-- the elision and the room of the earlier tree make no difference to agreement
abbrev pub EarlierAgreesAlike : Type 0
EarlierAgreesAlike =
    (one other later : PlainTree) → substance one.items ≡ substance other.items → AgreesWith one later
    → AgreesWith other later

-- a slot that is live in trees that agree stands in the same procedure
abbrev pub AgreementKeepsProcedures : Type 0
AgreementKeepsProcedures =
    (earlier later : PlainTree) (slot : ℕ) → IsTree earlier → IsTree later → AgreesWith earlier later
    → 1 ≤ times slot earlier.items → 1 ≤ times slot later.items
    → procedure_of earlier.items slot ≡ procedure_of later.items slot
