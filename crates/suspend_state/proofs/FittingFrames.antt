-- The frames of a run that fits a program stand in procedures and in slots of it.
use Rattle.std.specs.Prelude.{◌≡◌, refl, ℕ, zero, suc, ◌==◌, Bool, if◌then◌else◌, true, false, List, [], ◌∷◌, slice_get, Option, Some, None, IsSome}
use Rattle.std.proofs.Common.{ap, sym, ◌∙◌, subst, inl, inr}
use Rattle.std.proofs.lemmas.Bool.{eq-eqb}
use Rattle.std.proofs.lemmas.Option.{none-some}
use Rattle.plcs_grammar.specs.declared.node_kind.NodeKind.{NodeKind}
use Rattle.template_tree.specs.Checks.Environment.{procedure_at}
use Rattle.template_tree.specs.Programs.PlainTree.{Forest, PlainNode}
use Rattle.tree_steps.specs.AgreementLaws.{StandingSlotsLive}
use Rattle.tree_steps.specs.StandingSlot.{Around, StandsBelow, StandsInside, outermost_slot}
use Rattle.plcs_store.specs.declared.frame.Frame.{Frame}
use Rattle.plcs_store.specs.Configuration.{PlainConfiguration}
use Rattle.plcs_store.specs.Fits.{AllStand, Fits, StandsAt}
use Rattle.suspend_state.specs.Private.FoundFrames.{HasProcedures, HasSlots}

abbrev frame_or : Frame → Option Frame → Frame
frame_or other None = other
frame_or other (Some frame) = frame

-- a frame of those that stand stands somewhere
pub each_stands : (program : Forest) (frames : List Frame) (number : ℕ) (frame : Frame) → AllStand program frames
    → slice_get frames number ≡ Some frame → (waits : Bool) × StandsAt program waits frame
each_stands program [] number frame all e = absurd (none-some frame e)
each_stands program (one ∷ []) zero frame all e = (false, subst (StandsAt program false) (ap (frame_or one) e) all.0)
each_stands program (one ∷ []) (suc number) frame all e = absurd (none-some frame e)
each_stands program (one ∷ (above ∷ frames)) zero frame all e = (true, subst (StandsAt program true) (ap (frame_or one) e) all.0)
each_stands program (one ∷ (above ∷ frames)) (suc number) frame all e = each_stands program (above ∷ frames) number frame all.1 e

outermost_within : (items : Forest) (above : Around) (first : ℕ × NodeKind) (slot : ℕ) (kind : NodeKind) (around : Around)
    → StandsBelow (first ∷ above) items slot kind around → outermost_slot slot around ≡ outermost_slot first.0 above
outermost_within Forest.nil above first slot kind around h = absurd h
outermost_within (Forest.cons label inner rest) above first slot kind around (inl h) = ap (outermost_slot slot) (sym h.2)
outermost_within (Forest.cons label inner rest) above first slot kind around (inr (inl h)) =
    outermost_within inner (first ∷ above) (label.slot, label.kind) slot kind around h
outermost_within (Forest.cons label inner rest) above first slot kind around (inr (inr h)) =
    outermost_within rest above first slot kind around h

some_here : (same : Bool) (node : PlainNode) (behind : Option PlainNode) → same ≡ true → IsSome (if same then Some node else behind)
some_here true node behind e = refl
some_here false node behind e = absurd (none-some node (ap (λ (b : Bool). let o : Option PlainNode = if b then Some node else None in o) e))

some_behind : (same : Bool) (node : PlainNode) (behind : Option PlainNode) → IsSome behind → IsSome (if same then Some node else behind)
some_behind true node behind some = refl
some_behind false node behind some = some

-- the outermost node round a slot is a procedure
has_procedure : (items : Forest) (slot : ℕ) (kind : NodeKind) (around : Around) → StandsInside items slot kind around
    → IsSome (procedure_at items (outermost_slot slot around))
has_procedure Forest.nil slot kind around h = absurd h
has_procedure (Forest.cons label inner rest) slot kind around (inl h) =
    let outermost : outermost_slot slot around ≡ slot = ap (outermost_slot slot) (sym h.2) in
    some_here (label.slot == outermost_slot slot around) (record { label = label; inner = inner }) (procedure_at rest (outermost_slot slot around))
    (eq-eqb label.slot (outermost_slot slot around) (h.0 ∙ sym outermost))
has_procedure (Forest.cons label inner rest) slot kind around (inr (inl h)) =
    some_here (label.slot == outermost_slot slot around) (record { label = label; inner = inner }) (procedure_at rest (outermost_slot slot around))
    (eq-eqb label.slot (outermost_slot slot around) (sym (outermost_within inner [] (label.slot, label.kind) slot kind around h)))
has_procedure (Forest.cons label inner rest) slot kind around (inr (inr h)) =
    some_behind (label.slot == outermost_slot slot around) (record { label = label; inner = inner }) (procedure_at rest (outermost_slot slot around))
    (has_procedure rest slot kind around h)

pub have_procedures : (program : Forest) (c : PlainConfiguration) → Fits program c → HasProcedures program c.frames
have_procedures program c fits number frame e =
    let stands = (each_stands program c.frames number frame fits.frames.stand e).1 in
    subst (λ (slot : ℕ). IsSome (procedure_at program slot)) stands.2.procedure
    (has_procedure program frame.place.slot.0 stands.0 stands.1 stands.2.stands)

pub have_slots : (program : Forest) (c : PlainConfiguration) → StandingSlotsLive → Fits program c → HasSlots program c.frames
have_slots program c live fits number frame e =
    let stands = (each_stands program c.frames number frame fits.frames.stand e).1 in
    live program frame.place.slot.0 stands.0 stands.1 stands.2.stands
