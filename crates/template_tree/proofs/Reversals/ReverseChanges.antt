-- How trees differ by the reversal of an edit.
use Rattle.std.specs.Prelude.{◌≡◌, refl, ℕ, ◌≤◌, List, [], ◌∷◌, Option, Some, None, option_map}
use Rattle.std.proofs.Common.{ap, sym, ◌∙◌, subst, arith}
use Rattle.template_tree.specs.declared.change.Change.{Change}
use Rattle.template_tree.specs.Edits.Edit.{DifferBy, Differs, changed_in, edit_at, edit_slot, procedure_of}
use Rattle.template_tree.specs.Edits.Receipt.{PlainUndoing, items_before}
use Rattle.template_tree.specs.Edits.Reversal.{IsUndoneIn, reverse_of, what_undone}
use Rattle.template_tree.specs.Positions.Path.{added_path, node_at}
use Rattle.template_tree.specs.Private.Exchange.{first_item}
use Rattle.template_tree.specs.Programs.Part.{with_part}
use Rattle.template_tree.specs.Programs.PlainTree.{Forest, PlainNode, PlainTree, roomless, roomless_node}
use Rattle.template_tree.specs.Programs.Slots.{times}
use Rattle.template_tree.proofs.Edits.EditedNodes.{edit_same, first_slot, node_there}
use Rattle.template_tree.proofs.Edits.Procedures.{procedure_there}
use Rattle.template_tree.proofs.Edits.SameEdits.{edits_alike}
use Rattle.template_tree.proofs.Edits.SlotEdits.{present, slot_edit_is_path_edit}
use Rattle.template_tree.proofs.Lists.ListEdits.{hole_there, taken_again}
use Rattle.template_tree.proofs.Room.RoomlessEdits.{stays}

-- what nodes before a reversal and after it say of the slot
pub record Turned (undoing : PlainUndoing) (slot procedure : ℕ) (before after : Forest) : Type 0 where
  pub by : DifferBy (reverse_of (what_undone undoing)) slot before after
  pub within : procedure_of (changed_in (reverse_of (what_undone undoing)) before after) slot ≡ Some procedure

-- an edit in a slot is one at the path of its node
in_slot : (change : PlainNode → List PlainNode) (items : Forest) (path : List ℕ) (node : PlainNode) (slot : ℕ) → node_at items path ≡ Some node
    → node.label.slot ≡ slot → times slot items ≤ 1 → edit_slot slot change items ≡ edit_at change path items
in_slot change items path node slot e is once =
    ap (λ s. edit_slot s change items) (sym is)
    ∙ slot_edit_is_path_edit change items path node (subst (λ s. times s items ≤ 1) (sym is) once) e

-- another node of the slot stands in the same procedure
same_procedure : (slot procedure : ℕ) (old new : PlainNode) (path : List ℕ) (before after : Forest) → node_at before path ≡ Some old
    → old.label.slot ≡ slot → new.label.slot ≡ slot → after ≡ edit_at (λ _. new ∷ []) path before → times slot before ≤ 1
    → times slot after ≤ 1 → procedure_of before slot ≡ Some procedure → procedure_of after slot ≡ Some procedure
same_procedure slot procedure old new path before after e old_is new_is is once once_after within =
    let came : Forest = edit_at (λ _. new ∷ []) path before in
    let few : times slot came ≤ 1 = subst (λ f. times slot f ≤ 1) is once_after in
    let was : procedure_of before old.label.slot ≡ option_map (λ item. item.label.slot) (first_item before path) =
    procedure_there before path old e (subst (λ s. times s before ≤ 1) (sym old_is) once) in
    let now : procedure_of came new.label.slot ≡ option_map (λ item. item.label.slot) (first_item came path) =
    procedure_there came path new (node_there old new before path e) (subst (λ s. times s came ≤ 1) (sym new_is) few) in
    let firsts = first_slot old new before path e (new_is ∙ sym old_is) in
    ap (λ f. procedure_of f slot) is
    ∙ (ap (procedure_of came) (sym new_is)
    ∙ (now ∙ (firsts ∙ (sym was ∙ (ap (procedure_of before) old_is ∙ within)))))

-- another node in the slot
node_turned : (slot procedure : ℕ) (old new : PlainNode) (path : List ℕ) (before after : Forest) → node_at before path ≡ Some old
    → old.label.slot ≡ slot → new.label.slot ≡ slot → after ≡ edit_at (λ _. new ∷ []) path before → times slot before ≤ 1
    → times slot after ≤ 1 → procedure_of before slot ≡ Some procedure → Turned PlainUndoing.put_back slot procedure before after
node_turned slot procedure old new path before after e old_is new_is is once once_after within =
    record {
      by = (new, new_is, ap roomless (is ∙ sym (in_slot (λ _. new ∷ []) before path old slot e old_is once)));
      within = same_procedure slot procedure old new path before after e old_is new_is is once once_after within;
    }

-- how the trees differ, by how the edit was undone
pub turned : (undoing : PlainUndoing) (back : Option PlainNode) (slot procedure : ℕ) (path : List ℕ) (there : PlainNode) (before after : Forest)
    → node_at before path ≡ Some there → IsUndoneIn slot undoing back there → times slot before ≤ 1 → times slot after ≤ 1
    → after ≡ edit_at (items_before undoing back) path before
    → procedure_of (changed_in (what_undone undoing) after before) slot ≡ Some procedure → Turned undoing slot procedure before after
turned (PlainUndoing.put node) back slot procedure path there before after e at once once_after is within =
    let same = node_turned slot procedure there node path before after e at.1 at.0 is once once_after within in
    record { by = same.by; within = same.within }
turned PlainUndoing.put_back None slot procedure path there before after e at once once_after is within =
    let stays_so : after ≡ before = is ∙ stays path before in
    node_turned slot procedure there there path before after e at.1 at.1 (stays_so ∙ sym (edit_same there before path e)) once once_after within
turned PlainUndoing.put_back (Some node) slot procedure path there before after e at once once_after is within =
    node_turned slot procedure there (roomless_node node) path before after e at.1 at.0 is once once_after within
turned (PlainUndoing.set_part part place) back slot procedure path there before after e at once once_after is within =
    let change : PlainNode → List PlainNode = λ item. with_part part place item ∷ [] in
    let new : PlainNode = with_part part place there in
    record {
      by = (place, ap roomless (is ∙ sym (in_slot change before path there slot e at once)));
      within =
          same_procedure slot procedure there new path before after e at at (is ∙ edits_alike change (λ _. new ∷ []) before path there e refl) once
          once_after within;
    }
turned PlainUndoing.take_out back slot procedure path there before after e at once once_after is within =
    let stands : 1 ≤ times slot before = subst (λ s. 1 ≤ times s before) at (present before path there e) in
    record {
      by = (omega (arith, stands, once), ap roomless (is ∙ sym (in_slot (λ _. []) before path there slot e at once)));
      within = within;
    }
turned (PlainUndoing.put_in side node) back slot procedure path there before after e at once once_after is within =
    let added = added_path side path in
    let came : node_at after added ≡ Some node = ap (λ f. node_at f added) is ∙ hole_there side node before path there e in
    let stands : 1 ≤ times slot after = subst (λ s. 1 ≤ times s after) at (present after added node came) in
    let left : edit_slot slot (λ _. []) after ≡ before =
    in_slot (λ _. []) after added node slot came at once_after ∙ (ap (edit_at (λ _. []) added) is ∙ taken_again side node before path there e)
    in
    record { by = (omega (arith, stands, once_after), ap roomless (sym left)); within = within }

-- so the trees differ by the change of the reversal
pub turned_differs : (undoing : PlainUndoing) (before after : PlainTree) (change : Change) → change.what ≡ reverse_of (what_undone undoing)
    → Turned undoing change.slot.0 change.procedure.0 before.items after.items → Differs before after change
turned_differs undoing before after change what h =
    record {
      by = subst (λ w. DifferBy w change.slot.0 before.items after.items) (sym what) h.by;
      within = subst (λ w. procedure_of (changed_in w before.items after.items) change.slot.0 ≡ Some change.procedure.0) (sym what) h.within;
    }
