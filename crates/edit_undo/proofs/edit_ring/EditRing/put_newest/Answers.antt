-- There is room for one more among the records, so none of them is dropped.
use Rattle.std.specs.Prelude.{ℕ, ◌+◌, ◌<◌, ◌≤◌, List, ◌∷◌, length, take}
use Rattle.std.proofs.Common.{ap, arith, sym, subst, ◌∙◌}
use Rattle.circular_buffer.specs.Buffer.{Buffer, buffer}
use Rattle.edit_undo.specs.EditLimit.{edit_weight, edits_weight, most_edits, most_taken_slots}
use Rattle.edit_undo.specs.Private.KeptRing.{IsKeptRing}
use Rattle.edit_undo.specs.declared.edit_record.EditRecord.{EditRecord}
use Rattle.edit_undo.proofs.KeptRings.{newest_kept, newest_put}
use Rattle.edit_undo.proofs.edit_ring.EditRing.put_newest.Goals as goal

pub overflow_add-self : goal.overflow_add-self
overflow_add-self c = omega (arith, c.self.invariant.weight, ap edits_weight c.self.view_is, c.requires.room)

pub invariant_of-self : goal.invariant_of-self
invariant_of-self c =
    let records = c.self.inside.records in
    let weight : ℕ = c.self.inside.weight in
    let held : List EditRecord = take records.capacity (c.args.edit ∷ records.items) in
    let few : length records.items < most_edits = subst (λ (e : List EditRecord). length e < most_edits) (sym c.self.view_is) c.requires.few in
    let light : edits_weight records.items + edit_weight c.args.edit.back ≤ most_taken_slots =
    omega (arith, ap edits_weight c.self.view_is, c.requires.room, c.requires.weight) in
    subst (λ (b : Buffer EditRecord). IsKeptRing record { records = b; weight = weight + c.args.weight }) (sym c.push_front.ensures.items)
    (subst (λ (w : ℕ). IsKeptRing record { records = buffer held records.capacity; weight = weight + w }) (sym c.requires.weight)
    (newest_kept records.items records.capacity weight c.args.edit c.self.invariant few light))

pub returns : goal.returns
returns c =
    let records = c.self.inside.records in
    let few : length records.items < most_edits = subst (λ (e : List EditRecord). length e < most_edits) (sym c.self.view_is) c.requires.few in
    ap (λ (b : Buffer EditRecord). b.items) c.push_front.ensures.items
    ∙ (newest_put records.items records.capacity c.self.inside.weight c.args.edit c.self.invariant few
    ∙ ap (λ (edits : List EditRecord). c.args.edit ∷ edits) c.self.view_is)
