-- The oldest edit is the last of the records; it weighs no more than all of them do, which is no more than they may.
use Rattle.std.specs.Prelude.{ℕ, ◌-◌, ◌<◌, ◌≤◌, List, length, take}
use Rattle.std.proofs.Common.{ap, arith, sym, subst, ◌∙◌}
use Rattle.circular_buffer.specs.Buffer.{Buffer, buffer}
use Rattle.edit_undo.specs.EditLimit.{edit_weight}
use Rattle.edit_undo.specs.Private.KeptRing.{IsKeptRing, without_last}
use Rattle.edit_undo.specs.declared.edit_record.EditRecord.{EditRecord}
use Rattle.edit_undo.proofs.KeptRings.{last_there, oldest_left, oldest_light}
use Rattle.edit_undo.proofs.LatestEdits.{taken_last}
use Rattle.edit_undo.proofs.edit_ring.EditRing.drop_oldest.Goals as goal

pub unreachable-requires : goal.unreachable-requires
unreachable-requires c =
    last_there c.self.inside.records.items (subst (λ (held : List EditRecord). 0 < length held) (sym c.self.view_is) c.requires.some)
    c.in_default.ensures.value

pub unreachable-requires-in_default-weight : goal.unreachable-requires-in_default-weight
unreachable-requires-in_default-weight c =
    let records = c.self.inside.records in
    let light : edit_weight c.in-Some.oldest.back ≤ c.self.inside.weight =
    oldest_light records.items records.capacity c.self.inside.weight c.in-Some.oldest c.self.invariant c.in-Some.ensures.value in
    omega (arith, c.in_default-weight.ensures.over, light, c.self.invariant.weight, c.self.invariant.limits.light)

pub overflow_sub-self : goal.overflow_sub-self
overflow_sub-self c =
    let records = c.self.inside.records in
    let light : edit_weight c.in-Some.oldest.back ≤ c.self.inside.weight =
    oldest_light records.items records.capacity c.self.inside.weight c.in-Some.oldest c.self.invariant c.in-Some.ensures.value in
    omega (arith, light, c.in-Some-weight.ensures.within.0)

pub invariant_of-self : goal.invariant_of-self
invariant_of-self c =
    let records = c.self.inside.records in
    let weight : ℕ = c.self.inside.weight in
    let left : List EditRecord = take (length records.items - 1) records.items in
    subst (λ (held : Buffer EditRecord). IsKeptRing record { records = held; weight = weight - c.in-Some-weight.weight })
    (sym c.in-Some.ensures.items)
    (subst (λ (lost : ℕ). IsKeptRing record { records = buffer left records.capacity; weight = weight - lost })
    (sym c.in-Some-weight.ensures.within.0)
    (oldest_left records.items records.capacity weight c.in-Some.oldest c.self.invariant c.in-Some.ensures.value))

pub returns : goal.returns
returns c =
    ap (λ (held : Buffer EditRecord). held.items) c.in-Some.ensures.items
    ∙ (taken_last c.self.inside.records.items ∙ ap without_last c.self.view_is)
