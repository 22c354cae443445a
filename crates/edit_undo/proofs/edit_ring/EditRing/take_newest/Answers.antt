-- The newest edit is the first of the records; it weighs no more than all of them do, which is no more than they may.
use Rattle.std.specs.Prelude.{ℕ, ◌-◌, ◌≤◌, List, ◌∷◌, drop}
use Rattle.std.proofs.Common.{ap, arith, sym, subst, ◌∙◌}
use Rattle.circular_buffer.specs.Buffer.{Buffer, buffer}
use Rattle.edit_undo.specs.EditLimit.{KeepsEditLimits, edit_weight}
use Rattle.edit_undo.specs.Private.KeptRing.{IsKeptRing}
use Rattle.edit_undo.specs.declared.edit_record.EditRecord.{EditRecord}
use Rattle.edit_undo.proofs.KeptRings.{first_is, newest_left, newest_light, none_held, none_left}
use Rattle.edit_undo.proofs.edit_ring.EditRing.take_newest.Goals as goal

-- ---- none is held

pub invariant_of-self : goal.invariant_of-self
invariant_of-self c =
    let records = c.self.inside.records in
    subst (λ (held : Buffer EditRecord). IsKeptRing record { records = held; weight = c.self.inside.weight })
    (sym c.in_default.ensures.items)
    (none_left records.items records.capacity c.self.inside.weight c.self.invariant c.in_default.ensures.value)

pub returns-in_default-clause-limits : goal.returns-in_default-clause-limits
returns-in_default-clause-limits c = subst KeepsEditLimits c.self.view_is c.self.invariant.limits

pub returns-in_default-clause-none : goal.returns-in_default-clause-none
returns-in_default-clause-none c =
    let none = none_held c.self.inside.records.items c.in_default.ensures.value in
    let empty = sym c.self.view_is ∙ none in (
      empty,
      ap (λ (held : Buffer EditRecord). held.items) c.in_default.ensures.items ∙ (ap (drop 1) none ∙ sym empty),
    )

-- ---- one is

pub unreachable-requires : goal.unreachable-requires
unreachable-requires c =
    let records = c.self.inside.records in
    let light : edit_weight c.in-Some.edit.back ≤ c.self.inside.weight =
    newest_light records.items records.capacity c.self.inside.weight c.in-Some.edit c.self.invariant c.in-Some.ensures.value in
    omega (arith, c.in_default-weight.ensures.over, light, c.self.invariant.weight, c.self.invariant.limits.light)

pub overflow_sub-self : goal.overflow_sub-self
overflow_sub-self c =
    let records = c.self.inside.records in
    let light : edit_weight c.in-Some.edit.back ≤ c.self.inside.weight =
    newest_light records.items records.capacity c.self.inside.weight c.in-Some.edit c.self.invariant c.in-Some.ensures.value in
    omega (arith, light, c.in-Some-weight.ensures.within.0)

pub invariant_of-self-2 : goal.invariant_of-self-2
invariant_of-self-2 c =
    let records = c.self.inside.records in
    let weight : ℕ = c.self.inside.weight in
    subst (λ (held : Buffer EditRecord). IsKeptRing record { records = held; weight = weight - c.in-Some-weight.weight })
    (sym c.in-Some.ensures.items)
    (subst (λ (lost : ℕ). IsKeptRing record { records = buffer (drop 1 records.items) records.capacity; weight = weight - lost })
    (sym c.in-Some-weight.ensures.within.0)
    (newest_left records.items records.capacity weight c.in-Some.edit c.self.invariant c.in-Some.ensures.value))

pub returns-clause-newest : goal.returns-clause-newest
returns-clause-newest c =
    sym c.self.view_is
    ∙ (first_is c.self.inside.records.items c.in-Some.edit c.in-Some.ensures.value
    ∙ ap (λ (edits : List EditRecord). c.in-Some.edit ∷ edits) (sym (ap (λ (held : Buffer EditRecord). held.items) c.in-Some.ensures.items)))

pub returns-clause-limits : goal.returns-clause-limits
returns-clause-limits c = subst KeepsEditLimits c.self.view_is c.self.invariant.limits
