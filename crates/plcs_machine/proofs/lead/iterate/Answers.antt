-- The sum that the operator gives is the one with which the loop goes on.
use Rattle.std.proofs.Common.{rules, ◌≡◌, ℕ, ℤ, ◌+ℤ◌, List, Some, Ok, ap, sym, ◌∙◌}
use mir.Syntax.{w32}
use mir.Val.{SFits, of_z, to_z}
use Rattle.plcs_base.specs.declared.value.Value.{Value}
use Rattle.plcs_store.specs.declared.cell.Location.{Location}
use Rattle.plcs_store.specs.declared.frame.Frame.{Frame}
use Rattle.plcs_store.specs.declared.kept_loop.KeptLoop.{KeptLoop}
use Rattle.plcs_store.specs.Operator.{fixed_value, on_number}
use Rattle.plcs_store.specs.Outcome.{Outcome, answer_outcome, then_gives}
use Rattle.plcs_machine.specs.Private.InstructionLead.{iterate_lead, sum_lead}
use Rattle.plcs_machine.specs.Private.PlainLed.{is_fine}
use Rattle.plcs_machine.proofs.WholeNumbers.{passed, sum_given}
use Rattle.plcs_machine.proofs.lead.iterate.Goals as goal

iterated : (frames : List Frame) (next number : ℕ) (kept : KeptLoop) (location : Location) (value sum d : ℤ) → SFits w32 sum → SFits w32 d
    → Outcome.gives (Value.Fixed sum) ≡ fixed_value (value +ℤ kept.step)
    → sum_lead frames next number kept location (to_z w32 (of_z w32 sum)) (to_z w32 (of_z w32 d)) ≡ iterate_lead frames next number kept location value d
iterated frames next number kept location value sum d fits_sum fits_by gives =
    ap (λ (z : ℤ). sum_lead frames next number kept location z (to_z w32 (of_z w32 d))) (passed sum fits_sum)
    ∙ ap (λ (e : ℤ). sum_lead frames next number kept location sum e) (passed d fits_by)
    ∙ ap (λ (o : Outcome Value). then_gives o (on_number (λ z. sum_lead frames next number kept location z d))) gives

pub returns-in-Ok-Some-Fixed : goal.returns-in-Ok-Some-Fixed
returns-in-Ok-Some-Fixed c =
    let kept = c.args.kept in
    let value = c.args.value in
    let sum = c.in-Ok-Some-Fixed.sum in
    let fits_sum : SFits w32 sum = search rules in
    let fits_step : SFits w32 kept.step = search rules in
    let found : c.fixed_value.result ≡ Ok (Some (Value.Fixed sum)) = cc (c.in-Ok-Some-Fixed.is, c.in-Ok-Some-Fixed.field-0-is, c.in-Ok-Some-Fixed.field-0-0-is) in
    let gives : Outcome.gives (Value.Fixed sum) ≡ fixed_value (value +ℤ kept.step) =
    sym (ap answer_outcome found) ∙ c.fixed_value.ensures
    ∙ ap fixed_value (sum_given value kept.step c.from.result c.from-2.result c.ranges.value fits_step c.from.ensures c.from-2.ensures) in
    λ values arguments.
    c.iterate_to.ensures values arguments
    ∙ iterated c.args.frames.now c.args.next c.args.number kept c.args.location value sum c.args.by fits_sum c.ranges.by gives

pub iterate_to-requires : goal.iterate_to-requires
iterate_to-requires c =
    let kept = c.args.kept in
    let value = c.args.value in
    let sum = c.in-Ok-Some-Fixed.sum in
    let fits_sum : SFits w32 sum = search rules in
    let fits_step : SFits w32 kept.step = search rules in
    let found : c.fixed_value.result ≡ Ok (Some (Value.Fixed sum)) = cc (c.in-Ok-Some-Fixed.is, c.in-Ok-Some-Fixed.field-0-is, c.in-Ok-Some-Fixed.field-0-0-is) in
    let gives : Outcome.gives (Value.Fixed sum) ≡ fixed_value (value +ℤ kept.step) =
    sym (ap answer_outcome found) ∙ c.fixed_value.ensures
    ∙ ap fixed_value (sum_given value kept.step c.from.result c.from-2.result c.ranges.value fits_step c.from.ensures c.from-2.ensures) in
    record {
      fine =
          ap is_fine (iterated c.args.frames.now c.args.next c.args.number kept c.args.location value sum c.args.by fits_sum c.ranges.by gives)
          ∙ c.requires.fine;
    }

pub returns-in-Err : goal.returns-in-Err
returns-in-Err c =
    let kept = c.args.kept in
    let value = c.args.value in
    let fits_step : SFits w32 kept.step = search rules in
    λ values arguments.
    ap (λ (o : Outcome Value). then_gives o (on_number (λ z. sum_lead c.args.frames.now c.args.next c.args.number kept c.args.location z c.args.by)))
    (sym (ap answer_outcome c.in-Err.is) ∙ c.fixed_value.ensures
    ∙ ap fixed_value (sum_given value kept.step c.from.result c.from-2.result c.ranges.value fits_step c.from.ensures c.from-2.ensures))
