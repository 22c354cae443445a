-- The loop, the place of its variable and the value in it are found one after the other.
use Rattle.std.proofs.Common.{rules, ◌≡◌, ℕ, ℤ, List, Option, Some, None, Ok, ap, sym, ◌∙◌}
use mir.Syntax.{w32}
use mir.Val.{SFits, of_z, to_z}
use Rattle.plcs_base.specs.declared.value.Value.{Value}
use Rattle.plcs_store.specs.declared.cell.Location.{Location}
use Rattle.plcs_store.specs.declared.frame.Frame.{Frame}
use Rattle.plcs_store.specs.declared.kept_loop.KeptLoop.{KeptLoop}
use Rattle.plcs_store.specs.CellAt.{value_at}
use Rattle.plcs_store.specs.LoopOfSlot.{NumberedLoop, newest_loop}
use Rattle.plcs_store.specs.Operator.{on_number}
use Rattle.plcs_store.specs.Outcome.{Outcome, answer_outcome, found_or_fault, if_there, then_gives}
use Rattle.plcs_machine.specs.Lead.{for_next_lead}
use Rattle.plcs_machine.specs.Private.InstructionLead.{iterate_lead}
use Rattle.plcs_machine.specs.Private.PlainLed.{is_fine}
use Rattle.plcs_machine.specs.Reached.{reached}
use Rattle.plcs_machine.proofs.WholeNumbers.{passed}
use Rattle.plcs_machine.proofs.lead.next_iteration.Goals as goal

continued : (frames : List Frame) (next slot : ℕ) (name : List ℕ) (number : ℕ) (kept : KeptLoop) (location : Location) (value d : ℤ) → SFits w32 value
    → SFits w32 d → Some (number, kept) ≡ newest_loop slot frames → Outcome.gives location ≡ reached frames name None
    → Outcome.gives (Value.Fixed value) ≡ value_at frames location
    → iterate_lead frames next number kept location (to_z w32 (of_z w32 value)) (to_z w32 (of_z w32 d)) ≡ for_next_lead frames next slot name d
continued frames next slot name number kept location value d fits_value fits_by loop_is place_is value_is =
    ap (λ (z : ℤ). iterate_lead frames next number kept location z (to_z w32 (of_z w32 d))) (passed value fits_value)
    ∙ ap (λ (e : ℤ). iterate_lead frames next number kept location value e) (passed d fits_by)
    ∙ ap (λ (o : Outcome Value). then_gives o (on_number (λ z. iterate_lead frames next number kept location z d))) value_is
    ∙ ap (λ (o : Outcome Location). then_gives o (λ place.
    then_gives (value_at frames place) (on_number (λ z. iterate_lead frames next number kept place z d)))) place_is
    ∙ ap (λ (o : Option NumberedLoop). then_gives (if_there o) (λ found.
    then_gives (reached frames name None) (λ place.
    then_gives (value_at frames place) (on_number (λ z. iterate_lead frames next found.0 found.1 place z d))))) loop_is

pub returns-in-Ok-Some-Fixed : goal.returns-in-Ok-Some-Fixed
returns-in-Ok-Some-Fixed c =
    let frames = c.args.frames.now in
    let value = c.in-Ok-Some-Fixed.value in
    let fits_value : SFits w32 value = search rules in
    let loop_is : Some (c.in-Some.number, c.in-Some.kept) ≡ newest_loop c.args.slot.0 frames = sym c.in-Some.is ∙ c.newest_loop.ensures in
    let place_is : Outcome.gives c.in-Ok.location ≡ reached frames c.args.name.now None = sym (ap found_or_fault c.in-Ok.is) ∙ c.reached.ensures in
    let found : c.value_at.result ≡ Ok (Some (Value.Fixed value)) = cc (c.in-Ok-Some-Fixed.is, c.in-Ok-Some-Fixed.field-0-is, c.in-Ok-Some-Fixed.field-0-0-is) in
    let value_is : Outcome.gives (Value.Fixed value) ≡ value_at frames c.in-Ok.location = sym (ap answer_outcome found) ∙ c.value_at.ensures in
    λ values arguments.
    c.iterate.ensures values arguments
    ∙ continued frames c.args.next c.args.slot.0 c.args.name.now c.in-Some.number c.in-Some.kept c.in-Ok.location value c.args.by fits_value c.ranges.by
    loop_is place_is value_is

pub iterate-requires : goal.iterate-requires
iterate-requires c =
    let frames = c.args.frames.now in
    let value = c.in-Ok-Some-Fixed.value in
    let fits_value : SFits w32 value = search rules in
    let loop_is : Some (c.in-Some.number, c.in-Some.kept) ≡ newest_loop c.args.slot.0 frames = sym c.in-Some.is ∙ c.newest_loop.ensures in
    let place_is : Outcome.gives c.in-Ok.location ≡ reached frames c.args.name.now None = sym (ap found_or_fault c.in-Ok.is) ∙ c.reached.ensures in
    let found : c.value_at.result ≡ Ok (Some (Value.Fixed value)) = cc (c.in-Ok-Some-Fixed.is, c.in-Ok-Some-Fixed.field-0-is, c.in-Ok-Some-Fixed.field-0-0-is) in
    let value_is : Outcome.gives (Value.Fixed value) ≡ value_at frames c.in-Ok.location = sym (ap answer_outcome found) ∙ c.value_at.ensures in
    record {
      fine =
          ap is_fine
          (continued frames c.args.next c.args.slot.0 c.args.name.now c.in-Some.number c.in-Some.kept c.in-Ok.location value c.args.by fits_value c.ranges.by
          loop_is place_is value_is)
          ∙ c.requires.fine;
    }
