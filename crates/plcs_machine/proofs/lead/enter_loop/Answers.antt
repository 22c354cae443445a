-- The three operands are the step, the limit and the first value, and the place of the variable is found.
use Rattle.std.proofs.Common.{rules, ◌≡◌, ◌∷◌, ℕ, ℤ, List, None, ap, sym, ◌∙◌}
use mir.Syntax.{w32}
use mir.Val.{SFits, of_z, to_z}
use Rattle.plcs_base.specs.declared.value.Value.{Value}
use Rattle.plcs_store.specs.declared.cell.Location.{Location}
use Rattle.plcs_store.specs.declared.frame.Frame.{Frame}
use Rattle.plcs_store.specs.declared.kept_loop.KeptLoop.{KeptLoop}
use Rattle.plcs_store.specs.Outcome.{Outcome, found_or_fault, then_gives}
use Rattle.plcs_machine.specs.Lead.{Lead, for_enter_lead}
use Rattle.plcs_machine.specs.Private.InstructionLead.{entry_lead}
use Rattle.plcs_machine.specs.Private.PlainLed.{is_fine}
use Rattle.plcs_machine.specs.Reached.{reached}
use Rattle.plcs_machine.proofs.WholeNumbers.{passed}
use Rattle.plcs_machine.proofs.lead.enter_loop.Goals as goal

-- a loop that is kept for a slot
abbrev kept : ℕ → ℤ → ℤ → KeptLoop
kept slot limit step = record { slot = record { 0 = slot }; limit = limit; step = step }

entered : (frames : List Frame) (next slot : ℕ) (name : List ℕ) (location : Location) (step limit first d : ℤ) (values rest : List Value)
    → SFits w32 step → SFits w32 limit → SFits w32 first → SFits w32 d → Outcome.gives location ≡ reached frames name None
    → values ≡ Value.Fixed step ∷ (Value.Fixed limit ∷ (Value.Fixed first ∷ rest))
    → entry_lead frames next (kept slot (to_z w32 (of_z w32 limit)) (to_z w32 (of_z w32 step))) location (to_z w32 (of_z w32 first)) (to_z w32 (of_z w32 d))
    ≡ for_enter_lead frames next slot name d values
entered frames next slot name location step limit first d values rest fits_step fits_limit fits_first fits_by place_is whole =
    let leads : ℤ → ℤ → ℤ → ℤ → Outcome Lead = λ most each one e. entry_lead frames next (kept slot most each) location one e in
    ap (λ (z : ℤ). leads z (to_z w32 (of_z w32 step)) (to_z w32 (of_z w32 first)) (to_z w32 (of_z w32 d))) (passed limit fits_limit)
    ∙ ap (λ (z : ℤ). leads limit z (to_z w32 (of_z w32 first)) (to_z w32 (of_z w32 d))) (passed step fits_step)
    ∙ ap (λ (z : ℤ). leads limit step z (to_z w32 (of_z w32 d))) (passed first fits_first)
    ∙ ap (λ (z : ℤ). leads limit step first z) (passed d fits_by)
    ∙ ap (λ (o : Outcome Location). then_gives o (λ place. entry_lead frames next (kept slot limit step) place first d)) place_is
    ∙ ap (λ (those : List Value). for_enter_lead frames next slot name d those) (sym whole)

pub returns-in-Ok : goal.returns-in-Ok
returns-in-Ok c =
    let step = c.in-Some-Fixed.step in
    let limit = c.in-Some-Fixed-pop.limit in
    let first = c.in-Some-Fixed-pop-2.first in
    let fits_step : SFits w32 step = search rules in
    let fits_limit : SFits w32 limit = search rules in
    let fits_first : SFits w32 first = search rules in
    let place_is : Outcome.gives c.in-Ok.location ≡ reached c.args.frames.now c.args.name.now None =
    sym (ap found_or_fault c.in-Ok.is) ∙ c.reached.ensures in
    let whole : c.args.operands.now.values ≡ Value.Fixed step ∷ (Value.Fixed limit ∷ (Value.Fixed first ∷ c.pop-3.new.self)) =
    cc (
      c.in-Some-Fixed.ensures.some,
      c.in-Some-Fixed.field-0-is,
      c.in-Some-Fixed-pop.ensures.some,
      c.in-Some-Fixed-pop.field-0-is,
      c.in-Some-Fixed-pop-2.ensures.some,
      c.in-Some-Fixed-pop-2.field-0-is,
    ) in
    c.enter_at.ensures c.pop-3.new.self c.args.operands.now.arguments
    ∙ entered c.args.frames.now c.args.next c.args.slot.0 c.args.name.now c.in-Ok.location step limit first c.args.by c.args.operands.now.values
    c.pop-3.new.self fits_step fits_limit fits_first c.ranges.by place_is whole

pub enter_at-requires : goal.enter_at-requires
enter_at-requires c =
    let step = c.in-Some-Fixed.step in
    let limit = c.in-Some-Fixed-pop.limit in
    let first = c.in-Some-Fixed-pop-2.first in
    let fits_step : SFits w32 step = search rules in
    let fits_limit : SFits w32 limit = search rules in
    let fits_first : SFits w32 first = search rules in
    let place_is : Outcome.gives c.in-Ok.location ≡ reached c.args.frames.now c.args.name.now None =
    sym (ap found_or_fault c.in-Ok.is) ∙ c.reached.ensures in
    let whole : c.args.operands.now.values ≡ Value.Fixed step ∷ (Value.Fixed limit ∷ (Value.Fixed first ∷ c.pop-3.new.self)) =
    cc (
      c.in-Some-Fixed.ensures.some,
      c.in-Some-Fixed.field-0-is,
      c.in-Some-Fixed-pop.ensures.some,
      c.in-Some-Fixed-pop.field-0-is,
      c.in-Some-Fixed-pop-2.ensures.some,
      c.in-Some-Fixed-pop-2.field-0-is,
    ) in
    record {
      fine =
          ap is_fine
          (entered c.args.frames.now c.args.next c.args.slot.0 c.args.name.now c.in-Ok.location step limit first c.args.by c.args.operands.now.values
          c.pop-3.new.self fits_step fits_limit fits_first c.ranges.by place_is whole)
          ∙ c.requires.fine;
    }
