-- A procedure is left by code as it is in the tree's step: in main the run is over, and else the caller goes on where
-- it waits.
use Rattle.std.specs.Prelude.{◌≡◌, refl, ℕ, suc, ◌+◌, ◌≤◌, nat_le, Bool, true, false, if◌then◌else◌, List, [], length, slice_get, Option, Some, None, option_and_then, option_map}
use Rattle.std.specs.FinMap.{get}
use Rattle.std.proofs.Common.{ap, sym, ◌∙◌, arith}
use Rattle.std.proofs.lemmas.Option.{none-some, same_Some}
use Rattle.plcs_code.specs.Gen.{PlainCode}
use Rattle.plcs_code.specs.Landing.{Lands}
use Rattle.plcs_code.specs.PlainInstr.{PlainInstr, place_of}
use Rattle.template_tree.specs.Positions.Place.{PlainPlace}
use Rattle.plcs_store.specs.Act.{Act, done}
use Rattle.plcs_store.specs.Configuration.{PlainConfiguration}
use Rattle.plcs_store.specs.Outcome.{Outcome, if_there, then_gives}
use Rattle.plcs_store.specs.Spot.{Spot}
use Rattle.plcs_store.specs.Step.{PlainStepAnswer, caller_place, leave_answer, waits_for}
use Rattle.plcs_machine.specs.Lead.{Lead, address_of}
use Rattle.plcs_machine.proofs.RunExpressions.{answer, led, one_step}
use Rattle.plcs_machine.proofs.RunLandings.{led_acts}
use Rattle.plcs_machine.proofs.RunSpots.{Meets, split}

-- where a call waits, its place has an address at which a run goes on behind the call
abbrev pub WaitsLand : PlainCode → (spots : PlainPlace → Option Spot) → PlainConfiguration → Type 0
WaitsLand code spots c =
    (place next : PlainPlace) → nat_le (length c.frames) 1 ≡ false → caller_place c.frames ≡ Some place → spots place ≡ Some (Spot.waits next)
    → (address : ℕ) × (get code.addresses (place_of place) ≡ Some address) × (1 ≤ address) × Lands code.instrs address next

waits_is : (spot : Spot) (next : PlainPlace) → waits_for spot ≡ Some next → spot ≡ Spot.waits next
waits_is (Spot.waits own) next e = ap (λ (p : PlainPlace). let s : Spot = Spot.waits p in s) (same_Some own next e)
waits_is other next e = absurd (none-some next e)

module _ (code : PlainCode) (rest : List ℕ) (c : PlainConfiguration) (spots : PlainPlace → Option Spot) (land : WaitsLand code spots c) where
  pub leaves_run : (n address : ℕ) → length code.instrs ≤ n → 1 ≤ n → slice_get code.instrs address ≡ Some PlainInstr.leave
      → Meets (answer code rest c n address [] []) (leave_answer spots c)
  leaves_run n address enough some there =
      let (m, fuel) = split 1 n (omega (arith, some)) in
      by m (omega (arith, fuel)) (omega (arith, fuel, enough)) (nat_le (length c.frames) 1) refl (caller_place c.frames) refl
    where
      -- what follows the caller's spot
      found : (m : ℕ) → length code.instrs ≤ m + 1 → (place : PlainPlace) → nat_le (length c.frames) 1 ≡ false → caller_place c.frames ≡ Some place → (spot : Option Spot) → spots place ≡ spot → (one : PlainStepAnswer)
          → option_map (λ next. PlainStepAnswer.stepped (done Act.leave next c)) (option_and_then waits_for spot) ≡ Some one
          → led code rest c m (then_gives (if_there (address_of code place)) (λ target. Outcome.gives (Lead.acts Act.leave target))) ≡ Some one
      found m enough place more caller None is one e = absurd (none-some one e)
      found m enough place more caller (Some spot) is one e = by (waits_for spot) refl e
        where
          by : (next : Option PlainPlace) → waits_for spot ≡ next
              → option_map (λ to. PlainStepAnswer.stepped (done Act.leave to c)) next ≡ Some one
              → led code rest c m (then_gives (if_there (address_of code place)) (λ target. Outcome.gives (Lead.acts Act.leave target))) ≡ Some one
          by None waits e = absurd (none-some one e)
          by (Some next) waits e =
              let (target, known, behind, lands) = land place next more caller (is ∙ ap Some (waits_is spot next waits)) in
              let few = lands.few in
              ap (λ (o : Option ℕ). led code rest c m (then_gives (if_there o) (λ to. Outcome.gives (Lead.acts Act.leave to)))) known
              ∙ (led_acts code rest c Act.leave next target m lands (omega (arith, few, behind, enough)) ∙ e)

      by : (m : ℕ) → n ≡ suc m → length code.instrs ≤ m + 1 → (main : Bool) → nat_le (length c.frames) 1 ≡ main → (caller : Option PlainPlace) → caller_place c.frames ≡ caller
          → Meets (answer code rest c n address [] []) (leave_answer spots c)
      by m fuel enough main is caller called one e =
          one_step code rest c n m address [] [] PlainInstr.leave fuel there ∙ answer_is main is caller called
        where
          answer_is : (main : Bool) → nat_le (length c.frames) 1 ≡ main → (caller : Option PlainPlace) → caller_place c.frames ≡ caller
              → led code rest c m
              (if nat_le (length c.frames) 1 then Outcome.gives Lead.ends
              else then_gives (if_there (option_and_then (address_of code) (caller_place c.frames))) (λ target. Outcome.gives (Lead.acts Act.leave target))) ≡ Some one
          answer_is true is caller called =
              ap (λ (b : Bool). led code rest c m (if b then Outcome.gives Lead.ends
              else then_gives (if_there (option_and_then (address_of code) (caller_place c.frames))) (λ target. Outcome.gives (Lead.acts Act.leave target)))) is
              ∙ (sym (ap (λ (b : Bool). if b then Some PlainStepAnswer.ended
              else option_map (λ next. PlainStepAnswer.stepped (done Act.leave next c)) (option_and_then waits_for (option_and_then spots (caller_place c.frames)))) is) ∙ e)
          answer_is false is None called = absurd (none-some one (sym (ap (λ (b : Bool). if b then Some PlainStepAnswer.ended
              else option_map (λ next. PlainStepAnswer.stepped (done Act.leave next c)) (option_and_then waits_for (option_and_then spots (caller_place c.frames)))) is
              ∙ ap (λ (o : Option PlainPlace). option_map (λ next. PlainStepAnswer.stepped (done Act.leave next c)) (option_and_then waits_for (option_and_then spots o))) called) ∙ e))
          answer_is false is (Some place) called =
              ap (λ (b : Bool). led code rest c m (if b then Outcome.gives Lead.ends
              else then_gives (if_there (option_and_then (address_of code) (caller_place c.frames))) (λ target. Outcome.gives (Lead.acts Act.leave target)))) is
              ∙ (ap (λ (o : Option PlainPlace). led code rest c m (then_gives (if_there (option_and_then (address_of code) o)) (λ target. Outcome.gives (Lead.acts Act.leave target)))) called
              ∙ found m enough place is called (spots place) refl one
              (sym (ap (λ (b : Bool). if b then Some PlainStepAnswer.ended
              else option_map (λ next. PlainStepAnswer.stepped (done Act.leave next c)) (option_and_then waits_for (option_and_then spots (caller_place c.frames)))) is
              ∙ ap (λ (o : Option PlainPlace). option_map (λ next. PlainStepAnswer.stepped (done Act.leave next c)) (option_and_then waits_for (option_and_then spots o))) called) ∙ e))
