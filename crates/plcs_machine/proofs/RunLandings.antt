-- Where a run by code ends its step: it comes by jumps alone to the next place, whether it did an act before or not.
use Rattle.std.specs.Prelude.{◌≡◌, refl, ℕ, zero, suc, ◌+◌, ◌<◌, ℤ, List, [], Option, Some, None, option_and_then, option_map}
use Rattle.std.proofs.Common.{ap, sym, ◌∙◌, arith}
use Rattle.plcs_base.specs.declared.value.Value.{Value}
use Rattle.plcs_code.specs.Gen.{PlainCode}
use Rattle.plcs_code.specs.Landing.{Lands, LandsBy}
use Rattle.plcs_code.specs.PlainInstr.{PlainInstr}
use Rattle.template_tree.specs.Positions.Place.{PlainPlace}
use Rattle.plcs_store.specs.declared.argument.Argument.{Argument}
use Rattle.plcs_store.specs.declared.frame.Frame.{Frame}
use Rattle.plcs_store.specs.Act.{Act, done}
use Rattle.plcs_store.specs.Configuration.{PlainConfiguration}
use Rattle.plcs_store.specs.Outcome.{Outcome, if_there, then_gives}
use Rattle.plcs_store.specs.Step.{Going, PlainStepAnswer, going_on, step_answer}
use Rattle.plcs_machine.specs.Exec.{acted}
use Rattle.plcs_machine.specs.Fetched.{Fetched, behind_one, result_of, with_result}
use Rattle.plcs_machine.specs.Lead.{Lead, address_at, then_acts}
use Rattle.plcs_machine.specs.Passing.{Landing, landing, passed, passing_of, settle}
use Rattle.plcs_machine.proofs.RunExpressions.{after, answer, led, led_on, one_step}
use Rattle.plcs_machine.proofs.TreeBegun.{result_behind}

-- ---- jumps

-- where jumps alone lead, without a frame that is made
pub settles : (frames : List Frame) (instrs : List PlainInstr) (place : PlainPlace) (jumps address fetches : ℕ) → LandsBy instrs place jumps address
    → jumps < fetches → result_of (settle frames instrs fetches address None) ≡ Some (landing place [])
settles frames instrs place jumps address zero by few = absurd (omega (arith, few))
settles frames instrs place zero address (suc fetches) by few =
    ap (λ (o : Option PlainInstr). result_of (option_and_then (passed frames (address + 1) None (settle frames instrs fetches)) (option_and_then passing_of o))) by
settles frames instrs place (suc jumps) address (suc fetches) (d, target, read, goes, on) few =
    ap (λ (o : Option PlainInstr). result_of (option_and_then (passed frames (address + 1) None (settle frames instrs fetches)) (option_and_then passing_of o))) read
    ∙ (ap (λ (z : ℤ). result_of (option_map behind_one (option_and_then (λ to. settle frames instrs fetches to None) (address_at z)))) (sym goes)
    ∙ (result_behind (settle frames instrs fetches target None)
    ∙ settles frames instrs place jumps target fetches on (omega (arith, few))))

module _ (code : PlainCode) (rest : List ℕ) (c : PlainConfiguration) where
  -- a step that does no act
  pub runs_on : (place : PlainPlace) (jumps address fetches : ℕ) (values : List Value) (arguments : List Argument) → LandsBy code.instrs place jumps address
      → jumps < fetches → answer code rest c fetches address values arguments ≡ Some (PlainStepAnswer.stepped (done Act.pass place c))
  runs_on place jumps address zero values arguments by few = absurd (omega (arith, few))
  runs_on place zero address (suc fetches) values arguments by few =
      one_step code rest c (suc fetches) fetches address values arguments (PlainInstr.place place) refl by
  runs_on place (suc jumps) address (suc fetches) values arguments (d, target, read, goes, on) few =
      one_step code rest c (suc fetches) fetches address values arguments (PlainInstr.jump d) refl read
      ∙ (ap (λ (z : ℤ). led code rest c fetches (then_gives (if_there (address_at z)) (λ to. Outcome.gives (Lead.goes_on to values arguments)))) (sym goes)
      ∙ (led_on code rest c fetches target target values arguments refl
      ∙ runs_on place jumps target fetches values arguments on (omega (arith, few))))

  -- a step that did an act
  pub led_acts : (act : Act) (place : PlainPlace) (address fetches : ℕ) (lands : Lands code.instrs address place) → lands.jumps < fetches
      → led code rest c fetches (Outcome.gives (Lead.acts act address)) ≡ Some (PlainStepAnswer.stepped (done act place c))
  led_acts act place address fetches lands few =
      acted_result (settle c.frames code.instrs fetches address None)
      ∙ ap (option_map (acted c act)) (settles c.frames code.instrs place lands.jumps address fetches lands.by few)
    where
      acted_result : (landed : Option (Fetched Landing))
          → result_of (option_map (λ (one : Fetched Landing). behind_one (with_result (acted c act) one)) landed) ≡ option_map (acted c act) (result_of landed)
      acted_result None = refl
      acted_result (Some one) = refl

  -- an outcome that acts
  pub led_then_acts : (outcome : Outcome Act) (place : PlainPlace) (address next fetches : ℕ) (lands : Lands code.instrs next place) → address ≡ next
      → lands.jumps < fetches
      → led code rest c fetches (then_acts address outcome) ≡ step_answer c (going_on place outcome)
  led_then_acts (Outcome.gives act) place address next fetches lands same few =
      ap (λ (n : ℕ). led code rest c fetches (Outcome.gives (Lead.acts act n))) same ∙ led_acts act place next fetches lands few
  led_then_acts (Outcome.stops reason) place address next fetches lands same few = refl
  led_then_acts Outcome.undefined place address next fetches lands same few = refl

-- ---- the answer of a part of a step

-- what is answered once a part of a step is done, and others follow
pub answer_then : {A : Type 0} (c : PlainConfiguration) (outcome : Outcome A) (make : A → Outcome Going)
    → step_answer c (then_gives outcome make) ≡ after outcome (λ a. step_answer c (make a))
answer_then c (Outcome.gives a) make = refl
answer_then c (Outcome.stops reason) make = refl
answer_then c Outcome.undefined make = refl

pub going_then : {A : Type 0} (next : PlainPlace) (outcome : Outcome A) (make : A → Outcome Act)
    → going_on next (then_gives outcome make) ≡ then_gives outcome (λ a. going_on next (make a))
going_then next (Outcome.gives a) make = refl
going_then next (Outcome.stops reason) make = refl
going_then next Outcome.undefined make = refl
