-- A step that writes: it stops where the output would be too long, and is a write elsewhere.
use Rattle.std.specs.Prelude.{◌≡◌, refl, ℕ, nat_le, Bool, true, false, if◌then◌else◌, List, [], length, reverse, take, Option, Some, None, IsSome}
use Rattle.std.proofs.Common.{ap, sym, ◌∙◌, subst}
use Rattle.std.proofs.Math.Bool.{false≢true}
use Rattle.plcs_base.specs.declared.place.Place.{Place}
use Rattle.plcs_base.specs.declared.value.Value.{Value}
use Rattle.plcs_code.specs.Gen.{PlainCode}
use Rattle.plcs_store.specs.declared.fault_kind.FaultKind.{FaultKind}
use Rattle.plcs_store.specs.declared.reason.Reason.{Reason}
use Rattle.plcs_store.specs.declared.undo.Undo.{Undo}
use Rattle.plcs_store.specs.Act.{Act, done}
use Rattle.plcs_store.specs.Configuration.{PlainConfiguration, plain_place, top_place}
use Rattle.plcs_store.specs.Limit.{most_output}
use Rattle.plcs_store.specs.Outcome.{Outcome}
use Rattle.plcs_store.specs.OutputItem.{WrittenStands, output_with}
use Rattle.plcs_store.specs.Step.{output_act}
use Rattle.plcs_store.specs.Undone.{undo_of}
use Rattle.plcs_machine.specs.declared.step_answer.StepAnswer.{StepAnswer}
use Rattle.plcs_machine.specs.Exec.{FetchedAnswer}
use Rattle.plcs_machine.specs.Fetched.{result_of}
use Rattle.plcs_machine.specs.Lead.{Lead, put_lead, then_acts}
use Rattle.plcs_machine.specs.Passing.{landing, settle}
use Rattle.plcs_machine.specs.Private.WalkedStep.{IsStepDone, ending_answer}
use Rattle.plcs_machine.proofs.DoneSteps.{act_done, wanted_act}

module _ (code : PlainCode) (c : PlainConfiguration) (left next : ℕ) (skip : Bool) (n : ℕ) (values : List Value) where
  -- the output then
  abbrev pub becomes : List ℕ
  becomes = output_with skip c.output (reverse (take n values))

  -- the answer that is wanted
  abbrev pub wanted_put : Option FetchedAnswer
  wanted_put = ending_answer code c left (put_lead next c.output skip n values)

  enough : (there : Bool) (outcome : Outcome Lead) → IsSome (ending_answer code c left (if there then outcome else Outcome.undefined))
      → (if there then outcome else Outcome.undefined) ≡ outcome
  enough true outcome whole = refl
  enough false outcome whole = absurd (false≢true whole)

  -- there are so many operands
  put_is : IsSome wanted_put → put_lead next c.output skip n values ≡ then_acts next (output_act becomes)
  put_is whole = enough (nat_le n (length values)) (then_acts next (output_act becomes)) whole

  -- it stops where the output would be too long
  pub put_stops : IsSome wanted_put → nat_le (length becomes) most_output ≡ false
      → wanted_put ≡ ending_answer code c left (Outcome.stops (Reason.Fault FaultKind.OutputLimit))
  put_stops whole long =
      ap (ending_answer code c left)
      (put_is whole
      ∙ ap (λ (few : Bool). then_acts next (if few then Outcome.gives (Act.write becomes) else Outcome.stops (Reason.Fault FaultKind.OutputLimit))) long)

  -- and writes where it fits
  pub put_writes : IsSome wanted_put → nat_le (length becomes) most_output ≡ true → wanted_put ≡ wanted_act code c left next (Act.write becomes)
  put_writes whole fits =
      ap (ending_answer code c left)
      (put_is whole
      ∙ ap (λ (few : Bool). then_acts next (if few then Outcome.gives (Act.write becomes) else Outcome.stops (Reason.Fault FaultKind.OutputLimit))) fits)

  -- the answer where it stops
  pub put_stopped : IsSome wanted_put → nat_le (length becomes) most_output ≡ false → (now : PlainConfiguration) (noted notes : Undo) → now ≡ c
      → notes ≡ noted → IsStepDone wanted_put (StepAnswer.Stopped (Reason.Fault FaultKind.OutputLimit)) c now noted notes
  put_stopped whole long now noted notes same kept = ((same, kept), ap (λ (o : Option FetchedAnswer). result_of o) (put_stops whole long))

  -- the answer where it writes
  pub put_done : WrittenStands → (place : Place) → top_place c.frames ≡ Some (plain_place place) → IsSome wanted_put
      → nat_le (length becomes) most_output ≡ true
      → (landed : Place) → result_of (settle [] code.instrs left next None) ≡ Some (landing (plain_place landed) [])
      → (now : PlainConfiguration) (noted notes : Undo) → now ≡ done (Act.write becomes) (plain_place landed) c → notes ≡ undo_of (Act.write becomes) c
      → IsStepDone wanted_put StepAnswer.Stepped c now noted notes
  put_done stands place at whole fits landed lands now noted notes is its =
      subst (λ (o : Option FetchedAnswer). IsStepDone o StepAnswer.Stepped c now noted notes) (sym (put_writes whole fits))
      (act_done code c place at left next (Act.write becomes) landed lands tt (stands skip c.output (reverse (take n values))) now noted notes is its)
