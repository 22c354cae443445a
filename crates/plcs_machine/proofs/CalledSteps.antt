-- A step that calls: the caller waits at its CALL, and the frame that is made stands behind it.
use Rattle.std.specs.Prelude.{◌≡◌, refl, ℕ, ◌+◌, List, [], ◌∷◌, ◌++◌, length, Option, Some, None, IsSome}
use Rattle.std.proofs.Common.{ap, sym, ◌∙◌}
use Rattle.std.proofs.Math.Bool.{false≢true}
use Rattle.std.proofs.lemmas.List.{length_push}
use Rattle.plcs_base.specs.declared.place.Place.{Place}
use Rattle.plcs_code.specs.Gen.{PlainCode}
use Rattle.plcs_store.specs.declared.argument.Argument.{Argument}
use Rattle.plcs_store.specs.declared.frame.Frame.{Frame}
use Rattle.plcs_store.specs.declared.undo.Undo.{Undo}
use Rattle.plcs_store.specs.Act.{Act, done, frame_waiting, newest_at, with_newest}
use Rattle.plcs_store.specs.CellAt.{Variables, newest}
use Rattle.plcs_store.specs.Configuration.{PlainConfiguration, frame_at, plain_place, top_place}
use Rattle.plcs_store.specs.NewFrame.{new_frame}
use Rattle.plcs_store.specs.Outcome.{Outcome}
use Rattle.plcs_store.specs.Step.{PlainStepAnswer}
use Rattle.plcs_machine.specs.declared.step_answer.StepAnswer.{StepAnswer}
use Rattle.plcs_machine.specs.Exec.{FetchedAnswer, called, making_for}
use Rattle.plcs_machine.specs.Fetched.{Fetched, fetches_of, result_of}
use Rattle.plcs_machine.specs.Lead.{Lead}
use Rattle.plcs_machine.specs.Passing.{Landing, landing, settle}
use Rattle.plcs_machine.specs.StepMade.{MakesFrame}
use Rattle.plcs_machine.specs.Private.WalkedStep.{IsStepDone, ending_answer, more_fetches}
use Rattle.plcs_machine.proofs.EndedSteps.{act_allowed, answered_by, answered_fetches, answered_result, answered_there, caller_waits}
use Rattle.plcs_machine.proofs.NotedActs.{call_noted, changed_length}

module _ (code : PlainCode) (c : PlainConfiguration) (left slot address : ℕ) (arguments : List Argument) where
  -- the answer that is wanted
  abbrev pub wanted_call : Option FetchedAnswer
  wanted_call = ending_answer code c left (Outcome.gives (Lead.enters slot address arguments))

  -- where the step ends
  abbrev pub call_lands : Option (Fetched Landing)
  call_lands = settle c.frames code.instrs left address (Some (making_for arguments))

  -- behind a call that is answered a place comes
  pub call_settles : IsSome wanted_call → IsSome call_lands
  call_settles whole = answered_there (called c slot) call_lands whole

  -- and the fetches up to it are all that are left of the step
  pub call_fetches : IsSome wanted_call → fetches_of call_lands ≡ more_fetches wanted_call
  call_fetches whole = sym (answered_fetches (called c slot) call_lands (call_settles whole))

  -- it makes a frame more
  pub call_makes : IsSome wanted_call → MakesFrame wanted_call c
  call_makes whole = by call_lands whole
    where
      more : Landing → List Frame
      more at = with_newest frame_waiting c.frames ++ (frame_at at.place (new_frame slot at.place at.variables) ∷ [])

      count : (at : Landing) → length (more at) ≡ length c.frames + 1
      count at =
          length_push (with_newest frame_waiting c.frames) (frame_at at.place (new_frame slot at.place at.variables))
          ∙ ap (λ (n : ℕ). n + 1) (changed_length (newest c.frames) frame_waiting c.frames)

      by : (landed : Option (Fetched Landing)) → IsSome (answered_by (called c slot) landed) → MakesFrame (answered_by (called c slot) landed) c
      by None whole = absurd (false≢true whole)
      by (Some one) whole =
          let at = one.result in
          (done (Act.call (new_frame slot at.place at.variables)) at.place c, refl, count at)

  -- the answer where the frame is made
  pub call_done : (place : Place) → top_place c.frames ≡ Some (plain_place place) → (waits first : Place)
      → waits ≡ record { slot = place.slot; point = record { 0 = 1 } } → (cells : Variables)
      → result_of call_lands ≡ Some (landing (plain_place first) cells)
      → (now : PlainConfiguration) (noted notes : Undo)
      → now ≡ record c { frames = newest_at (plain_place waits) c.frames ++ (new_frame slot (plain_place first) cells ∷ []) }
      → notes ≡ Undo.Called place
      → IsStepDone wanted_call StepAnswer.Stepped c now noted notes
  call_done place at waits first is cells lands now noted notes same its =
      let made : Frame = new_frame slot (plain_place first) cells in
      let after : now ≡ done (Act.call made) (plain_place first) c =
      same
      ∙ ap (λ (frames : List Frame). let d : PlainConfiguration = record c { frames = frames ++ (made ∷ []) } in d) (caller_waits c place at waits is) in (
        (Act.call made, plain_place first, act_allowed c place at (Act.call made) tt tt, after, its ∙ call_noted c place at made),
        answered_result (called c slot) call_lands (landing (plain_place first) cells) lands
            ∙ ap (λ (d : PlainConfiguration). let o : Option PlainStepAnswer = Some (PlainStepAnswer.stepped d) in o) (sym after),
      )
