-- `fitting_runs_are_resolved`: a newest frame that fits stands where a run goes on.
use Rattle.std.specs.Prelude.{◌≡◌, refl, ◌==◌, Bool, true, false, if◌then◌else◌, List, [], ◌∷◌, unwrap_or}
use Rattle.std.proofs.Common.{ap, ◌∙◌}
use Rattle.std.proofs.lemmas.Bool.{eqb-true}
use Rattle.template_tree.specs.Positions.Place.{PlainPlace, Start}
use Rattle.template_tree.specs.Programs.PlainTree.{Forest}
use Rattle.plcs_store.specs.declared.frame.Frame.{Frame}
use Rattle.plcs_store.specs.Act.{with_newest}
use Rattle.plcs_store.specs.Configuration.{frame_at, frame_place}
use Rattle.plcs_store.specs.Fits.{AllStand, StandsAtStart}
use Rattle.plcs_store.specs.Resume.{resolved_frame, resolved_place}
use Rattle.resume_rule.specs.ResumeLaws.{FittingRunsResolved}
use Rattle.resume_rule.proofs.NewestFrame.{newest_above}

frame_resolved : (program : Forest) (frame : Frame) → StandsAtStart program frame → resolved_frame program frame ≡ frame
frame_resolved program frame stands = ap (λ (place : PlainPlace). frame_at place frame) (by (frame.place.point.0 == 0) refl)
  where
    by : (starts : Bool) → (frame.place.point.0 == 0) ≡ starts → resolved_place program (frame_place frame) ≡ frame_place frame
    by true is =
        let start = stands (eqb-true frame.place.point.0 0 is) in
        λ i. if is i then unwrap_or (start i) (frame_place frame) else frame_place frame
    by false is = λ i. if is i then unwrap_or (Start program frame.place.slot.0) (frame_place frame) else frame_place frame

newest_resolved : (program : Forest) (frames : List Frame) → AllStand program frames → with_newest (resolved_frame program) frames ≡ frames
newest_resolved program [] stand = refl
newest_resolved program (one ∷ []) stand = ap (λ (frame : Frame). frame ∷ []) (frame_resolved program one stand.1)
newest_resolved program (one ∷ (above ∷ frames)) stand =
    newest_above (resolved_frame program) one above frames
    ∙ ap (λ (others : List Frame). one ∷ others) (newest_resolved program (above ∷ frames) stand.1)

pub fitting_runs_are_resolved : FittingRunsResolved
fitting_runs_are_resolved program c fits =
    ap (λ (frames : List Frame). record c { frames = frames }) (newest_resolved program c.frames fits.frames.stand)
