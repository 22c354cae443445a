-- What acts make of frames that fit: each act with a place where the run may go on, in the loops that the act leaves.
-- A cell that is set and the newest frame that moves are changed independently of each other; so the frame is moved
-- first, and then the value is stored in frames that fit.
use Rattle.std.specs.Prelude.{◌≡◌, refl, ℕ, suc, ◌+◌, ◌-◌, ◌≤◌, List, [], ◌∷◌, ◌++◌, drop, length, map, take, slice_get, Some, option_and_then}
use Rattle.std.specs.List.{remove}
use Rattle.std.proofs.Common.{ap, sym, ◌∙◌, subst, arith}
use Rattle.std.proofs.Math.Seq.{take-append_seam}
use Rattle.std.proofs.lemmas.List.{append-nil, drop_all, length-append, length-map, map-append, take-map}
use Rattle.plcs_base.specs.declared.value.Value.{Value}
use Rattle.template_tree.specs.Checks.Environment.{kind_of_type}
use Rattle.template_tree.specs.Positions.Place.{PlainPlace}
use Rattle.template_tree.specs.Programs.PlainTree.{Forest}
use Rattle.template_tree.specs.Programs.Slots.{times}
use Rattle.plcs_store.specs.declared.cell.Cell.{Cell}
use Rattle.plcs_store.specs.declared.cell.Location.{Location}
use Rattle.plcs_store.specs.declared.frame.Frame.{Frame}
use Rattle.plcs_store.specs.declared.kept_loop.KeptLoop.{KeptLoop}
use Rattle.plcs_store.specs.Act.{newest_at, with_loop, with_newest, with_value_stored, without_loop_at}
use Rattle.plcs_store.specs.CellAt.{kept_at, kept_value, newest, variable_at, with_cell}
use Rattle.plcs_store.specs.Configuration.{frame_at, frame_place}
use Rattle.plcs_store.specs.Fits.{kind_of_value}
use Rattle.plcs_store.specs.Outcome.{Outcome}
use Rattle.plcs_store.specs.Step.{storing}
use Rattle.plcs_store.proofs.TakenBack.{changed_either, changed_length, newest_is, newest_twice, set_in_frame}
use Rattle.plcs_store.proofs.KeptFit.FittingFrames.{FramesFit}
use Rattle.plcs_store.proofs.KeptFit.GoingOn.{GoesOn, SiteLaws}
use Rattle.plcs_store.proofs.KeptFit.MovedFrames.{frames_moved, same_variables}
use Rattle.plcs_store.proofs.KeptFit.Outcomes.{Makes, makes_follow, makes_there, there_then, there_weaken}
use Rattle.plcs_store.proofs.KeptFit.Parameters.{kept_kind}
use Rattle.plcs_store.proofs.KeptFit.StoredValues.{MayKeep, frames_stored}

-- the slots of loops that are kept
abbrev pub slots_of : List KeptLoop → List ℕ
slots_of loops = map (λ kept. kept.slot.0) loops

-- ---- what is kept of a value

makes_kept : (frames : List Frame) (location : Location) (value : Value) → Makes (MayKeep frames location) (kept_at frames location value)
makes_kept frames location value =
    makes_there (MayKeep frames location)
    (option_and_then (λ variable. kept_value variable.ty value) (variable_at frames location.frame location.name))
    (there_then (MayKeep frames location) (λ variable. kept_value variable.ty value) (variable_at frames location.frame location.name)
    (λ variable there.
    there_weaken (λ kept. kind_of_value kept ≡ kind_of_type variable.ty) (MayKeep frames location) (kept_value variable.ty value)
    (kept_kind variable.ty value) (λ kept kind. record { variable = variable; there = there; kind = kind })))

-- what is stored may be kept
pub makes_storing : {A : Type 0} (F : A → Type 0) (frames : List Frame) (location : Location) (value : Value) (make : Value → A)
    → ((kept : Value) → MayKeep frames location kept → F (make kept)) → Makes F (storing frames location value make)
makes_storing F frames location value make holds =
    makes_follow (MayKeep frames location) F (λ kept. Outcome.gives (make kept)) (kept_at frames location value) (makes_kept frames location value) holds

-- ---- the innermost loop

loops_with : (loops : List KeptLoop) (kept : KeptLoop) → slots_of (loops ++ kept ∷ []) ≡ slots_of loops ++ kept.slot.0 ∷ []
loops_with loops kept = map-append (λ (one : KeptLoop). one.slot.0) loops (kept ∷ [])

-- loops without the innermost
loops_without : (loops : List KeptLoop) (outer : List ℕ) (slot : ℕ) → slots_of loops ≡ outer ++ slot ∷ []
    → slots_of (take (length loops - 1) loops) ≡ outer
loops_without loops outer slot same =
    let slots : List ℕ = outer ++ slot ∷ [] in
    let as_many : length (slots_of loops) ≡ length loops = length-map loops (λ (one : KeptLoop). one.slot.0) in
    let longer : length slots ≡ length outer + 1 = length-append outer (slot ∷ []) in
    let all : length (slots_of loops) ≡ length slots = ap length same in
    let count : length loops - 1 ≡ length outer = omega (arith, as_many, longer, all) in
    sym (take-map (λ (one : KeptLoop). one.slot.0) (length loops - 1) loops)
    ∙ ap (take (length loops - 1)) same
    ∙ ap (λ (n : ℕ). take n slots) count
    ∙ take-append_seam outer (slot ∷ [])

-- loops without the last, by its number
last_removed : (loops : List KeptLoop) (number : ℕ) (outer : List ℕ) (slot : ℕ) → number ≡ length loops - 1 → slots_of loops ≡ outer ++ slot ∷ []
    → slots_of (remove loops number) ≡ outer
last_removed loops number outer slot last same =
    let none : drop (suc number) loops ≡ [] = drop_all (suc number) loops (omega (arith, last)) in
    ap (λ (inner : List KeptLoop). slots_of (take number loops ++ inner)) none
    ∙ ap slots_of (append-nil (take number loops))
    ∙ ap (λ (n : ℕ). slots_of (take n loops)) last
    ∙ loops_without loops outer slot same

module _ (laws : SiteLaws) (program : Forest) (once : (slot : ℕ) → times slot program ≤ 1) (frames : List Frame) (frame : Frame)
    (fit : FramesFit program frames) (newest_there : slice_get frames (newest frames) ≡ Some frame) where
  -- nothing is done
  pub passed : (next : PlainPlace) → GoesOn program frame.procedure.0 (slots_of frame.loops) next → FramesFit program (newest_at next frames)
  passed next goes = frames_moved laws program once (frame_at next) frames frame (λ one. refl) (λ one. refl) fit newest_there goes

  -- a value is stored, and the newest frame changed in what isn't its cells
  stored_with : (f : Frame → Frame) (location : Location) (value : Value) → ((one : Frame) → (f one).procedure ≡ one.procedure)
      → ((one : Frame) → (f one).cells ≡ one.cells)
      → ((one : Frame) → f (set_in_frame location (Cell.Held value) one) ≡ set_in_frame location (Cell.Held value) (f one))
      → MayKeep frames location value
      → GoesOn program frame.procedure.0 (slots_of (f frame).loops) (frame_place (f frame))
      → FramesFit program (with_newest f (with_value_stored location value frames))
  stored_with f location value procedure cells either may goes =
      let cell : Cell = Cell.Held value in
      let set : List Frame = with_cell location cell frames in
      subst (FramesFit program)
      (sym
      (newest_is f set frames (changed_length location.frame (set_in_frame location cell) frames)
      ∙ changed_either (newest frames) location.frame f (set_in_frame location cell) either frames))
      (frames_stored program (with_newest f frames) location value
      (frames_moved laws program once f frames frame procedure cells fit newest_there goes)
      (record {
        variable = may.variable;
        there = same_variables (newest frames) f frames cells location.frame location.name ∙ may.there;
        kind = may.kind;
      }))

  -- a value is stored
  pub stored : (next : PlainPlace) (location : Location) (value : Value) → MayKeep frames location value
      → GoesOn program frame.procedure.0 (slots_of frame.loops) next → FramesFit program (newest_at next (with_value_stored location value frames))
  stored next location value may goes = stored_with (frame_at next) location value (λ one. refl) (λ one. refl) (λ one. refl) may goes

  -- a value is stored, and the body of a loop entered
  pub entered : (next : PlainPlace) (location : Location) (value : Value) (kept : KeptLoop) → MayKeep frames location value
      → GoesOn program frame.procedure.0 (slots_of frame.loops ++ kept.slot.0 ∷ []) next
      → FramesFit program (newest_at next (with_newest (with_loop kept) (with_value_stored location value frames)))
  entered next location value kept may goes =
      subst (FramesFit program) (sym (newest_twice (frame_at next) (with_loop kept) (with_value_stored location value frames)))
      (stored_with (λ one. frame_at next (with_loop kept one)) location value (λ one. refl) (λ one. refl) (λ one. refl) may
      (subst (λ (loops : List ℕ). GoesOn program frame.procedure.0 loops next) (sym (loops_with frame.loops kept)) goes))

  -- a value is stored, and the innermost loop left
  pub finished : (next : PlainPlace) (location : Location) (value : Value) (number : ℕ) (outer : List ℕ) (slot : ℕ) → MayKeep frames location value
      → number ≡ length frame.loops - 1 → slots_of frame.loops ≡ outer ++ slot ∷ [] → GoesOn program frame.procedure.0 outer next
      → FramesFit program (newest_at next (with_newest (without_loop_at number) (with_value_stored location value frames)))
  finished next location value number outer slot may last same goes =
      subst (FramesFit program) (sym (newest_twice (frame_at next) (without_loop_at number) (with_value_stored location value frames)))
      (stored_with (λ one. frame_at next (without_loop_at number one)) location value (λ one. refl) (λ one. refl) (λ one. refl) may
      (subst (λ (loops : List ℕ). GoesOn program frame.procedure.0 loops next) (sym (last_removed frame.loops number outer slot last same)) goes))
