-- Frames of which the newest stands elsewhere, calls another or is left: they fit where the place that follows is
-- right. No cell is set by this, and a new frame refers to lower frames alone, so that each reference finds what it
-- did.
use Rattle.std.specs.Prelude.{◌≡◌, refl, ℕ, zero, suc, ◌+◌, ◌-◌, ◌<◌, ◌≤◌, Bool, true, false, List, [], ◌∷◌, ◌++◌, length, map, take, slice_get, Option, Some, None, option_map}
use Rattle.std.proofs.Common.{ap, sym, ◌∙◌, subst, arith, inl, inr}
use Rattle.std.proofs.lemmas.List.{length-append, length-take}
use Rattle.std.proofs.lemmas.Option.{none-some, same_Some}
use Rattle.plcs_base.specs.declared.value.Kind.{Kind}
use Rattle.template_tree.specs.Checks.Environment.{Items, kind_of_type}
use Rattle.template_tree.specs.Positions.Place.{PlainPlace, place_at}
use Rattle.template_tree.specs.Programs.PlainTree.{Forest}
use Rattle.template_tree.specs.Programs.Slots.{times}
use Rattle.plcs_store.specs.declared.cell.Cell.{Cell}
use Rattle.plcs_store.specs.declared.frame.Frame.{Frame}
use Rattle.plcs_store.specs.declared.variable.Variable.{Variable}
use Rattle.plcs_store.specs.Act.{frame_waiting, newest_at, with_newest, without_newest}
use Rattle.plcs_store.specs.CellAt.{changed_at, newest, variable_at, variable_named}
use Rattle.plcs_store.specs.Configuration.{frame_at, frame_place}
use Rattle.plcs_store.specs.Fits.{AreVariables, HoldsRight, IsOfMain, IsTarget, StandsAtStart, ValuesFit}
use Rattle.plcs_store.specs.Limit.{most_frames}
use Rattle.plcs_store.proofs.TakenBack.{changed_length}
use Rattle.plcs_store.proofs.KeptFit.ChangedItems.{changed_related, first_item, item_among_first, item_before, item_in_longer, last_item, other_item, own_item}
use Rattle.plcs_store.proofs.KeptFit.FittingFrames.{FrameFits, FramesFit, frame_fits, last_or_lower}
use Rattle.plcs_store.proofs.KeptFit.GoingOn.{GoesOn, MayStand, SiteLaws}
use Rattle.plcs_store.proofs.KeptFit.StoredValues.{named_in}

-- ---- the variables of frames

-- a change that leaves cells alone leaves the variables
pub same_variables : (k : ℕ) (f : Frame → Frame) (frames : List Frame) → ((one : Frame) → (f one).cells ≡ one.cells) → (j : ℕ) (name : List ℕ)
    → variable_at (changed_at k f frames) j name ≡ variable_at frames j name
same_variables k f frames cells j name =
    changed_related (λ (was is : Option Frame). named_in name is ≡ named_in name was) k f frames (λ found. refl)
    (λ frame found. ap (variable_named name) (cells frame)) j

-- a variable is one of a frame
frame_of_variable : (frames : List Frame) (k : ℕ) (name : List ℕ) (variable : Variable) → variable_at frames k name ≡ Some variable
    → (frame : Frame) × (slice_get frames k ≡ Some frame) × (variable_named name frame.cells ≡ Some variable)
frame_of_variable frames k name variable e = by (slice_get frames k) refl e
  where
    by : (got : Option Frame) → slice_get frames k ≡ got → named_in name got ≡ Some variable
        → (frame : Frame) × (slice_get frames k ≡ Some frame) × (variable_named name frame.cells ≡ Some variable)
    by None is h = absurd (none-some variable h)
    by (Some frame) is h = (frame, is, h)

-- what is right in a frame stays so where the variables of lower frames do
pub right_still : (before after : List Frame) (k : ℕ)
    → ((j : ℕ) (name : List ℕ) (variable : Variable) → j < k → variable_at before j name ≡ Some variable → variable_at after j name ≡ Some variable)
    → (kind : Kind) (cell : Cell) → HoldsRight before k kind cell → HoldsRight after k kind cell
right_still before after k stay kind Cell.Unset right = tt
right_still before after k stay kind (Cell.Held value) right = right
right_still before after k stay kind (Cell.Ref location) right =
    let target : IsTarget before kind location = right.1 in (
      right.0,
      record {
        variable = target.variable;
        there = stay location.frame location.name target.variable right.0 target.there;
        kind_is = target.kind_is;
        cell = target.cell;
        cell_there = target.cell_there;
        plain = target.plain;
      },
    )

values_moved : (before after : List Frame) → ((j : ℕ) (name : List ℕ) → variable_at after j name ≡ variable_at before j name)
    → ValuesFit before → ValuesFit after
values_moved before after same fit k element name variable cell there held =
    right_still before after k (λ j other one few e. same j other ∙ e) (kind_of_type variable.ty) cell
    (fit k element name variable cell (sym (same k name) ∙ there) held)

main_same : (program : Forest) (before after : List Frame)
    → option_map (λ frame. frame.procedure.0) (slice_get after 0) ≡ option_map (λ frame. frame.procedure.0) (slice_get before 0)
    → IsOfMain program before → IsOfMain program after
main_same Forest.nil before after same main = main
main_same (Forest.cons label inner rest) before after same main = same ∙ main

same_procedures : (k : ℕ) (f : Frame → Frame) (frames : List Frame) → ((one : Frame) → (f one).procedure ≡ one.procedure) → (j : ℕ)
    → option_map (λ frame. frame.procedure.0) (slice_get (changed_at k f frames) j) ≡ option_map (λ frame. frame.procedure.0) (slice_get frames j)
same_procedures k f frames same j =
    changed_related
    (λ (was is : Option Frame). option_map (λ frame. frame.procedure.0) is ≡ option_map (λ frame. frame.procedure.0) was) k f frames
    (λ found. refl) (λ frame found. ap (λ procedure. Some procedure.0) (same frame)) j

module _ (laws : SiteLaws) (program : Forest) (once : (slot : ℕ) → times slot program ≤ 1) where
  -- a frame that stands elsewhere fits where it may stand there
  moved_fits : (f : Frame → Frame) (frame : Frame) (waits : Bool) → (f frame).procedure ≡ frame.procedure → (f frame).cells ≡ frame.cells
      → MayStand program waits frame.procedure.0 (map (λ kept. kept.slot.0) (f frame).loops) (frame_place (f frame))
      → AreVariables (Items program frame.procedure.0) frame.cells → FrameFits program waits (f frame)
  moved_fits f frame waits procedure cells may are =
      frame_fits laws program waits (f frame) once
      (subst (λ (own : ℕ). MayStand program waits own (map (λ kept. kept.slot.0) (f frame).loops) (frame_place (f frame)))
      (sym (ap (λ p. p.0) procedure)) may)
      (subst (λ (own : ℕ). AreVariables (Items program own) (f frame).cells) (sym (ap (λ p. p.0) procedure))
      (subst (AreVariables (Items program frame.procedure.0)) (sym cells) are))

  -- the newest frame stands elsewhere
  pub frames_moved : (f : Frame → Frame) (frames : List Frame) (frame : Frame) → ((one : Frame) → (f one).procedure ≡ one.procedure)
      → ((one : Frame) → (f one).cells ≡ one.cells) → FramesFit program frames → slice_get frames (newest frames) ≡ Some frame
      → GoesOn program frame.procedure.0 (map (λ kept. kept.slot.0) (f frame).loops) (frame_place (f frame))
      → FramesFit program (with_newest f frames)
  frames_moved f frames frame procedure cells fit newest_is goes =
      let n : ℕ = newest frames in
      let after : List Frame = with_newest f frames in
      let same : length after ≡ length frames = changed_length n f frames in
      let some = fit.some in
      let at_top : suc n ≡ length frames = omega (arith, some) in
      record {
        some = subst (λ (m : ℕ). 1 ≤ m) (sym same) fit.some;
        few = subst (λ (m : ℕ). m ≤ most_frames) (sym same) fit.few;
        main = main_same program frames after (same_procedures n f frames procedure 0) fit.main;
        lower =
            λ k one found more.
            let fewer : suc k < length frames = subst (λ (m : ℕ). suc k < m) same more in
            let differs : k ≡ n → ⊥ = λ e. omega (arith, e, fewer, at_top) in
            fit.lower k one (sym (other_item n f frames k differs) ∙ found) fewer;
        top =
            λ k one found last.
            let last_is : suc k ≡ length frames = last ∙ same in
            let here : k ≡ n = omega (arith, last_is, at_top) in
            let is : f frame ≡ one =
            same_Some (f frame) one
            (sym (own_item n f frames frame newest_is) ∙ ap (slice_get after) (sym here) ∙ found) in
            let was = fit.top n frame newest_is at_top in
            subst (λ (o : Frame). FrameFits program false o × StandsAtStart program o) is
            (moved_fits f frame false (procedure frame) (cells frame) goes was.0.cells, goes.start);
        values = values_moved frames after (same_variables n f frames cells) fit.values;
      }

  -- the newest frame waits for one that is called
  pub frames_called : (frames : List Frame) (frame new : Frame) → FramesFit program frames → slice_get frames (newest frames) ≡ Some frame
      → length frames + 1 ≤ most_frames
      → MayStand program true frame.procedure.0 (map (λ kept. kept.slot.0) frame.loops) (place_at frame.place.slot.0 1)
      → FrameFits program false new × StandsAtStart program new
      → ((element : ℕ) (name : List ℕ) (variable : Variable) (cell : Cell) → variable_named name new.cells ≡ Some variable
      → slice_get variable.cells element ≡ Some cell → HoldsRight frames (length frames) (kind_of_type variable.ty) cell)
      → FramesFit program (with_newest frame_waiting frames ++ new ∷ [])
  frames_called frames frame new fit newest_is room waits fits holds =
      let n : ℕ = newest frames in
      let base : List Frame = with_newest frame_waiting frames in
      let same : length base ≡ length frames = changed_length n frame_waiting frames in
      let longer : length (base ++ new ∷ []) ≡ length base + 1 = length-append base (new ∷ []) in
      let some = fit.some in
      let at_top : suc n ≡ length frames = omega (arith, some) in
      let stay : (j : ℕ) (name : List ℕ) (variable : Variable) → variable_at frames j name ≡ Some variable → variable_at (base ++ new ∷ []) j name ≡ Some variable =
      λ j name variable e.
      let there = frame_of_variable base j name variable (same_variables n frame_waiting frames (λ one. refl) j name ∙ e) in
      ap (named_in name) (item_before base (new ∷ []) j there.0 there.1) ∙ there.2 in
      record {
        some = omega (arith, longer);
        few = subst (λ (m : ℕ). m ≤ most_frames) (sym (longer ∙ ap (λ (m : ℕ). m + 1) same)) room;
        main =
            main_same program frames (base ++ new ∷ [])
            (first base new (subst (λ (m : ℕ). 1 ≤ m) (sym same) some) ∙ same_procedures n frame_waiting frames (λ one. refl) 0) fit.main;
        lower =
            λ k one found more.
            let fewer : k < length frames = omega (arith, more, longer, same) in
            let there : slice_get base k ≡ Some one = among base new k one fewer same found in
            last_or_lower k (length frames) (FrameFits program true one) fewer
            (λ lower.
            let differs : k ≡ n → ⊥ = λ e. omega (arith, e, lower, at_top) in
            fit.lower k one (sym (other_item n frame_waiting frames k differs) ∙ there) lower)
            (λ last.
            let here : k ≡ n = omega (arith, last, at_top) in
            let is : frame_waiting frame ≡ one =
            same_Some (frame_waiting frame) one (sym (own_item n frame_waiting frames frame newest_is) ∙ ap (slice_get base) (sym here) ∙ there) in
            subst (FrameFits program true) is
            (moved_fits frame_waiting frame true refl refl waits (fit.top n frame newest_is at_top).0.cells));
        top =
            λ k one found last.
            let here : k ≡ length base = omega (arith, last, longer) in
            subst (λ (o : Frame). FrameFits program false o × StandsAtStart program o)
            (same_Some new one (sym (last_item base new) ∙ ap (slice_get (base ++ new ∷ [])) (sym here) ∙ found)) fits;
        values =
            λ k element name variable cell there held.
            let owner = frame_of_variable (base ++ new ∷ []) k name variable there in
            elim (item_in_longer base new k owner.0 owner.1) as (λ _. HoldsRight (base ++ new ∷ []) k (kind_of_type variable.ty) cell) [
              | inl before ↦
                  right_still frames (base ++ new ∷ []) k (λ j other one few e. stay j other one e) (kind_of_type variable.ty) cell
                  (fit.values k element name variable cell
                  (sym (same_variables n frame_waiting frames (λ one. refl) k name) ∙ ap (named_in name) before ∙ owner.2) held)
              | inr (at_end, is) ↦
                  right_still frames (base ++ new ∷ []) k (λ j other one few e. stay j other one e) (kind_of_type variable.ty) cell
                  (subst (λ (m : ℕ). HoldsRight frames m (kind_of_type variable.ty) cell) (sym (at_end ∙ same))
                  (holds element name variable cell (ap (λ (f : Frame). variable_named name f.cells) (sym is) ∙ owner.2) held))
            ];
      }
    where
      first : (base : List Frame) (new : Frame) → 1 ≤ length base
          → option_map (λ frame. frame.procedure.0) (slice_get (base ++ new ∷ []) 0) ≡ option_map (λ frame. frame.procedure.0) (slice_get base 0)
      first [] new some = absurd (omega (arith, some))
      first (one ∷ base) new some = refl

      among : (base : List Frame) (new : Frame) (k : ℕ) (one : Frame) → k < length frames → length base ≡ length frames
          → slice_get (base ++ new ∷ []) k ≡ Some one → slice_get base k ≡ Some one
      among base new k one fewer same found =
          elim (item_in_longer base new k one found) as (λ _. slice_get base k ≡ Some one) [
            | inl there ↦ there
            | inr (at_end, is) ↦ absurd (omega (arith, fewer, same, at_end))
          ]

  -- the newest frame is left, and the one below it goes on
  pub frames_left : (frames : List Frame) (caller : Frame) (next : PlainPlace) → FramesFit program frames → 2 ≤ length frames
      → slice_get frames (newest frames - 1) ≡ Some caller
      → GoesOn program caller.procedure.0 (map (λ kept. kept.slot.0) caller.loops) next
      → FramesFit program (newest_at next (without_newest frames))
  frames_left frames caller next fit two caller_is goes =
      let n : ℕ = newest frames in
      let short : List Frame = take n frames in
      let after : List Frame = newest_at next short in
      let shorter : length short ≡ n = omega (arith, length-take n frames) in
      let same : length after ≡ n = changed_length (newest short) (frame_at next) short ∙ shorter in
      let m : ℕ = newest short in
      let at_top : suc m ≡ n = omega (arith, shorter, two) in
      let below : n - 1 ≡ m = omega (arith, shorter) in
      let few = fit.few in
      let called : slice_get frames m ≡ Some caller = ap (slice_get frames) (sym below) ∙ caller_is in
      let found_short : slice_get short m ≡ Some caller = first_item n frames m caller called (omega (arith, at_top)) in
      let same_after : (j : ℕ) (name : List ℕ) → variable_at after j name ≡ variable_at short j name =
      same_variables m (frame_at next) short (λ one. refl) in
      record {
        some = omega (arith, same, at_top);
        few = omega (arith, same, few);
        main =
            main_same program frames after
            (same_procedures m (frame_at next) short (λ one. refl) 0 ∙ first frames n (omega (arith, two))) fit.main;
        lower =
            λ k one found more.
            let fewer : suc k < n = omega (arith, more, same) in
            let differs : k ≡ m → ⊥ = λ e. omega (arith, e, fewer, at_top) in
            let there = item_among_first n frames k one (sym (other_item m (frame_at next) short k differs) ∙ found) in
            fit.lower k one there.0 (omega (arith, fewer));
        top =
            λ k one found last.
            let here : k ≡ m = omega (arith, last, same, at_top) in
            let is : frame_at next caller ≡ one =
            same_Some (frame_at next caller) one
            (sym (own_item m (frame_at next) short caller found_short) ∙ ap (slice_get after) (sym here) ∙ found) in
            let was = fit.lower m caller called (omega (arith, at_top)) in
            subst (λ (o : Frame). FrameFits program false o × StandsAtStart program o) is
            (moved_fits (frame_at next) caller false refl refl goes was.cells, goes.start);
        values =
            λ k element name variable cell there held.
            let owner = frame_of_variable short k name variable (sym (same_after k name) ∙ there) in
            let before = item_among_first n frames k owner.0 owner.1 in
            right_still frames after k
            (λ j other one lower e.
            let was = frame_of_variable frames j other one e in
            same_after j other ∙ ap (named_in other) (first_item n frames j was.0 was.1 (omega (arith, lower, before.1))) ∙ was.2)
            (kind_of_type variable.ty) cell (fit.values k element name variable cell (ap (named_in name) before.0 ∙ owner.2) held);
      }
    where
      first : (frames : List Frame) (n : ℕ) → 1 ≤ n
          → option_map (λ frame. frame.procedure.0) (slice_get (take n frames) 0) ≡ option_map (λ frame. frame.procedure.0) (slice_get frames 0)
      first [] zero some = refl
      first [] (suc n) some = refl
      first (one ∷ frames) zero some = absurd (omega (arith, some))
      first (one ∷ frames) (suc n) some = refl
