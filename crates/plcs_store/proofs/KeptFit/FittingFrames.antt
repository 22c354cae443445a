-- The frames that fit a program, each by its number: the newest ready for a step, and each other one at its CALL.
-- The definition goes over the list of frames; acts change one frame of a number. Both say the same of each frame, by
-- an induction on the list.
use Rattle.std.specs.Prelude.{◌≡◌, refl, ℕ, zero, suc, ◌<◌, ◌≤◌, Bool, true, false, List, [], ◌∷◌, length, map, slice_get, slice_index_or, Some, All}
use Rattle.std.proofs.Common.{ap, sym, ◌∙◌, subst, arith}
use Rattle.std.proofs.lemmas.Option.{get_or_from_slice_get, none-some, same_Some, slice_get-get_or, slice_get_within}
use Rattle.template_tree.specs.Checks.Environment.{Items}
use Rattle.template_tree.specs.Programs.PlainTree.{Forest}
use Rattle.template_tree.specs.Programs.Slots.{times}
use Rattle.plcs_store.specs.declared.frame.Frame.{Frame}
use Rattle.plcs_store.specs.Configuration.{PlainConfiguration, frame_place}
use Rattle.plcs_store.specs.Fits.{AllStand, AreVariables, Fits, HasLoops, IsOfMain, StandsAt, StandsAtStart, ValuesFit, loops_at}
use Rattle.plcs_store.specs.Limit.{most_frames}
use Rattle.plcs_store.proofs.KeptFit.GoingOn.{MayStand, SiteLaws}

-- a frame fits the program: where it stands, its cells and its loops
pub record FrameFits (program : Forest) (waits : Bool) (frame : Frame) : Type 0 where
  pub stands : StandsAt program waits frame
  pub cells : AreVariables (Items program frame.procedure.0) frame.cells
  pub loops : HasLoops program frame

-- the frames fit the program
pub record FramesFit (program : Forest) (frames : List Frame) : Type 0 where
  pub some : 1 ≤ length frames
  pub few : length frames ≤ most_frames
  pub main : IsOfMain program frames
  pub lower : (k : ℕ) (frame : Frame) → slice_get frames k ≡ Some frame → suc k < length frames → FrameFits program true frame
  pub top :
      (k : ℕ) (frame : Frame) → slice_get frames k ≡ Some frame → suc k ≡ length frames
      → FrameFits program false frame × StandsAtStart program frame
  pub values : ValuesFit frames

-- ---- each frame by its number

each : {A : Type 0} (P : A → Type 0) (xs : List A) → All P xs → (k : ℕ) (x : A) → slice_get xs k ≡ Some x → P x
each P xs all k x found = subst P (get_or_from_slice_get xs k x x found) (all k x (slice_get_within xs k x found))

all_of : {A : Type 0} (P : A → Type 0) (xs : List A) → ((k : ℕ) (x : A) → slice_get xs k ≡ Some x → P x) → All P xs
all_of P xs holds k d few = holds k (slice_index_or xs k d) (slice_get-get_or xs k d few)

lower_stands : (program : Forest) (frames : List Frame) (k : ℕ) (frame : Frame) → AllStand program frames → slice_get frames k ≡ Some frame
    → suc k < length frames → StandsAt program true frame
lower_stands program [] k frame all found few = absurd (none-some frame found)
lower_stands program (one ∷ []) k frame all found few = absurd (omega (arith, few))
lower_stands program (one ∷ (above ∷ frames)) zero frame all found few = subst (StandsAt program true) (same_Some one frame found) all.0
lower_stands program (one ∷ (above ∷ frames)) (suc k) frame all found few =
    lower_stands program (above ∷ frames) k frame all.1 found (omega (arith, few))

top_stands : (program : Forest) (frames : List Frame) (k : ℕ) (frame : Frame) → AllStand program frames → slice_get frames k ≡ Some frame
    → suc k ≡ length frames → StandsAt program false frame × StandsAtStart program frame
top_stands program [] k frame all found last = absurd (none-some frame found)
top_stands program (one ∷ []) zero frame all found last =
    subst (λ (f : Frame). StandsAt program false f × StandsAtStart program f) (same_Some one frame found) all
top_stands program (one ∷ []) (suc k) frame all found last = absurd (none-some frame found)
top_stands program (one ∷ (above ∷ frames)) zero frame all found last = absurd (omega (arith, last))
top_stands program (one ∷ (above ∷ frames)) (suc k) frame all found last =
    top_stands program (above ∷ frames) k frame all.1 found (omega (arith, last))

stand_by_number : (program : Forest) (frames : List Frame)
    → ((k : ℕ) (frame : Frame) → slice_get frames k ≡ Some frame → suc k < length frames → StandsAt program true frame)
    → ((k : ℕ) (frame : Frame) → slice_get frames k ≡ Some frame → suc k ≡ length frames → StandsAt program false frame × StandsAtStart program frame)
    → AllStand program frames
stand_by_number program [] lower top = tt
stand_by_number program (one ∷ []) lower top = top 0 one refl refl
stand_by_number program (one ∷ (above ∷ frames)) lower top = (
  lower 0 one refl (omega arith),
  stand_by_number program (above ∷ frames) (λ k frame found few. lower (suc k) frame found (omega (arith, few)))
      (λ k frame found last. top (suc k) frame found (ap suc last)),
)

-- ---- from a configuration and back to it

pub fitting_frames : (program : Forest) (c : PlainConfiguration) → Fits program c → FramesFit program c.frames
fitting_frames program c fits =
    let cells : (k : ℕ) (frame : Frame) → slice_get c.frames k ≡ Some frame → AreVariables (Items program frame.procedure.0) frame.cells =
    each (λ (frame : Frame). AreVariables (Items program frame.procedure.0) frame.cells) c.frames fits.cells in
    record {
      some = fits.frames.some;
      few = fits.frames.few;
      main = fits.frames.main;
      lower =
          λ k frame found more.
          record {
            stands = lower_stands program c.frames k frame fits.frames.stand found more;
            cells = cells k frame found;
            loops = each (HasLoops program) c.frames fits.loops k frame found;
          };
      top =
          λ k frame found last.
          let stands = top_stands program c.frames k frame fits.frames.stand found last in
          (record { stands = stands.0; cells = cells k frame found; loops = each (HasLoops program) c.frames fits.loops k frame found }, stands.1);
      values = fits.values;
    }

-- a number of a list is below the last or the last
pub last_or_lower : (k n : ℕ) (P : Type 0) → k < n → (suc k < n → P) → (suc k ≡ n → P) → P
last_or_lower k zero P few lower last = absurd (omega (arith, few))
last_or_lower zero (suc zero) P few lower last = last refl
last_or_lower zero (suc (suc n)) P few lower last = lower (omega arith)
last_or_lower (suc k) (suc n) P few lower last =
    last_or_lower k n P (omega (arith, few)) (λ h. lower (omega (arith, h))) (λ e. last (ap suc e))

pub of_each : (program : Forest) (frames : List Frame) (P : Frame → Type 0) → FramesFit program frames
    → ((waits : Bool) (frame : Frame) → FrameFits program waits frame → P frame) → (k : ℕ) (frame : Frame) → slice_get frames k ≡ Some frame → P frame
of_each program frames P fit holds k frame found =
    last_or_lower k (length frames) (P frame) (slice_get_within frames k frame found) (λ more. holds true frame (fit.lower k frame found more))
    (λ last. holds false frame (fit.top k frame found last).0)

pub fits_with : (program : Forest) (c : PlainConfiguration) → FramesFit program c.frames → Fits program c
fits_with program c fit =
    record {
      frames =
          record {
            some = fit.some;
            few = fit.few;
            main = fit.main;
            stand =
                stand_by_number program c.frames (λ k frame found more. (fit.lower k frame found more).stands)
                (λ k frame found last. let top = fit.top k frame found last in (top.0.stands, top.1));
          };
      cells =
          all_of (λ (frame : Frame). AreVariables (Items program frame.procedure.0) frame.cells) c.frames
          (of_each program c.frames (λ frame. AreVariables (Items program frame.procedure.0) frame.cells) fit (λ waits frame one. one.cells));
      loops = all_of (HasLoops program) c.frames (of_each program c.frames (HasLoops program) fit (λ waits frame one. one.loops));
      values = fit.values;
    }

-- ---- a frame that may stand at its place

pub frame_fits : (laws : SiteLaws) (program : Forest) (waits : Bool) (frame : Frame) → ((slot : ℕ) → times slot program ≤ 1)
    → MayStand program waits frame.procedure.0 (map (λ kept. kept.slot.0) frame.loops) (frame_place frame)
    → AreVariables (Items program frame.procedure.0) frame.cells → FrameFits program waits frame
frame_fits laws program waits frame few may cells =
    record {
      stands = (
        may.kind,
        may.around,
        record { stands = may.stands; exists = may.exists; procedure = may.procedure_is; waiting = may.waiting },
      );
      cells = cells;
      loops =
          λ kind around stands.
          let same = laws.once program frame.place.slot.0 may.kind kind may.around around (few frame.place.slot.0) may.stands stands in
          sym may.loops_are ∙ (λ i. loops_at (same.0 i) (same.1 i) (frame_place frame));
    }
