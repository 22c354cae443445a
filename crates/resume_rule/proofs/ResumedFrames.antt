-- `resumed_runs_fit`: the frames of a run that is resumed.
-- Of each frame is told, going up the list, that it fits the later tree; the newest is the last of them, and it alone
-- is resolved.
use Rattle.std.specs.Prelude.{◌≡◌, refl, ℕ, zero, suc, ◌≤◌, true, false, List, [], ◌∷◌, All, length, slice_get, Some, option_map}
use Rattle.std.proofs.Common.{ap, sym, ◌∙◌, subst, arith}
use Rattle.std.proofs.lemmas.Option.{none-some}
use Rattle.plcs_base.specs.declared.value.Kind.{Kind}
use Rattle.template_tree.specs.Checks.Environment.{Items, kind_of_type}
use Rattle.template_tree.specs.Programs.PlainTree.{Forest, PlainTree}
use Rattle.template_tree.specs.Programs.Slots.{first_slot}
use Rattle.template_tree.specs.Programs.Tree.{IsTree}
use Rattle.tree_steps.specs.AgreementLaws.{EditsAgree}
use Rattle.tree_steps.specs.SlotAgreement.{AgreesWith}
use Rattle.plcs_store.specs.declared.cell.Cell.{Cell}
use Rattle.plcs_store.specs.declared.frame.Frame.{Frame}
use Rattle.plcs_store.specs.Act.{with_newest}
use Rattle.plcs_store.specs.CellAt.{newest, variable_at}
use Rattle.plcs_store.specs.Fits.{AllStand, AreVariables, CellsFit, HasLoops, HoldsRight, IsOfMain, IsTarget, LoopsFit, StandsAt, ValuesFit}
use Rattle.plcs_store.specs.Limit.{most_frames}
use Rattle.plcs_store.specs.Resume.{resolved_frame}
use Rattle.resume_rule.specs.ResumeLaws.{EditedRunsFit, ResumedRunsFit}
use Rattle.resume_rule.proofs.AllowedFrames.{IsAllowed, allowed_frames}
use Rattle.resume_rule.proofs.NewestFrame.{changed_length, newest_above}
use Rattle.resume_rule.proofs.StandingFrames.{FrameFits, TreeLaws, frame_still_fits, newest_fits}

-- ---- main

-- main has the slot 0 in each tree
main_still : (was now : Forest) (before after : List Frame) → first_slot was ≡ Some 0 → first_slot now ≡ Some 0
    → option_map (λ frame. frame.procedure.0) (slice_get after 0) ≡ option_map (λ frame. frame.procedure.0) (slice_get before 0)
    → IsOfMain was before → IsOfMain now after
main_still Forest.nil now before after was_first now_first same main = absurd main
main_still (Forest.cons label inner rest) Forest.nil before after was_first now_first same main = absurd (none-some 0 now_first)
main_still (Forest.cons label inner rest) (Forest.cons other more others) before after was_first now_first same main =
    same ∙ main ∙ was_first ∙ sym now_first

first_procedure : (program : Forest) (frames : List Frame)
    → option_map (λ frame. frame.procedure.0) (slice_get (with_newest (resolved_frame program) frames) 0)
    ≡ option_map (λ frame. frame.procedure.0) (slice_get frames 0)
first_procedure program [] = refl
first_procedure program (one ∷ []) = refl
first_procedure program (one ∷ (above ∷ frames)) =
    ap (λ (list : List Frame). option_map (λ frame. frame.procedure.0) (slice_get list 0)) (newest_above (resolved_frame program) one above frames)

-- ---- values

same_variables : (program : Forest) (frames : List Frame) (k : ℕ) (name : List ℕ)
    → variable_at (with_newest (resolved_frame program) frames) k name ≡ variable_at frames k name
same_variables program [] k name = refl
same_variables program (one ∷ []) zero name = refl
same_variables program (one ∷ []) (suc k) name = refl
same_variables program (one ∷ (above ∷ frames)) zero name =
    ap (λ (list : List Frame). variable_at list 0 name) (newest_above (resolved_frame program) one above frames)
same_variables program (one ∷ (above ∷ frames)) (suc k) name =
    ap (λ (list : List Frame). variable_at list (suc k) name) (newest_above (resolved_frame program) one above frames)
    ∙ same_variables program (above ∷ frames) k name

right_still : (before after : List Frame) → ((k : ℕ) (name : List ℕ) → variable_at after k name ≡ variable_at before k name)
    → (k : ℕ) (kind : Kind) (cell : Cell) → HoldsRight before k kind cell → HoldsRight after k kind cell
right_still before after same k kind Cell.Unset right = right
right_still before after same k kind (Cell.Held value) right = right
right_still before after same k kind (Cell.Ref location) right =
    let target : IsTarget before kind location = right.1 in (
      right.0,
      record {
        variable = target.variable;
        there = same location.frame location.name ∙ target.there;
        kind_is = target.kind_is;
        cell = target.cell;
        cell_there = target.cell_there;
        plain = target.plain;
      },
    )

values_still : (before after : List Frame) → ((k : ℕ) (name : List ℕ) → variable_at after k name ≡ variable_at before k name)
    → ValuesFit before → ValuesFit after
values_still before after same fit k element name variable cell there held =
    right_still before after same k (kind_of_type variable.ty) cell
    (fit k element name variable cell (sym (same k name) ∙ there) held)

-- ---- going up

all_before : {A : Type 0} (P : A → Type 0) (x : A) (xs : List A) → P x → All P xs → All P (x ∷ xs)
all_before P x xs first others zero d few = first
all_before P x xs first others (suc k) d few = others k d (omega (arith, few))

all_behind : {A : Type 0} (P : A → Type 0) (x : A) (xs : List A) → All P (x ∷ xs) → All P xs
all_behind P x xs all k d few = all (suc k) d (omega (arith, few))

all_first : {A : Type 0} (P : A → Type 0) (x : A) (xs : List A) → All P (x ∷ xs) → P x
all_first P x xs all = all 0 x (omega arith)

no_frames : {A : Type 0} (P : A → Type 0) → All P []
no_frames P k d few = absurd (omega (arith, few))

stand_before : (program : Forest) (frame : Frame) (frames : List Frame) → 1 ≤ length frames → StandsAt program true frame → AllStand program frames
    → AllStand program (frame ∷ frames)
stand_before program frame [] some stands all = absurd (omega (arith, some))
stand_before program frame (above ∷ frames) some stands all = (stands, all)

-- the cells of a frame are those of its procedure in the program
abbrev HasCells : (program : Forest) → Frame → Type 0
HasCells program frame = AreVariables (Items program frame.procedure.0) frame.cells

-- frames fit the program but for their values
record FramesFit (program : Forest) (frames : List Frame) : Type 0 where
  pub stand : AllStand program frames
  pub cells : CellsFit program frames
  pub loops : LoopsFit program frames

module _ (laws : TreeLaws) (earlier later : PlainTree) (is_earlier : IsTree earlier) (is_later : IsTree later) (agrees : AgreesWith earlier later) where
  frames_go_on : (frames : List Frame) → FramesFit earlier.items frames
      → ((k : ℕ) (frame : Frame) → slice_get frames k ≡ Some frame → IsAllowed earlier.items later.items frame)
      → FramesFit later.items (with_newest (resolved_frame later.items) frames)
  frames_go_on [] fit allowed =
      record { stand = tt; cells = no_frames (HasCells later.items); loops = no_frames (HasLoops later.items) }
  frames_go_on (one ∷ []) fit allowed =
      let was : FrameFits earlier.items false one =
      record {
        stands = fit.stand.0;
        cells = all_first (HasCells earlier.items) one [] fit.cells;
        loops = all_first (HasLoops earlier.items) one [] fit.loops;
      } in
      let fits = newest_fits laws earlier later is_earlier is_later agrees one was (allowed 0 one refl) in
      record {
        stand = (fits.0.stands, fits.1);
        cells = all_before (HasCells later.items) (resolved_frame later.items one) [] fits.0.cells (no_frames (HasCells later.items));
        loops = all_before (HasLoops later.items) (resolved_frame later.items one) [] fits.0.loops (no_frames (HasLoops later.items));
      }
  frames_go_on (one ∷ (above ∷ frames)) fit allowed =
      let resolve : Frame → Frame = resolved_frame later.items in
      let others : List Frame = with_newest resolve (above ∷ frames) in
      let was : FrameFits earlier.items true one =
      record {
        stands = fit.stand.0;
        cells = all_first (HasCells earlier.items) one (above ∷ frames) fit.cells;
        loops = all_first (HasLoops earlier.items) one (above ∷ frames) fit.loops;
      } in
      let fits = frame_still_fits laws earlier later is_earlier is_later agrees true one was (allowed 0 one refl) in
      let were : FramesFit earlier.items (above ∷ frames) =
      record {
        stand = fit.stand.1;
        cells = all_behind (HasCells earlier.items) one (above ∷ frames) fit.cells;
        loops = all_behind (HasLoops earlier.items) one (above ∷ frames) fit.loops;
      } in
      let rest : FramesFit later.items others = frames_go_on (above ∷ frames) were (λ k frame found. allowed (suc k) frame found) in
      let same : length others ≡ suc (length frames) = changed_length (newest (above ∷ frames)) resolve (above ∷ frames) in
      let all : FramesFit later.items (one ∷ others) =
      record {
        stand = stand_before later.items one others (omega (arith, same)) fits.stands rest.stand;
        cells = all_before (HasCells later.items) one others fits.cells rest.cells;
        loops = all_before (HasLoops later.items) one others fits.loops rest.loops;
      } in
      subst (FramesFit later.items) (sym (newest_above resolve one above frames)) all

-- ---- the laws

pub resumed_runs_fit : TreeLaws → ResumedRunsFit
resumed_runs_fit laws earlier later c kept is_earlier is_later agrees fits is_kept may =
    let resolve : Frame → Frame = resolved_frame later.items in
    let after : List Frame = with_newest resolve c.frames in
    let same : length after ≡ length c.frames = changed_length (newest c.frames) resolve c.frames in
    let were : FramesFit earlier.items c.frames =
    record { stand = fits.frames.stand; cells = fits.cells; loops = fits.loops } in
    let fit : FramesFit later.items after =
    frames_go_on laws earlier later is_earlier is_later agrees c.frames were
    (allowed_frames earlier.items later.items c.frames kept.headings kept.declared kept.held is_kept.declared is_kept.held may) in
    record {
      frames =
          record {
            some = subst (λ (n : ℕ). 1 ≤ n) (sym same) fits.frames.some;
            few = subst (λ (n : ℕ). n ≤ most_frames) (sym same) fits.frames.few;
            main =
                main_still earlier.items later.items c.frames after is_earlier.main is_later.main (first_procedure later.items c.frames) fits.frames.main;
            stand = fit.stand;
          };
      cells = fit.cells;
      loops = fit.loops;
      values = values_still c.frames after (same_variables later.items c.frames) fits.values;
    }

pub edited_runs_fit : TreeLaws → EditsAgree → EditedRunsFit
edited_runs_fit laws agree earlier later c kept is_earlier is_later came fits is_kept may =
    resumed_runs_fit laws earlier later c kept is_earlier is_later (agree earlier later is_earlier came) fits is_kept may
