-- `fitting_runs_are_kept`: for each frame of a run that fits a program its procedure stands there, and so does its
-- place; so what is kept for it is there.
use Rattle.std.specs.Prelude.{◌≡◌, refl, ℕ, zero, suc, Bool, IsSome, IsTrue, List, [], ◌∷◌, map, slice_get, Option, Some, None, option_map, unwrap_or}
use Rattle.std.proofs.Math.Bool.{false≢true}
use Rattle.template_tree.specs.Checks.Environment.{procedure_at}
use Rattle.template_tree.specs.Positions.Place.{Site, place_exists_at, site}
use Rattle.template_tree.specs.Programs.PlainTree.{PlainNode}
use Rattle.tree_steps.specs.RunPlace.{is_first_marked}
use Rattle.plcs_store.specs.declared.frame.Frame.{Frame}
use Rattle.plcs_store.specs.declared.held_template.HeldTemplate.{HeldTemplate}
use Rattle.plcs_store.specs.Resume.{heading_parts, kept_of, nothing_held, template_held}
use Rattle.suspend_state.specs.Suspension.{FittingRunsAreKept}
use Rattle.suspend_state.proofs.FittingFrames.{each_stands, have_procedures}

-- ---- what is there

mapped_there : {A B : Type 0} (f : A → B) (found : Option A) → IsSome found → IsSome (option_map f found)
mapped_there f None there = there
mapped_there f (Some a) there = refl

site_there : (marked : Bool) (found : Option Site) (point : ℕ) → IsTrue (place_exists_at marked found point) → IsSome found
site_there marked None point exists = exists
site_there marked (Some found) point exists = refl

-- what is there is what it is unwrapped
unwrapped_there : {A : Type 0} (found : Option A) (other : A) → IsSome found → found ≡ Some (unwrap_or found other)
unwrapped_there None other there = absurd (false≢true there)
unwrapped_there (Some a) other there = refl

-- what is told of each frame, if it is told of all
all_told : {A : Type 0} (other : A) (tell : Frame → Option A) (frames : List Frame)
    → ((number : ℕ) (frame : Frame) → slice_get frames number ≡ Some frame → IsSome (tell frame))
    → map tell frames ≡ map Some (map (λ (frame : Frame). unwrap_or (tell frame) other) frames)
all_told other tell [] there = refl
all_told other tell (frame ∷ frames) there =
    λ i. unwrapped_there (tell frame) other (there zero frame refl) i
    ∷ all_told other tell frames (λ number above e. there (suc number) above e) i

-- ---- the law

pub fitting_runs_are_kept : FittingRunsAreKept
unfolding kept_of
fitting_runs_are_kept program c fits =
    record {
      headings =
          all_told [] (λ (frame : Frame). heading_parts program frame.procedure.0) c.frames
          (λ number frame e.
          mapped_there (λ (node : PlainNode). node.label.parts) (procedure_at program frame.procedure.0)
          (have_procedures program c fits number frame e));
      declared = refl;
      held =
          all_told nothing_held (λ (frame : Frame). template_held program frame.place.slot.0) c.frames
          (λ number frame e.
          let stands = (each_stands program c.frames number frame fits.frames.stand e).1 in
          mapped_there (λ (found : Site). let held : HeldTemplate = record { kind = found.label.kind; parts = found.label.parts } in held)
          (site program frame.place.slot.0)
          (site_there (is_first_marked program frame.place.slot.0) (site program frame.place.slot.0) frame.place.point.0 stands.2.exists));
    }
